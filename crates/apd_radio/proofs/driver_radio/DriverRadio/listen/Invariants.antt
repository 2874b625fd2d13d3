use Rattle.std.proofs.Common.{◌≡◌}
use Rattle.apd_radio.specs.Drivers.{Heeds, PassesOver, WaitsOrCame}
use Rattle.apd_radio.proofs.driver_radio.DriverRadio.listen.Given as goal

-- what came in so far holds no frame of the driver's, and is heeded
abbrev pub invariant-loop : goal.invariant-loop
invariant-loop l = record {
  passes : PassesOver l.fn.self.driver.address l.fn.self.driver.received.items l.self.driver.received.items;
  heeds : Heeds l.fn.self.driver.address l.fn.self.driver.received.items l.self.driver.received.items l.fn.self.due l.fn.self.failed l.self.due l.self.failed;
  waits : WaitsOrCame l.fn.self.driver.datagrams l.fn.self.driver.received.items l.self.driver.datagrams l.self.driver.received.items;
  driver : l.self.driver ≡ record l.fn.self.driver { datagrams = l.self.driver.datagrams; received = l.self.driver.received };
  same : l.self ≡ record l.fn.self { driver = l.self.driver; due = l.self.due; failed = l.self.failed };
}
