use Rattle.std.proofs.Common.{◌∙◌, arith}
use Rattle.apd_disk.specs.for_proofs.MemLaws.{length-reads}
use Rattle.apd_disk.proofs.Calls.{elapses_push, goes_on_by_one, goes_on_by_none, write_stands, write_fits, write_stop}
use Rattle.apd_disk.proofs.mem.MemDiskDisk.write_at.Goals as goal
use Rattle.apd_disk.specs.declared.call.Call.TheVariants.{Write}

pub invariant_of-self : goal.invariant_of-self
invariant_of-self c =
    let d = c.args.self.now in
    record {
      stands = c.overwrite.ensures ∙ write_stands d.initial.items d.calls.items c.record_write.new.calls.items d.bytes.items d.stands d.fit c.args.at c.args.bytes.now c.in-Ok.ensures.ok;
      fit = write_fits d.initial.items d.calls.items c.record_write.new.calls.items d.bytes.items d.stands d.fit c.args.at c.args.bytes.now (omega (arith, c.requires, length-reads d.initial.items d.calls.items d.bytes.items d.stands d.fit)) c.in-Ok.ensures.ok;
    }

pub returns-in-Ok-clause-stop : goal.returns-in-Ok-clause-stop
returns-in-Ok-clause-stop c =
    let d = c.args.self.now in
    write_stop d.initial.items d.calls.items c.record_write.new.calls.items d.bytes.items d.stands d.fit c.args.at c.args.bytes.now c.in-Ok.ensures.ok

pub returns-in-Ok-clause-time : goal.returns-in-Ok-clause-time
returns-in-Ok-clause-time c =
    let d = c.args.self.now in
    elapses_push d.initial.items d.calls.items c.record_write.new.calls.items (Write c.args.at c.args.bytes.now) c.in-Ok.ensures.ok

pub returns-in-Ok-clause-goes_on : goal.returns-in-Ok-clause-goes_on
returns-in-Ok-clause-goes_on c =
    let d = c.args.self.now in
    goes_on_by_one d.initial.items d.calls.items c.record_write.new.calls.items (Write c.args.at c.args.bytes.now) c.in-Ok.ensures.ok

pub returns-in-Err-clause-goes_on : goal.returns-in-Err-clause-goes_on
returns-in-Err-clause-goes_on c =
    let d = c.args.self.now in
    goes_on_by_none d.initial.items d.calls.items c.record_write.new.calls.items c.in-Err.ensures.err
