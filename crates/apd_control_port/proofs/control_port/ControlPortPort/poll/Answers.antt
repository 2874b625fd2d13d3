use Rattle.std.proofs.Common.{◌≢◌, is_some, ap}
use Rattle.apd_control_port.specs.Commands.{waiting_datagram}
use Rattle.apd_control_port.proofs.Waiting.{none_waited}
use Rattle.apd_control_port.proofs.control_port.ControlPortPort.poll.Goals as goal

pub returns-in_default-clause-own : goal.returns-in_default-clause-own
returns-in_default-clause-own c =
    none_waited (λ datagram. (datagram.0, datagram.1.items)) (λ waited. waited.0 ≢ c.args.self.now.own) (waiting_datagram c.args.self.now) c.receive.new.self.received c.receive.new.self.datagrams (ap is_some c.in_default.is) c.in_ok-receive.ensures.given c.in_ok-receive.ensures.foreign
