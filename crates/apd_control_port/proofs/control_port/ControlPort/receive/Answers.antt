use Rattle.std.proofs.Common.{◌≢◌, ◌∙◌, sym}
use Rattle.apd_control_port.proofs.Waiting.{taken_in}
use Rattle.apd_control_port.proofs.control_port.ControlPort.receive.Goals as goal

pub returns-clause-foreign : goal.returns-clause-foreign
returns-clause-foreign c =
    taken_in (λ datagram. (datagram.0, datagram.1.items)) (λ waited. waited.0 ≢ c.args.self.now.own) c.args.self.now.received c.in_ok-self.field-0 c.args.self.now.datagrams c.next_command.new.datagrams (sym c.is_some.ensures ∙ c.if-is_some.false) c.in_ok-self.ensures.first
