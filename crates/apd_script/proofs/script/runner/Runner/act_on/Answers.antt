use Rattle.std.proofs.Common.{refl}
use Rattle.apd_script.specs.Lines.{Command, Flush, Hand, Tick}
use Rattle.apd_script.proofs.Doing.{unsaid, unsaid_alone}
use Rattle.apd_script.proofs.script.runner.Runner.act_on.Goals as goal

pub returns-in-Received-clause-ok : goal.returns-in-Received-clause-ok
returns-in-Received-clause-ok g c = rw c.in-Received.is (λ _. rw c.as_slice.ensures at c.receive.ensures.ok)

pub returns-in-Received-clause-err : goal.returns-in-Received-clause-err
returns-in-Received-clause-err g c = rw c.in-Received.is (rw c.as_slice.ensures at c.receive.ensures.err)

pub returns-in-Command-clause-ok : goal.returns-in-Command-clause-ok
returns-in-Command-clause-ok g c = rw c.in-Command.is (λ _. c.carry_out.ensures.ok)

pub returns-in-Command-clause-err : goal.returns-in-Command-clause-err
returns-in-Command-clause-err g c =
    rw c.in-Command.is (unsaid_alone g.D.Disk.model g.R.Radio.model _ c.args.number ((Command c.in-Command.text.now)) c.args.self.now c.carry_out.result (λ done. (c.carry_out.new.self, done)) c.carry_out.ensures.err)

pub returns-in-Tick-clause-ok : goal.returns-in-Tick-clause-ok
returns-in-Tick-clause-ok g c = rw c.in-Tick.is (λ _. c.tick.ensures.ok)

pub returns-in-Tick-clause-err : goal.returns-in-Tick-clause-err
returns-in-Tick-clause-err g c =
    rw c.in-Tick.is (unsaid_alone g.D.Disk.model g.R.Radio.model _ c.args.number ((Tick c.in-Tick.moment)) c.args.self.now c.tick.result (λ done. (c.tick.new.self, done)) c.tick.ensures.err)

pub returns-in-Hand-clause-ok : goal.returns-in-Hand-clause-ok
returns-in-Hand-clause-ok g c = rw c.in-Hand.is (λ _. c.hand_out_and_print.ensures.ok)

pub returns-in-Hand-clause-err : goal.returns-in-Hand-clause-err
returns-in-Hand-clause-err g c =
    rw c.in-Hand.is (unsaid g.D.Disk.model g.R.Radio.model _ _ c.args.number (Hand) c.args.self.now c.hand_out_and_print.result (λ done. (c.hand_out_and_print.new.self, done)) (λ why refused. (c.hand_out_and_print.new.self.world, refused)) c.hand_out_and_print.ensures.err)

pub returns-in-Flush-clause-ok : goal.returns-in-Flush-clause-ok
returns-in-Flush-clause-ok g c = rw c.in-Flush.is (λ _. c.flush_and_print.ensures.ok)

pub returns-in-Flush-clause-err : goal.returns-in-Flush-clause-err
returns-in-Flush-clause-err g c =
    rw c.in-Flush.is (unsaid g.D.Disk.model g.R.Radio.model _ _ c.args.number (Flush) c.args.self.now c.flush_and_print.result (λ done. (c.flush_and_print.new.self, done)) (λ why refused. (c.flush_and_print.new.self.world, refused)) c.flush_and_print.ensures.err)

pub returns-in-Take-clause-ok : goal.returns-in-Take-clause-ok
returns-in-Take-clause-ok g c = rw c.in-Take.is (λ _. c.attempt.ensures)

pub returns-in-Call-clause-ok : goal.returns-in-Call-clause-ok
returns-in-Call-clause-ok g c = rw c.in-Call.is (λ _. c.attempt-in-Call.ensures)

pub returns-in-Publish-clause-ok : goal.returns-in-Publish-clause-ok
returns-in-Publish-clause-ok g c = rw c.in-Publish.is (λ _. c.attempt-in-Publish.ensures)

pub returns-in-Empty-clause-ok : goal.returns-in-Empty-clause-ok
returns-in-Empty-clause-ok g c = rw c.in-Empty.is (λ _. refl)

pub returns-in-Stop-clause-ok : goal.returns-in-Stop-clause-ok
returns-in-Stop-clause-ok g c = λ none. absurd (none c.in-Stop.is)
