use Rattle.std.proofs.Common.{refl}
use Rattle.std.proofs.lemmas.Result.{IfOk-weaker}
use Rattle.apd_script.proofs.Doing.{ended}
use Rattle.apd_script.proofs.script.runner.Runner.flush.Goals as goal

pub returns-clause-ok : goal.returns-clause-ok
returns-clause-ok g c = λ none. IfOk-weaker c.flush.result _ _ (λ all h. record { none = none; answers = all.items; flushed = h; only = refl }) c.flush.ensures.flushed

pub returns-clause-err : goal.returns-clause-err
returns-clause-err g c = ended g.D.Disk.model g.R.Radio.model c.flush.result c.args.self.now.world c.flush.new.self c.flush.ensures.err c.flush.ensures.failed
