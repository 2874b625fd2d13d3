use Rattle.std.proofs.Common.{refl}
use Rattle.std.proofs.lemmas.Result.{IfOk-weaker}
use Rattle.apd_script.proofs.Doing.{ended}
use Rattle.apd_script.proofs.script.runner.Runner.start.Goals as goal

pub returns-clause-ok : goal.returns-clause-ok
returns-clause-ok g c = IfOk-weaker c.start.result _ _ (λ all h. record { answers = all.items; started = h; only = refl }) c.start.ensures.started

pub returns-clause-err : goal.returns-clause-err
returns-clause-err g c = ended g.D.Disk.model g.R.Radio.model c.start.result c.args.self.now.world c.start.new.self c.start.ensures.err c.start.ensures.failed
