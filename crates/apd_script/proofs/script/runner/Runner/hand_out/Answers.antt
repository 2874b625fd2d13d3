use Rattle.std.proofs.Common.{refl}
use Rattle.std.proofs.lemmas.Result.{IfOk-weaker}
use Rattle.apd_script.proofs.Doing.{short}
use Rattle.apd_script.proofs.script.runner.Runner.hand_out.Goals as goal

pub returns-clause-ok : goal.returns-clause-ok
returns-clause-ok g c = IfOk-weaker c.hand_out.result _ _ (λ all h. record { answers = all.items; handed = h; only = refl }) c.hand_out.ensures.handed

pub returns-clause-err : goal.returns-clause-err
returns-clause-err g c = short g.D.Disk.model g.R.Radio.model c.hand_out.result c.args.self.now.world c.hand_out.new.self c.hand_out.ensures.err c.hand_out.ensures.fault
