use Rattle.apd_script.proofs.Doing.{tried}
use Rattle.apd_script.proofs.script.runner.Runner.attempt.Goals as goal

pub returns : goal.returns
returns g c =
    tried g.D.Disk.model g.R.Radio.model c.args.step.now c.make-told.result c.args.self.now c.make-told.new.self c.or-self.result c.refusal_of.result
    c.make-told.ensures c.or-self.ensures c.refusal_of.ensures
