use Rattle.std.proofs.Common.{refl}
use Rattle.apd_world.proofs.RunLemmas.{one_made}
use Rattle.apd_script.proofs.script.runner.Runner.make.Goals as goal

pub returns : goal.returns
returns g c = record {
  safely = one_made g.D.Disk.model g.R.Radio.model c.args.step.now c.step.result c.args.self.now.world c.step.new.self
      c.step.ensures.step c.step.ensures.made c.step.ensures.stops;
  only = refl;
}
