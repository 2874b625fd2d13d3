use Rattle.apd_world.proofs.FromSteps.{fails}
use Rattle.apd_world.proofs.durable_core.DurableCore.fail.Goals as goal

pub returns : goal.returns
returns g c =
    let old = c.args.self.now in
    let both = fails g.D.Disk.model old (record old { core = c.fail.new.core }) c.fail.ensures in
    record { only = both.0; safe = both.1 }
