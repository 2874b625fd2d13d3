use Rattle.std.proofs.Common.{refl}
use Rattle.apd_world.proofs.HistoryBegins.{begun, begun_stands}
use Rattle.apd_world.proofs.world.World.history.Goals as goal

pub returns : goal.returns
returns g c =
    let w = c.args.self.now in
    let is = c.sound.ensures in (
      begun w is,
      record { stands = begun_stands w is; first = refl; durable = refl; owed = λ r. refl; given = λ r. refl; read = refl },
    )
