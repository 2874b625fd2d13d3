use Rattle.std.proofs.Common.{[], drop, refl, sym}
use Rattle.std.proofs.lemmas.List.{append-nil}
use Rattle.apd_world.specs.StandsFor.{waiting_outs}
use Rattle.apd_world.proofs.CoreHistories.{flight_kept}
use Rattle.apd_world.proofs.world.World.show_images.Goals as goal

pub returns-clause-images : goal.returns-clause-images
returns-clause-images g c = λ proper. record { now = c.show_images.ensures.now proper; durable = λ late hs u. c.show_images.ensures.durable proper hs u late }

pub returns-clause-kept : goal.returns-clause-kept
returns-clause-kept g c = λ proper j stands image left.
    flight_kept j c.args.self.now.durable.core (λ r. waiting_outs r c.args.self.now) stands [] j image refl refl (sym (append-nil j.happened)) (c.show_images.ensures.now proper (drop j.durable j.happened) stands.unsettled image left)
