use Rattle.apd_world.proofs.Words.{flight_of}
use Rattle.apd_world.proofs.durable_core.DurableCore.stops.Goals as goal

pub returns : goal.returns
returns g c =
    let s = c.args.self.now.core in
    record { whole = λ h. h; proper = λ p. p; inside = λ p. c.show_images.ensures.any_moment s.settled (flight_of s) s.failed p.whole p.imaged }
