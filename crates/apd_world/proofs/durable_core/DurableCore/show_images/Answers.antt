use Rattle.std.proofs.Common.{subst}
use Rattle.apd_world.proofs.Words.{Shows, flight_of}
use Rattle.apd_world.proofs.DurableSteps.{after_flight_runs, shows_flight}
use Rattle.apd_world.proofs.durable_core.DurableCore.show_images.Goals as goal

pub returns-clause-now : goal.returns-clause-now
returns-clause-now g c = λ p hs u image left.
    let s = c.args.self.now.core in
    shows_flight s hs u image (c.show_images.ensures.now s.settled (flight_of s) s.failed p.whole p.imaged image left)

pub returns-clause-durable : goal.returns-clause-durable
returns-clause-durable g c = λ p hs u late image left.
    let s = c.args.self.now.core in
    subst (Shows image) (after_flight_runs s hs u) (c.show_images.ensures.durable s.settled (flight_of s) s.failed p.whole p.imaged late image left)
