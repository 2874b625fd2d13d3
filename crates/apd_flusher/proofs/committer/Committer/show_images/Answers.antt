use Rattle.apd_disk.proofs.Moments.{started}
use Rattle.apd_flusher.specs.Committing.{ShowsEither}
use Rattle.apd_flusher.specs.Outside.{flusher_device, flusher_of, next_of, table_of}
use Rattle.apd_flusher.proofs.CommitterCalls.{shows_after, shows_either}
use Rattle.apd_flusher.proofs.committer.Committer.show_images.Goals as goal

pub returns-clause-now : goal.returns-clause-now
returns-clause-now g c = λ s flight failed whole imaged image left.
    let it = c.args.self.now in
    let f = flusher_of it in
    shows_either it image s flight failed whole.in_step (c.show_images.ensures.shown (table_of f) (next_of f) imaged.stands image left)

pub returns-clause-any_moment : goal.returns-clause-any_moment
returns-clause-any_moment g c = λ s flight failed whole imaged.
    let it = c.args.self.now in
    let f = flusher_of it in
    started g.D.Disk.model (flusher_device f) (ShowsEither s flight)
    (λ image since. shows_either it image s flight failed whole.in_step (c.show_images.ensures.shown (table_of f) (next_of f) imaged.stands image (g.met.D.Disk.only_now (flusher_device f) image imaged.honest since)))

pub returns-clause-durable : goal.returns-clause-durable
returns-clause-durable g c = λ s flight failed whole imaged late image left.
    let it = c.args.self.now in
    let f = flusher_of it in
    shows_after it image s flight failed whole.in_step late (c.show_images.ensures.shown (table_of f) (next_of f) imaged.stands image left)
