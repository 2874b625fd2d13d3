use Rattle.apd_flusher.proofs.Turns.{shows}
use Rattle.apd_flusher.proofs.flusher.Flusher.show_images.Goals as goal

pub returns-clause-shown : goal.returns-clause-shown
returns-clause-shown g c = λ state after stands i left.
    let of = c.show_images.ensures in
    shows g.D.Disk.model c.args.self.now state after i
    (λ s. of.idle state s i left) (λ s. of.under_way state after s i left) (λ s done. of.done state after s done i left) (λ s. of.stuck state after s i left) stands

pub returns-clause-before : goal.returns-clause-before
returns-clause-before g c = λ state after s early i left. c.show_images.ensures.before state after s.committing early i left
