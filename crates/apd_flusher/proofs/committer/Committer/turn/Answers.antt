use Rattle.apd_disk.proofs.Moments.{weaker}
use Rattle.apd_flusher.specs.Committing.{ShowsEither}
use Rattle.apd_flusher.specs.Flushing.{StopShows}
use Rattle.apd_flusher.specs.Outside.{calls_left, flusher_device, flusher_of, next_of, phase_of, table_of}
use Rattle.apd_flusher.proofs.CommitterCalls.{shows_either, turn_keeps}
use Rattle.apd_flusher.proofs.committer.Committer.turn.Goals as goal

pub returns-clause-keeps : goal.returns-clause-keeps
returns-clause-keeps g c =
    let old = c.args.self.now in
    turn_keeps g.D.Disk.model c.turn.result old (record old { flusher = c.turn.new.self }) c.turn.ensures.turn c.turn.ensures.between

pub returns-clause-any_moment : goal.returns-clause-any_moment
returns-clause-any_moment g c = λ s flight failed whole imaged.
    let old = c.args.self.now in
    let f = flusher_of old in
    weaker g.D.Disk.model (flusher_device f) (flusher_device c.turn.new.self) (StopShows (phase_of f) (calls_left f) (table_of f) (next_of f)) (ShowsEither s flight)
    (λ image. shows_either old image s flight failed whole.in_step) ((c.turn.ensures.between (table_of f) (next_of f)).any_moment imaged.honest imaged.stands)
