use Rattle.std.proofs.Common.{subst, sym}
use Rattle.apd_flusher.specs.Flushing.{Stands}
use Rattle.apd_flusher.specs.Outside.{next_of, table_of}
use Rattle.apd_flusher.specs.declared.flusher.Flusher.{Flusher}
use Rattle.apd_desk.proofs.flushing.flush_worker.Goals as goal

pub returns-clause-stands : goal.returns-clause-stands
returns-clause-stands g c = λ honest s steady.
    let imaged = c.commit_all-ending.ensures.keeps.imaged (c.new-committer.ensures.imaged honest s steady) in
    subst (λ (f : Flusher g.row.D.Denot). Stands g.D.Disk.model f (table_of f) (next_of f)) (sym c.into_parts-flusher.ensures.flusher) imaged.stands
