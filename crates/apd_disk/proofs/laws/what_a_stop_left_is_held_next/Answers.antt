use Rattle.std.proofs.Common.{List, sym, ◌∙◌, ap, subst}
use Rattle.apd_disk.specs.FileCalls.{FileCall, file_reads, FileLeaves, FileLeftSince, IsHonestFile}
use Rattle.apd_disk.specs.for_proofs.FileLaws.{since_length}
use Rattle.apd_disk.proofs.laws.what_a_stop_left_is_held_next.Goals as goal

pub returns-clause-honest : goal.returns-clause-honest
returns-clause-honest g c = λ t before after h found.
    subst (λ (calls : List FileCall). IsHonestFile after.len after.known.held calls) (sym found.no_call)
    (since_length before.len before.known.held t before.known.calls after.known.held h found.held
    ∙ sym found.same_length)

pub returns-clause-left : goal.returns-clause-left
returns-clause-left g c = λ t before after found.
    subst (λ (calls : List FileCall). FileLeftSince before.known.held before.known.calls t (file_reads after.known.held calls))
    (sym found.no_call) found.held

pub returns-clause-durable : goal.returns-clause-durable
returns-clause-durable g c = λ t before after found image left.
    subst (λ (calls : List FileCall). FileLeaves after.known.held calls image) found.no_call left
    ∙ ap (λ (calls : List FileCall). file_reads after.known.held calls) (sym found.no_call)
