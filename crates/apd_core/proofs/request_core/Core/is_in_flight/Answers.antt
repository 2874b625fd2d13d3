use Rattle.std.proofs.Common.{◌≡◌, ◌≤◌, ◌+◌, true, sym, ◌∙◌, arith}
use Rattle.apd_core.proofs.Words.{Decides-eqb, false≢true, ltb-true}
use Rattle.apd_core.proofs.Publishing.{in_flight}
use Rattle.apd_core.proofs.SameChanges.{changes_decide}
use Rattle.apd_core.proofs.request_core.Core.is_in_flight.Goals.{then-self-gt0, else-self-gt0, then-batch-self, else-batch-self}
use Rattle.apd_core.proofs.request_core.Core.is_in_flight.Goals as goal

pub returns-then-batch-self-2 : goal.returns-then-batch-self-2
returns-then-batch-self-2 c =
    let a = c.self.inside in
    let b = c.args.batch.now in
    let both : c.if-self-gt0.value ≡ true = elim c.if-batch-self.branch [
      | then-batch-self w ↦ w.if-batch-self.true
      | else-batch-self w ↦ absurd (false≢true (sym w.if-batch-self.false ∙ sym w.value-is ∙ c.if-batch-self-2.true))
    ] in
    let last : b.last ≡ a.number + a.flight = elim c.if-batch-self.branch [
      | then-batch-self w ↦ (Decides-eqb b.last (a.number + a.flight)).0 (sym w.value-is ∙ c.if-batch-self-2.true)
      | else-batch-self w ↦ absurd (false≢true (sym w.if-batch-self.false ∙ sym w.value-is ∙ c.if-batch-self-2.true))
    ] in
    let some : 1 ≤ a.flight = elim c.if-self-gt0.branch [
      | then-self-gt0 w ↦ omega (arith, w.if-self-gt0.true)
      | else-self-gt0 w ↦ omega (arith, ltb-true 0 a.flight (sym w.value-is ∙ both))
    ] in
    let first : b.first ≡ a.number + 1 = elim c.if-self-gt0.branch [
      | then-self-gt0 w ↦ (Decides-eqb b.first (a.number + 1)).0 (sym w.value-is ∙ both)
      | else-self-gt0 w ↦ absurd (omega (arith, w.if-self-gt0.false, ltb-true 0 a.flight (sym w.value-is ∙ both)))
    ] in
    in_flight a c.args.self.now b c.eq.result c.self.view_is c.self.invariant some first last
    (changes_decide b.changes a.batch c.as_slice.result.now c.as_slice-then-batch-self-2.result.now c.eq.result c.as_slice.ensures c.as_slice-then-batch-self-2.ensures c.eq.ensures)
