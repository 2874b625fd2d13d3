use Rattle.std.proofs.Common.{◌≡◌, ℕ, List, Option, Some, None, Result, Ok, Err, refl, sym, ◌∙◌, ap, subst}
use Rattle.std.specs.List.{find}
use Rattle.apd_base.specs.declared.address.Bssid.{Bssid}
use Rattle.apd_frame.specs.declared.kind.Kind.{Kind}
use Rattle.apd_frame.specs.declared.ignored.Ignored.{Ignored}
use Rattle.apd_frame.specs.declared.ignored.Ignored.TheVariants.{Subtype}
use Rattle.apd_frame.specs.Contents.{Contents}
use Rattle.apd_frame.specs.Kinds.{is_of, kinds, kind_of}
use Rattle.apd_frame.specs.Outcome.{holds, reasons, unless, outcome, IsOutcome}
use Rattle.apd_frame.proofs.FirstReason.{told_first, told_none, first_holds, found_passes, none_earlier, none_holds}
use Rattle.apd_frame.proofs.ContentsLemmas.{said, says_at}
use Rattle.apd_frame.proofs.decoder.exactly_one_outcome.Goals as goal

-- what holds is the outcome
only : (f : List ℕ) (own : Bssid) (x : Result Contents Ignored) → IsOutcome f own x → x ≡ outcome f own
only f own (Err r) h = sym (ap (λ o. unless f o (kind_of f)) (told_first (holds f own) r h.holds_here h.none_before))
only f own (Ok c) h =
    let s = said f c h.says in
    ap Ok s.2 ∙ sym (ap (λ o. unless f o (kind_of f)) (told_none (holds f own) h.no_reason) ∙ ap (unless f None) s.1)

-- and the outcome holds
there : (f : List ℕ) (own : Bssid) → IsOutcome f own (outcome f own)
there f own = go (find (holds f own) reasons) refl (kind_of f) refl
  where
    go : (o : Option Ignored) → find (holds f own) reasons ≡ o → (k : Option Kind) → kind_of f ≡ k → IsOutcome f own (unless f o k)
    go (Some r) e k of_kind = record { holds_here = first_holds (holds f own) r e; none_before = none_earlier (holds f own) r e }
    go None e (Some k) of_kind =
        record { no_reason = none_holds (holds f own) e; says = says_at f k (found_passes (is_of f) kinds k of_kind) }
    go None e None of_kind = absurd (none_holds (holds f own) e Subtype (rw of_kind refl))

pub returns : goal.returns
returns c = λ f own x. (only f own x, λ e. let P : Result Contents Ignored → Type 0 = λ y. IsOutcome f own y in subst P (sym e) (there f own))
