-- What a note at a place changes.
use Rattle.std.proofs.Common.{◌≡◌, ◌≢◌, ℕ, suc, zero, ◌<◌, Bool, true, false, cond, List, [], ◌∷◌, length, get_or, set, Option, None, Some, refl, subst, sym, ap, ◌∙◌, arith}
use Rattle.std.specs.List.{find, position}
use Rattle.std.specs.Option.{option_map}
use Rattle.std.specs.Prelude.{IfSome}
use Rattle.std.specs.Ordering.{eq_by_cmp}
use Rattle.std.specs.Cmp.{eq_by_cmp_equiv}
use Rattle.std.proofs.lemmas.List.Folds.{find_past}
use Rattle.std.proofs.lemmas.List.Quantifiers.{position-Some}
use Rattle.apd_base.specs.declared.address.Bssid.{Bssid}
use Rattle.apd_base.specs.Addr.{bssid_cmp}
use Rattle.apd_conf.specs.declared.conf.Conf.{Conf}
use Rattle.apd_base.proofs.AddrLemmas.{bssid_total, same_bssid}
use Rattle.apd_desk.specs.RadioNotes.{Noting, is_for, is_note_of, is_noted_up, is_up_at, says_up}

-- a write of an element that passes, behind elements that fail
finds_set : {X : Type 0} (p : X → Bool) (xs : List X) (i : ℕ) (y d : X) → i < length xs → ((k : ℕ) → k < i → p (get_or xs k d) ≡ false) → p y ≡ true → find p (set xs i y) ≡ Some y
finds_set p [] i y d lt fails passes = absurd (omega arith)
finds_set p (x ∷ xs) zero y d lt fails passes = ap (λ t. cond t (Some y) (find p xs)) passes
finds_set p (x ∷ xs) (suc i) y d lt fails passes =
    ap (λ t. cond t (Some x) (find p (set xs i y))) (fails zero (omega arith)) ∙ finds_set p xs i y d (omega arith) (λ k h. fails (suc k) (omega arith)) passes

not_of : (b : Bssid) (place : Noting) → is_for b place ≡ false → is_note_of b place ≡ false
not_of b None fails = refl
not_of b (Some note) fails = fails

apart : (b o : Bssid) → o ≢ b → eq_by_cmp bssid_cmp o b ≡ false
apart b o other = by (eq_by_cmp bssid_cmp o b) refl
  where
    by : (t : Bool) → eq_by_cmp bssid_cmp o b ≡ t → t ≡ false
    by true is = absurd (other (same_bssid b o is))
    by false is = refl

-- a place for one BSSID has no note of another
not_of_other : (b o : Bssid) → o ≢ b → (place : Noting) → is_for b place ≡ true → is_note_of o place ≡ false
not_of_other b o other None may = refl
not_of_other b o other (Some note) may = apart note.0 o (λ same. other (same ∙ sym (same_bssid note.0 b may)))

pub own_noted : (b : Bssid) (up : Bool) (places : List Noting) (i : ℕ) → position (is_for b) places ≡ Some i → is_noted_up (set places i (Some (b, up))) b ≡ up
own_noted b up places i at =
    let found = position-Some (is_for b) places i None at in
    ap says_up (finds_set (is_note_of b) places i (Some (b, up)) None found.0 (λ k h. not_of b (get_or places k None) (found.2 k h)) ((eq_by_cmp_equiv bssid_total).refl b))

pub other_noted : (b o : Bssid) (up : Bool) (places : List Noting) (i : ℕ) → o ≢ b → position (is_for b) places ≡ Some i → is_noted_up (set places i (Some (b, up))) o ≡ is_noted_up places o
other_noted b o up places i other at =
    let found = position-Some (is_for b) places i None at in
    ap says_up (find_past (is_note_of o) places i (Some (b, up)) None (not_of_other b o other (get_or places i None) found.1) (apart b o other))

-- ---- what commands are told
not_failed : (failed : Bool) (places : List Noting) (b : Bssid) → is_up_at failed places b ≡ true → failed ≡ false
not_failed true places b is = absurd (let no : ⊥ = cc in no)
not_failed false places b is = refl

abbrev IsTold : Bool → Option Conf → Option (Bssid × Bool) → Type 0
IsTold failed meant found =
    (option_map (λ it. it.0) found ≡ option_map (λ conf. conf.bssid) meant) × IfSome found (λ it. it.1 ≡ true → failed ≡ false)

told_of : (failed : Bool) (places : List Noting) (meant : Option Conf)
    → IsTold failed meant (option_map (λ conf. (conf.bssid, is_up_at failed places conf.bssid)) meant)
told_of failed places None = (refl, tt)
told_of failed places (Some conf) = (refl, not_failed failed places conf.bssid)

pub told : (failed : Bool) (places : List Noting) (meant : Option Conf) (found : Option (Bssid × Bool))
    → found ≡ option_map (λ conf. (conf.bssid, is_up_at failed places conf.bssid)) meant
    → (option_map (λ it. it.0) found ≡ option_map (λ conf. conf.bssid) meant) × IfSome found (λ it. it.1 ≡ true → failed ≡ false)
told failed places meant found is =
    subst (λ (z : Option (Bssid × Bool)). IsTold failed meant z) (sym is) (told_of failed places meant)
