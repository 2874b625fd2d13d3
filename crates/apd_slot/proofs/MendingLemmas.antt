-- One mending after another.
use Rattle.std.proofs.Common.{◌≡◌, ◌≤◌, ℕ, zero, suc, false, List, [], ◌∷◌, ◌++◌, Option, Result, Ok, Err, OnOk, Contains, drop, length, inl, inr, refl, sym, ap, subst, ◌∙◌, arith, append_assoc}
use Rattle.std.proofs.lemmas.List.Elements.{Contains-append_cases, Contains-append_left, Contains-append_right, Contains-push}
use Rattle.apd_mlme.specs.declared.decision.Out.{Out}
use Rattle.apd_radio.specs.Model.{RadioModel}
use Rattle.apd_slot.specs.Mending.{AreRefused, IsEndOf, IsMended, IsTried}
use Rattle.apd_slot.specs.Resuming.{IsGivenAnew, IsGivenRadio}
use Rattle.apd_slot.specs.Slots.{queue_of, radio_of, wanted_of, wanted_then}
use Rattle.apd_slot.specs.Wanted.{wanted_after_all}
use Rattle.apd_slot.specs.declared.slot.Slot.{Slot}
use Rattle.apd_slot.specs.declared.slot.SlotFault.{SlotFault}

-- the first of those that are left is taken away
pub split_on : {A : Type 0} → (next : A) (all taken left rest : List A) → all ≡ taken ++ left → left ≡ next ∷ rest → all ≡ (taken ++ next ∷ []) ++ rest
split_on next all taken left rest split first =
    split ∙ ap (λ (some : List _). taken ++ some) first ∙ sym (append_assoc taken (next ∷ []) rest)

pub end_on : {A : Type 0} → (next : A) (all left rest : List A) → IsEndOf left all → left ≡ next ∷ rest → IsEndOf rest all
end_on next all left rest end first = (end.0 ++ next ∷ [], split_on next all end.0 left rest end.1 first)

-- one that nothing was taken from has none
pub none_of : {A : Type 0} → (xs ys : List A) → xs ≡ ys → ys ≡ drop 1 xs → xs ≡ []
none_of [] ys same rest = refl
none_of (x ∷ xs) ys same rest = let long : length (x ∷ xs) ≡ length xs = ap length (same ∙ rest) in absurd (omega (arith, long))

pub zero_of : (n : ℕ) → ¬ (1 ≤ n) → n ≡ 0
zero_of zero below = refl
zero_of (suc n) below = absurd (below (omega arith))

among_first : {A : Type 0} → (own : A) (others : List A) → Contains (own ∷ others) own
among_first own others = Contains-append_left (own ∷ []) others own (Contains-push [] own)

among_later : {A : Type 0} → (own at : A) (others : List A) → Contains others at → Contains (own ∷ others) at
among_later own at others is = Contains-append_right (own ∷ []) others at is

among_more : {A : Type 0} → (own at : A) (others : List A) → Contains (own ∷ []) at → Contains (own ∷ others) at
among_more own at others is = Contains-append_left (own ∷ []) others at is

-- one of two, the second of which stands in a list
among_two : {A : Type 0} → (own now next at : A) (all taken rest : List A) → now ≡ own → all ≡ taken ++ next ∷ rest
    → Contains (now ∷ next ∷ []) at → Contains (own ∷ all) at
among_two own now next at all taken rest same is two = elim (Contains-append_cases (now ∷ []) (next ∷ []) at two) [
  | inl first ↦ among_more own at all (subst (λ (z : _). Contains (z ∷ []) at) same first)
  | inr second ↦
      among_later own at all
      (subst (λ (z : List _). Contains z at) (sym is)
      (Contains-append_right taken (next ∷ rest) at (Contains-append_left (next ∷ []) rest at second)))
]

module _ {R : Type 0} (radio : RadioModel R) (frames : R → Option (List (List ℕ))) where
  abbrev Mends : List R → Slot R → Slot R → Type 0
  Mends spares a b = IsMended radio frames spares a b

  -- once all that waits is applied, what is wanted is what would have been
  pub mended_then : (spares : List R) (a b : Slot R) → Mends spares a b → wanted_then b ≡ wanted_then a
  mended_then spares a b h =
      ap (wanted_after_all (queue_of b)) h.wanted ∙ ap (λ (outs : List Out). wanted_after_all outs (wanted_of a)) h.queue

  pub unmended : (spares : List R) (a : Slot R) → Mends spares a a
  unmended spares a = record {
    bssid = refl;
    wanted = refl;
    queue = refl;
    exact = λ is. is;
    from = radio_of a;
    either = among_first (radio_of a) spares;
    receives = refl;
    sent = refl;
  }

  pub replace_mends : (spare : R) (answer : Result R (R × SlotFault)) (a b : Slot R) → IsGivenRadio radio spare answer a b
      → OnOk answer (frames (radio_of b) ≡ frames spare) → Mends (spare ∷ []) a b
  replace_mends spare (Ok own) a b h placed = record {
    bssid = h.bssid;
    wanted = h.wanted;
    queue = h.queue;
    exact = λ _. h.exact;
    from = spare;
    either = among_later (radio_of a) spare (spare ∷ []) (Contains-push [] spare);
    receives = placed;
    sent = h.sent;
  }
  replace_mends spare (Err failed) a b h placed = record {
    bssid = h.bssid;
    wanted = h.wanted;
    queue = h.queue;
    exact = λ _. h.exact;
    from = radio_of a;
    either = among_first (radio_of a) (spare ∷ []);
    receives = ap frames h.kept;
    sent = ap radio.sent h.kept;
  }

  pub resync_mends : (answer : Result (Unit {0}) SlotFault) (a b : Slot R) → IsGivenAnew radio answer a b
      → frames (radio_of b) ≡ frames (radio_of a) → Mends [] a b
  resync_mends answer a b h same = record {
    bssid = h.bssid;
    wanted = h.wanted;
    queue = h.queue;
    exact = λ _. h.exact;
    from = radio_of a;
    either = among_first (radio_of a) [];
    receives = same;
    sent = h.sent;
  }

  -- the next spare was tried, and the slot has it or its own
  pub mended_on : (spare : R) (all left rest : List R) (a b c : Slot R) → IsEndOf left all → left ≡ spare ∷ rest
      → Mends [] a b → radio_of b ≡ radio_of a → Mends (spare ∷ []) b c → Mends all a c
  mended_on spare all left rest a b c end is first same next = record {
    bssid = next.bssid ∙ first.bssid;
    wanted = next.wanted ∙ first.wanted;
    queue = next.queue ∙ first.queue;
    exact = λ was. next.exact (first.exact was);
    from = next.from;
    either =
        among_two (radio_of a) (radio_of b) spare next.from all end.0 rest same
        (end.1 ∙ ap (λ (some : List _). end.0 ++ some) is) next.either;
    receives = next.receives;
    sent = next.sent;
  }

  -- it was refused, and the slot has its own
  pub mended_not : (spare : R) (a b c : Slot R) → Mends [] a b → Mends (spare ∷ []) b c → radio_of c ≡ radio_of a → Mends [] a c
  mended_not spare a b c first next same = record {
    bssid = next.bssid ∙ first.bssid;
    wanted = next.wanted ∙ first.wanted;
    queue = next.queue ∙ first.queue;
    exact = λ was. next.exact (first.exact was);
    from = radio_of a;
    either = among_first (radio_of a) [];
    receives = ap frames same;
    sent = ap radio.sent same;
  }

  -- and so it is by any spares
  pub mended_by_none : (spares : List R) (a b : Slot R) → Mends [] a b → radio_of b ≡ radio_of a → Mends spares a b
  mended_by_none spares a b h same = record {
    bssid = h.bssid;
    wanted = h.wanted;
    queue = h.queue;
    exact = h.exact;
    from = radio_of a;
    either = among_first (radio_of a) spares;
    receives = ap frames same;
    sent = ap radio.sent same;
  }

  abbrev Refused : List R → Slot R → Slot R → Type 0
  Refused spares a b = AreRefused radio frames spares a b

  -- and one more was refused
  pub refused_on : (spares : List R) (spare : R) (a b c : Slot R) → Refused spares a b → IsTried radio frames spare false b c
      → Refused (spares ++ spare ∷ []) a c
  refused_on [] spare a b c first next = (c, subst (λ (z : Slot R). IsTried radio frames spare false z c) first next, refl)
  refused_on (x ∷ spares) spare a b c first next = (first.0, first.1, refused_on spares spare first.0 b c first.2 next)
