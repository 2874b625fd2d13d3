-- Where a BSSID's slot is, and what is there after a change.
use Rattle.std.proofs.Common.{◌≡◌, ℕ, zero, suc, ◌<◌, Bool, true, false, cond, List, [], ◌∷◌, length, Option, Some, None, refl, sym, ap, subst, ◌∙◌, arith, get_or, set, length-set}
use Rattle.std.specs.Prelude.{nat_lt, slice_get}
use Rattle.std.specs.List.{position_or_len, AllByRecursion}
use Rattle.std.specs.Ordering.{eq_by_cmp}
use Rattle.std.proofs.lemmas.List.{get_or-set_same}
use Rattle.std.proofs.lemmas.List.Folds.{position_or_len-set}
use Rattle.std.proofs.lemmas.List.Quantifiers.{position-Some}
use Rattle.std.proofs.lemmas.Option.{get_or_from_slice_get, slice_get-get_or}
use Rattle.apd_world.proofs.Words.{Bssid, Slot, SlotGoes, World, bssid_cmp, bssid_of, slot_at, slot_in, slot_place, slots_of}
use Rattle.apd_base.proofs.AddrLemmas.{bssid_total, bssid_exact, same_bssid}
use Rattle.apd_base.proofs.MapLemmas.{tied}

pub all_at : {A : Type 0} (P : A → Type 0) (xs : List A) (i : ℕ) (x : A) → slice_get xs i ≡ Some x → AllByRecursion P xs → P x
all_at P [] i x e all = let none : ◌≡◌ {A = Option _} None (Some x) = e in absurd (let no : ⊥ = cc in no)
all_at P (y ∷ xs) zero x e all = let is : y ≡ x = (cc) in subst P is all.0
all_at P (y ∷ xs) (suc i) x e all = all_at P xs i x e all.1

other_item : {A : Type 0} (xs : List A) (i j : ℕ) (y : A) → (j ≡ i → ⊥) → slice_get (set xs i y) j ≡ slice_get xs j
other_item [] i j y ne = refl
other_item (x ∷ xs) zero zero y ne = absurd (ne refl)
other_item (x ∷ xs) zero (suc j) y ne = refl
other_item (x ∷ xs) (suc i) zero y ne = refl
other_item (x ∷ xs) (suc i) (suc j) y ne = other_item xs i j y (λ e. ne (ap suc e))

module _ {R : Type 0} where
  place_within : (slots : List (Slot R)) (b : Bssid) (i : ℕ) (d : Slot R) → slot_place slots b ≡ Some i → i < length slots
  place_within slots b i d at = (position-Some (λ slot. eq_by_cmp bssid_cmp b (bssid_of slot)) slots i d at).0

  -- the slot there is the BSSID's
  pub place_of_own : (slots : List (Slot R)) (b : Bssid) (i : ℕ) (d : Slot R) → slot_place slots b ≡ Some i → b ≡ bssid_of (get_or slots i d)
  place_of_own slots b i d at = same_bssid _ b (position-Some (λ slot. eq_by_cmp bssid_cmp b (bssid_of slot)) slots i d at).1

  pub slot_is : (slots : List (Slot R)) (b : Bssid) (i : ℕ) (d : Slot R) → slot_place slots b ≡ Some i → slot_at slots b ≡ Some (get_or slots i d)
  slot_is slots b i d at = ap (slot_in slots) at ∙ slice_get-get_or slots i d (place_within slots b i d at)

  -- two BSSIDs have two places
  places_apart : (slots : List (Slot R)) (b c : Bssid) (i : ℕ) (d : Slot R) → eq_by_cmp bssid_cmp b c ≡ false → slot_place slots b ≡ Some i → slot_place slots c ≡ Some i → ⊥
  places_apart slots b c i d apart at also =
      let one : b ≡ c = place_of_own slots b i d at ∙ sym (place_of_own slots c i d also) in
      let own : eq_by_cmp bssid_cmp b c ≡ true = subst (λ (z : Bssid). eq_by_cmp bssid_cmp b z ≡ true) one (tied bssid_total bssid_exact b) in
      cc

  -- a slot in the place of one of the same BSSID
  place_set : (slots : List (Slot R)) (i : ℕ) (s d : Slot R) → bssid_of s ≡ bssid_of (get_or slots i d) → (c : Bssid) → slot_place (set slots i s) c ≡ slot_place slots c
  place_set slots i s d own c =
      let p : Slot R → Bool = λ slot. eq_by_cmp bssid_cmp c (bssid_of slot) in
      let e : position_or_len p (set slots i s) ≡ position_or_len p slots = position_or_len-set p slots i s d (ap (eq_by_cmp bssid_cmp c) own) in
      λ j. cond (nat_lt (e j) (length-set slots i s j)) (Some (e j)) None

  -- what is found then
  slot_set : (slots : List (Slot R)) (i : ℕ) (s d : Slot R) (b : Bssid) → bssid_of s ≡ bssid_of (get_or slots i d) → slot_place slots b ≡ Some i → slot_at (set slots i s) b ≡ Some s
  slot_set slots i s d b own at =
      let there : i < length (set slots i s) = let lt = place_within slots b i d at in let same = length-set slots i s in omega (arith, lt, same) in
      ap (slot_in (set slots i s)) (place_set slots i s d own b ∙ at) ∙ slice_get-get_or (set slots i s) i d there ∙ ap Some (get_or-set_same slots i s d (place_within slots b i d at))

  get_set_other : (slots : List (Slot R)) (i : ℕ) (s : Slot R) (p : Option ℕ) → (p ≡ Some i → ⊥) → slot_in (set slots i s) p ≡ slot_in slots p
  get_set_other slots i s None ne = refl
  get_set_other slots i s (Some j) ne = other_item slots i j s (λ e. ne (ap Some e))

  slot_set_other : (slots : List (Slot R)) (i : ℕ) (s d : Slot R) (b c : Bssid) → bssid_of s ≡ bssid_of (get_or slots i d) → slot_place slots b ≡ Some i → eq_by_cmp bssid_cmp b c ≡ false
      → slot_at (set slots i s) c ≡ slot_at slots c
  slot_set_other slots i s d b c own at apart =
      ap (slot_in (set slots i s)) (place_set slots i s d own c) ∙ get_set_other slots i s (slot_place slots c) (λ also. places_apart slots b c i d apart at also)

-- a place that was found in what is seen of slots
pub place_seen : {R : Type 0} (slots seen : List (Slot R)) (b : Bssid) (place : Option ℕ) → seen ≡ slots → place ≡ slot_place seen b → slot_place slots b ≡ place
place_seen slots seen b place same is = ap (λ xs. slot_place xs b) (sym same) ∙ sym is

-- ---- a world, where the slot of a BSSID goes on
module _ {D R : Type 0} (b : Bssid) (So : Slot R → Slot R → Type 0) (old new : World D R) where
  -- the slot at its place does
  pub slot_goes : (place : ℕ) (slot after : Slot R) → slot_place (slots_of old) b ≡ Some place → slot ≡ get_or (slots_of old) place slot → slots_of new ≡ set (slots_of old) place after
      → bssid_of after ≡ bssid_of slot → So slot after → SlotGoes b So old new
  slot_goes place slot after at is slots bssid goes = record {
    place = place;
    slot = slot;
    after = after;
    at = at;
    has_slot = slot_is (slots_of old) b place slot at ∙ ap Some (sym is);
    slots = slots;
    bssid = bssid;
    goes = goes;
  }

  module _ (h : SlotGoes b So old new) where
    own : bssid_of h.after ≡ bssid_of (get_or (slots_of old) h.place h.slot)
    own = h.bssid ∙ ap bssid_of (sym (get_or_from_slice_get (slots_of old) h.place h.slot h.slot (ap (slot_in (slots_of old)) (sym h.at) ∙ h.has_slot)))

    pub own_slot : slot_at (slots_of new) b ≡ Some h.after
    own_slot = ap (λ slots. slot_at slots b) h.slots ∙ slot_set (slots_of old) h.place h.after h.slot b own h.at

    pub other_slot : (c : Bssid) → eq_by_cmp bssid_cmp b c ≡ false → slot_at (slots_of new) c ≡ slot_at (slots_of old) c
    other_slot c apart = ap (λ slots. slot_at slots c) h.slots ∙ slot_set_other (slots_of old) h.place h.after h.slot b c own h.at apart
