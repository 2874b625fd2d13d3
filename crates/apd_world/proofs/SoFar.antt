-- Slots that change one after another, each keeping its BSSID.
use Rattle.std.proofs.Common.{◌≡◌, ℕ, suc, ◌+◌, ◌<◌, ◌≤◌, List, [], ◌∷◌, ◌++◌, length, map, take, drop, refl, sym, ap, subst, ◌∙◌, arith, get_or, set, length-set, add-one}
use Rattle.std.specs.List.{AllByRecursion, AllZip}
use Rattle.std.proofs.Math.Seq.{drop-cons, map-set_same, take-suc, take-suc-set}
use Rattle.std.proofs.lemmas.List.{drop-set-lt, take_all}
use Rattle.std.proofs.lemmas.List.Elements.{AllZip-push}
use Rattle.apd_world.proofs.Words.{HaveSameBssids, Slot, bssid_of}

pub zip_all : {A : Type 0} (P : A → Type 0) (xs ys : List A) → AllZip (λ x y. P y) xs ys → AllByRecursion P ys
zip_all P [] [] h = tt
zip_all P (x ∷ xs) (y ∷ ys) h = (h.0, zip_all P xs ys h.1)
zip_all P [] (y ∷ ys) h = absurd h
zip_all P (x ∷ xs) [] h = absurd h

pub zip_firsts : {A : Type 0} (P : A → Type 0) (Q : A → A → Type 0) (xs ys : List A) → AllZip (λ x y. P y × Q x y) xs ys
    → AllByRecursion P ys
zip_firsts P Q [] [] h = tt
zip_firsts P Q (x ∷ xs) (y ∷ ys) h = (h.0.0, zip_firsts P Q xs ys h.1)
zip_firsts P Q [] (y ∷ ys) h = absurd h
zip_firsts P Q (x ∷ xs) [] h = absurd h

pub zip_same : {A B : Type 0} (f : A → B) (P : A → Type 0) (xs ys : List A) → AllZip (λ x y. P y × (f y ≡ f x)) xs ys
    → map f ys ≡ map f xs
zip_same f P [] [] h = refl
zip_same f P (x ∷ xs) (y ∷ ys) h = λ i. h.0.1 i ∷ zip_same f P xs ys h.1 i
zip_same f P [] (y ∷ ys) h = absurd h
zip_same f P (x ∷ xs) [] h = absurd h

module _ {R : Type 0} (Change : Slot R → Slot R → Type 0) where
  -- so many have changed, and the others are as they were
  pub record AreSoFar (i : ℕ) (old now : List (Slot R)) : Type 0 where
    pub same : HaveSameBssids old now
    pub many : length now ≡ length old
    pub changed : AllZip Change (take i old) (take i now)
    pub rest : drop i now ≡ drop i old

  pub none_so_far : (slots : List (Slot R)) → AreSoFar 0 slots slots
  none_so_far slots = record { same = refl; many = refl; changed = tt; rest = refl }

  -- the next
  module _ (i : ℕ) (old now : List (Slot R)) (before after : Slot R) (is : before ≡ get_or now i before) (own : bssid_of after ≡ bssid_of before) (h : AreSoFar i old now) where
    pub still_same : HaveSameBssids old (set now i after)
    still_same = map-set_same bssid_of now i after before (own ∙ ap bssid_of is) ∙ h.same

    module _ (lt : i < length now) where
      there : i < length old
      there = let m = h.many in omega (arith, lt, m)

      parted : get_or now i before ∷ drop (suc i) now ≡ get_or old i before ∷ drop (suc i) old
      parted = sym (drop-cons now i before lt) ∙ h.rest ∙ drop-cons old i before there

      -- it was as at first
      pub first_is : get_or old i before ≡ before
      first_is = let same : get_or now i before ≡ get_or old i before = (let p = parted in cc) in sym same ∙ sym is

      -- and those behind it are as they were
      pub rest_is : drop (i + 1) (set now i after) ≡ drop (i + 1) old
      rest_is =
          let same : drop (suc i) now ≡ drop (suc i) old = (let p = parted in cc) in
          drop-set-lt (i + 1) now i after (omega arith) ∙ ap (λ n. drop n now) (add-one i) ∙ same
          ∙ sym (ap (λ n. drop n old) (add-one i))

      pub one_so_far : Change before after → AreSoFar (i + 1) old (set now i after)
      one_so_far change =
          let first : take (i + 1) old ≡ take i old ++ before ∷ [] = ap (λ n. take n old) (add-one i)
          ∙ take-suc old i before there ∙ ap (λ slot. take i old ++ slot ∷ []) first_is in
          let second : take (i + 1) (set now i after) ≡ take i now ++ after ∷ [] =
          ap (λ n. take n (set now i after)) (add-one i) ∙ take-suc-set now i after lt in
          record {
            same = still_same;
            many = length-set now i after ∙ h.many;
            changed =
                subst (λ slots. AllZip Change slots (take (i + 1) (set now i after))) (sym first)
                (subst (AllZip Change (take i old ++ before ∷ [])) (sym second)
                (AllZip-push Change (take i old) (take i now) before after h.changed change));
            rest = rest_is;
          }

  -- all
  pub all_so_far : (i : ℕ) (old now : List (Slot R)) → length old ≤ i → AreSoFar i old now → AllZip Change old now
  all_so_far i old now most h =
      let many : length now ≤ i = let m = h.many in omega (arith, most, m) in
      subst (λ slots. AllZip Change slots now) (take_all i old most) (subst (AllZip Change (take i old)) (take_all i now many) h.changed)
