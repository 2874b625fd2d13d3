-- A value that is found among the items in front of a place is repeated there, and no other.
use Rattle.std.proofs.Common.{◌≡◌, ℕ, zero, suc, ◌<◌, Bool, true, false, cond, List, [], ◌∷◌, Option, Some, None, IsSome, refl, sym, ap, subst, ◌∙◌, arith, take, get_or, length, ◌≤◌, Bor}
use Rattle.std.specs.Prelude.{map, slice_get}
use Rattle.std.specs.List.{find}
use Rattle.std.specs.Option.{option_map, option_copied, is_some}
use Rattle.std.proofs.lemmas.Option.{slice_get-map, slice_get_read, slice_get_within}
use Rattle.std.proofs.lemmas.List.{length-map}
use Rattle.apd_conf.specs.Confs.{IsRepeatedAt, IsLeastRepeated}
use Rattle.apd_base.proofs.Cases.{same_some, none_is_some}

some_found : {A : Type 0} (o : Option (Bor A)) (r : Option A) → option_copied o ≡ r → IsSome o → IsSome r
some_found None r e h = cc
some_found (Some x) r e h = subst IsSome e refl

none_found : {A : Type 0} (o : Option (Bor A)) (r : Option A) → option_copied o ≡ r → is_some o ≡ false → r ≡ None
none_found None r e h = sym e
none_found (Some x) r e h = cc

module _ {X A : Type 0} (eq : A → A → Bool) (part : X → A) where
  -- what is found among the first n stands at one of their places
  place_of : ((a b : A) → eq a b ≡ true → a ≡ b) → (xs : List X) (n : ℕ) (a : A) → IsSome (find (λ y. eq a (part y)) (take n xs)) → (p : ℕ) × (p < n) × (slice_get (map part xs) p ≡ Some a)
  place_of same [] zero a h = cc
  place_of same [] (suc n) a h = cc
  place_of same (x ∷ xs) zero a h = cc
  place_of same (x ∷ xs) (suc n) a h =
      elim (eq a (part x)) as (λ b. eq a (part x) ≡ b → IsSome (cond b (Some x) (find (λ y. eq a (part y)) (take n xs))) → (p : ℕ) × (p < suc n) × (slice_get (map part (x ∷ xs)) p ≡ Some a)) [
        | true ↦ λ e _. (zero, omega arith, ap Some (sym (same a (part x) e)))
        | false ↦ λ e g. let one = place_of same xs n a g in let small : one.0 < n = one.1 in (suc one.0, omega arith, one.2)
      ] refl h

  -- what stands at one of the first n places is found
  not_before : ((a : A) → eq a a ≡ true) → (xs : List X) (n p : ℕ) (a : A) → p < n → slice_get (map part xs) p ≡ Some a → find (λ y. eq a (part y)) (take n xs) ≡ None → ⊥
  not_before itself [] n p a lt at f = absurd (none_is_some a at)
  not_before itself (x ∷ xs) zero p a lt at f = absurd (omega arith)
  not_before itself (x ∷ xs) (suc n) zero a lt at f =
      none_is_some x (sym f ∙ ap (λ b. cond b (Some x) (find (λ y. eq a (part y)) (take n xs))) (subst (λ z. eq a z ≡ true) (sym (same_some (part x) a at)) (itself a)))
  not_before itself (x ∷ xs) (suc n) (suc p) a lt at f =
      elim (eq a (part x)) as (λ b. cond b (Some x) (find (λ y. eq a (part y)) (take n xs)) ≡ None → ⊥) [
        | true ↦ λ g. none_is_some x (sym g)
        | false ↦ λ g. not_before itself xs n p a (omega arith) at g
      ] f

  value_at : (xs : List X) (place : ℕ) (x : X) → slice_get xs place ≡ Some x → slice_get (map part xs) place ≡ Some (part x)
  value_at xs place x at = slice_get-map part xs place ∙ ap (option_map part) at

  -- the item at a place is found among those in front of it, and none was before
  pub found_repeated : ((a b : A) → eq a b ≡ true → a ≡ b) → (xs : List X) (place n : ℕ) (x : X) (a : A) (o : Option (Bor X))
      → n ≡ place → place < length xs → x ≡ get_or xs place x → a ≡ part x → option_copied o ≡ find (λ y. eq a (part y)) (take n xs) → IsSome o
      → ((p : ℕ) → p < place → ¬ (IsRepeatedAt (map part xs) p)) → IsLeastRepeated (map part xs) place
  found_repeated same xs place n x a o en lt at ea eo some before =
      let one = place_of same xs n a (some_found o _ eo some) in
      let small : one.0 < place = subst (λ m. one.0 < m) en one.1 in
      record {
        repeated = record {
          value = a;
          earlier = one.0;
          before = small;
          once = one.2;
          again = value_at xs place x (slice_get_read xs (length xs) place x refl lt at) ∙ ap Some (sym ea);
        };
        least = before;
      }

  -- the item at a place is not found among those in front of it
  pub not_repeated : ((a : A) → eq a a ≡ true) → (xs : List X) (place n : ℕ) (x : X) (a : A) (o : Option (Bor X))
      → n ≡ place → place < length xs → x ≡ get_or xs place x → a ≡ part x → option_copied o ≡ find (λ y. eq a (part y)) (take n xs) → is_some o ≡ false
      → ¬ (IsRepeatedAt (map part xs) place)
  not_repeated itself xs place n x a o en lt at ea eo none r =
      let e : r.value ≡ a = same_some r.value a (sym r.again ∙ value_at xs place x (slice_get_read xs (length xs) place x refl lt at) ∙ ap Some (sym ea)) in
      let small : r.earlier < n = subst (λ m. r.earlier < m) (sym en) r.before in
      not_before itself xs n r.earlier a small (subst (λ v. slice_get (map part xs) r.earlier ≡ Some v) e r.once) (none_found o _ eo none)

-- no place is repeated where none below the length is
pub none_repeated : {X A : Type 0} (part : X → A) (xs : List X) (n : ℕ) → length xs ≤ n → ((p : ℕ) → p < n → ¬ (IsRepeatedAt (map part xs) p)) → (p : ℕ) → ¬ (IsRepeatedAt (map part xs) p)
none_repeated part xs n all before p r =
    let lt : p < length (map part xs) = slice_get_within (map part xs) p r.value r.again in
    before p (omega (arith, length-map xs part)) r
