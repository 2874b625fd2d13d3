-- Queues: what they have after an out is added, given or taken back.
use Rattle.std.proofs.Common.{◌≡◌, ℕ, ◌+◌, ◌<◌, ◌≤◌, zero, suc, Bool, true, false, cond, not, List, [], ◌∷◌, ◌++◌, length, map, Option, Some, None, Result, Ok, Err, OnOk, OnErr, inl, inr, refl, sym, ap, subst, ◌∙◌, arith, get_or, set, length-set, length-append, length-drop, reverse, take, drop, ◌-◌}
use Rattle.std.specs.Prelude.{nat_lt, nat_le, ◌==◌, filter, slice_get, is_err}
use Rattle.apd_core.proofs.Words.{AllByRecursion, Conf, IsInOrder, Out, Queue, append-nil, before, beyond, cases_eq, cases_lt, drop_more, eq-eqb, filter-append, get_or-set_other, get_or-set_same, get_or_at, get_or_default, get_or_past, le-leb, le-ltb, length-map, length-reverse, length-take-le, lt-leb, lt-ltb, ltb-true, map-set, ne_eqb, no_queues, option_map, outs_in, outs_of, queue_at, queues_after_hand, queues_with_out, reverse-append, set-get_or, set_past, sum_by-cons, sum_by-set, sum_by_push, take_at, take_while, take_while-cons, up_to}
use Rattle.std.proofs.lemmas.List.Edits.{map_over_more}
use Rattle.std.proofs.lemmas.List.Filters.{sum_by-filter_both}

-- every element, by recursion
module _ {A : Type 0} (P : A → Type 0) where
  pub all_get : (xs : List A) (i : ℕ) (d : A) → AllByRecursion P xs → P d → P (get_or xs i d)
  all_get [] i d all at = at
  all_get (x ∷ xs) zero d all at = all.0
  all_get (x ∷ xs) (suc i) d all at = all_get xs i d all.1 at

  pub all_set : (xs : List A) (i : ℕ) (y : A) → AllByRecursion P xs → P y → AllByRecursion P (set xs i y)
  all_set [] i y all at = tt
  all_set (x ∷ xs) zero y all at = (at, all.1)
  all_set (x ∷ xs) (suc i) y all at = (all.0, all_set xs i y all.1 at)

  pub all_filter : (p : A → Bool) (xs : List A) → AllByRecursion P xs → AllByRecursion P (filter p xs)
  all_filter p [] all = tt
  all_filter p (x ∷ xs) all =
      elim (p x) as (λ t. AllByRecursion P (cond t (x ∷ filter p xs) (filter p xs))) [ true ↦ (all.0, all_filter p xs all.1) | false ↦ all_filter p xs all.1 ]

  pub all_push : (xs : List A) (y : A) → AllByRecursion P xs → P y → AllByRecursion P (xs ++ y ∷ [])
  all_push [] y all at = (at, tt)
  all_push (x ∷ xs) y all at = (all.0, all_push xs y all.1 at)

pub all_weaker : {A : Type 0} (P Q : A → Type 0) → ((x : A) → P x → Q x) → (xs : List A) → AllByRecursion P xs → AllByRecursion Q xs
all_weaker P Q w [] all = tt
all_weaker P Q w (x ∷ xs) all = (w x all.0, all_weaker P Q w xs all.1)

-- an out added
pub added_same : (qs : List Queue) (p q : Option ℕ) (i : ℕ) (x : ℕ × Out) → p ≡ Some i → q ≡ Some i → i < length qs → queue_at (queues_with_out qs p x) q ≡ queue_at qs q ++ x ∷ []
added_same qs p q i x e f h =
    subst (λ (v : Option ℕ). queue_at (queues_with_out qs v x) q ≡ queue_at qs q ++ x ∷ []) (sym e)
    (subst (λ (v : Option ℕ). queue_at (queues_with_out qs (Some i) x) v ≡ queue_at qs v ++ x ∷ []) (sym f) (get_or-set_same qs i _ [] h))

set_elsewhere : (qs : List Queue) (i : ℕ) (q : Option ℕ) (y : Queue) → (q ≡ Some i → ⊥) → queue_at (set qs i y) q ≡ queue_at qs q
set_elsewhere qs i None y ne = refl
set_elsewhere qs i (Some j) y ne = get_or-set_other qs i j y [] (λ e. ne (ap Some e))

pub added_elsewhere : (qs : List Queue) (p q : Option ℕ) (i : ℕ) (x : ℕ × Out) → p ≡ Some i → (q ≡ Some i → ⊥) → queue_at (queues_with_out qs p x) q ≡ queue_at qs q
added_elsewhere qs p q i x e ne =
    subst (λ (v : Option ℕ). queue_at (queues_with_out qs v x) q ≡ queue_at qs q) (sym e) (set_elsewhere qs i q _ ne)

pub length-queues_with_out : (qs : List Queue) (p : Option ℕ) (x : ℕ × Out) → length (queues_with_out qs p x) ≡ length qs
length-queues_with_out qs None x = refl
length-queues_with_out qs (Some i) x = length-set qs i _

-- outs given
set_same : (f : Queue → Queue) (qs : List Queue) (i : ℕ) → f [] ≡ [] → get_or (set qs i (f (get_or qs i []))) i [] ≡ f (get_or qs i [])
set_same f [] i e = sym e
set_same f (q ∷ qs) zero e = refl
set_same f (q ∷ qs) (suc i) e = set_same f qs i e

pub given_same : (qs : List Queue) (p : Option ℕ) (n : ℕ) → queue_at (queues_after_hand qs p n) p ≡ beyond n (queue_at qs p)
given_same qs None n = refl
given_same qs (Some i) n = set_same (beyond n) qs i refl

pub given_elsewhere : (qs : List Queue) (p q : Option ℕ) (n : ℕ) → ((i : ℕ) → p ≡ Some i → q ≡ Some i → ⊥) → queue_at (queues_after_hand qs p n) q ≡ queue_at qs q
given_elsewhere qs None q n ne = refl
given_elsewhere qs (Some i) q n ne = set_elsewhere qs i q _ (ne i refl)

pub length-queues_after_hand : (qs : List Queue) (p : Option ℕ) (n : ℕ) → length (queues_after_hand qs p n) ≡ length qs
length-queues_after_hand qs None n = refl
length-queues_after_hand qs (Some i) n = length-set qs i _

-- order
none_up_to : (m n : ℕ) (q : Queue) → n < m → AllByRecursion (λ x. m ≤ x.0) q → up_to n q ≡ []
none_up_to m n [] h all = refl
none_up_to m n (x ∷ q) h all =
    let l : m ≤ x.0 = all.0 in
    ap (λ b. cond b (x ∷ up_to n q) (up_to n q)) (lt-leb x.0 n (omega arith)) ∙ none_up_to m n q h all.1

other : (n : ℕ) (x : ℕ × Out) → nat_lt n x.0 ≡ not (nat_le x.0 n)
other n x =
    elim (cases_lt n x.0) [
      | inl h ↦ lt-ltb n x.0 h ∙ sym (ap not (lt-leb x.0 n h))
      | inr h ↦ le-ltb n x.0 h ∙ sym (ap not (le-leb x.0 n h))
    ]

-- in order, what is given stands at the front
pub given_first : (n : ℕ) (q : Queue) → IsInOrder q → up_to n q ++ beyond n q ≡ q
given_first n [] o = refl
given_first n (x ∷ q) o =
    elim (cases_lt n x.0) [
      | inl h ↦
          let none = none_up_to x.0 n q h o.0 in
          ap (λ b. cond b (x ∷ up_to n q) (up_to n q) ++ beyond n (x ∷ q)) (lt-leb x.0 n h)
          ∙ ap (λ b. up_to n q ++ cond b (x ∷ beyond n q) (beyond n q)) (lt-ltb n x.0 h)
          ∙ ap (λ u. u ++ x ∷ beyond n q) none
          ∙ ap (λ r. x ∷ r) (sym (ap (λ u. u ++ beyond n q) none) ∙ given_first n q o.1)
      | inr h ↦
          ap (λ b. cond b (x ∷ up_to n q) (up_to n q) ++ beyond n (x ∷ q)) (le-leb x.0 n h)
          ∙ ap (λ b. (x ∷ up_to n q) ++ cond b (x ∷ beyond n q) (beyond n q)) (le-ltb n x.0 h)
          ∙ ap (λ r. x ∷ r) (given_first n q o.1)
    ]

pub front_is : (n : ℕ) (q : Queue) → IsInOrder q → take_while (λ x. nat_le x.0 n) q ≡ up_to n q
front_is n [] o = refl
front_is n (x ∷ q) o =
    take_while-cons (λ y. nat_le y.0 n) x q
    ∙ elim (cases_lt n x.0) [
      | inl h ↦
          ap (λ b. cond b (x ∷ take_while (λ y. nat_le y.0 n) q) []) (lt-leb x.0 n h)
          ∙ sym (ap (λ b. cond b (x ∷ up_to n q) (up_to n q)) (lt-leb x.0 n h) ∙ none_up_to x.0 n q h o.0)
      | inr h ↦
          ap (λ b. cond b (x ∷ take_while (λ y. nat_le y.0 n) q) []) (le-leb x.0 n h)
          ∙ ap (λ r. x ∷ r) (front_is n q o.1)
          ∙ sym (ap (λ b. cond b (x ∷ up_to n q) (up_to n q)) (le-leb x.0 n h))
    ]

pub in_order_filter : (p : ℕ × Out → Bool) (q : Queue) → IsInOrder q → IsInOrder (filter p q)
in_order_filter p [] o = tt
in_order_filter p (x ∷ q) o =
    elim (p x) as (λ t. IsInOrder (cond t (x ∷ filter p q) (filter p q))) [
      | true ↦ (all_filter (λ y. x.0 ≤ y.0) p q o.0, in_order_filter p q o.1)
      | false ↦ in_order_filter p q o.1
    ]

pub in_order_push : (q : Queue) (y : ℕ × Out) → IsInOrder q → AllByRecursion (λ x. x.0 ≤ y.0) q → IsInOrder (q ++ y ∷ [])
in_order_push [] y o all = (tt, tt)
in_order_push (x ∷ q) y o all = (all_push (λ z. x.0 ≤ z.0) q y o.0 all.0, in_order_push q y o.1 all.1)

-- counts
pub counts : (x k : ℕ) → x ≡ k → ◌≡◌ {A = ℕ} (cond (x == k) 1 0) 1
counts x k e = ap (λ (b : Bool). cond {A = ℕ} b 1 0) (eq-eqb x k e)

pub counts_not : (x k : ℕ) → (x ≡ k → ⊥) → ◌≡◌ {A = ℕ} (cond (x == k) 1 0) 0
counts_not x k ne = ap (λ (b : Bool). cond {A = ℕ} b 1 0) (ne_eqb x k ne)

pub outs_in-cons : (k : ℕ) (x : ℕ × Out) (q : Queue) → outs_in k (x ∷ q) ≡ cond (x.0 == k) 1 0 + outs_in k q
outs_in-cons k x q = sum_by-cons (λ (y : ℕ × Out). cond (y.0 == k) 1 0) x q

pub outs_in-parts : (k n : ℕ) (q : Queue) → outs_in k (up_to n q) + outs_in k (beyond n q) ≡ outs_in k q
outs_in-parts k n q = sum_by-filter_both (λ (x : ℕ × Out). nat_le x.0 n) (λ x. nat_lt n x.0) (other n) (λ x. cond (x.0 == k) 1 0) q

pub outs_of-queues_after_hand : (k n : ℕ) (qs : List Queue) (p : Option ℕ) → outs_of k (queues_after_hand qs p n) + outs_in k (up_to n (queue_at qs p)) ≡ outs_of k qs
outs_of-queues_after_hand k n qs None = omega arith
outs_of-queues_after_hand k n qs (Some i) =
    elim (cases_lt i (length qs)) [
      | inl h ↦ omega (arith, sum_by-set (outs_in k) qs i (beyond n (get_or qs i [])) [] h, outs_in-parts k n (get_or qs i []))
      | inr h ↦
          let past = get_or_past qs i [] h in
          subst (λ (q : Queue). outs_of k (set qs i (beyond n q)) + outs_in k (up_to n q) ≡ outs_of k qs) (sym past)
          (ap (λ (z : List Queue). outs_of k z + 0) (set_past qs i [] h) ∙ omega arith)
    ]

pub outs_of-queues_with_out : (k : ℕ) (qs : List Queue) (p : Option ℕ) (i : ℕ) (x : ℕ × Out) → p ≡ Some i → i < length qs → outs_of k (queues_with_out qs p x) ≡ cond (x.0 == k) 1 0 + outs_of k qs
outs_of-queues_with_out k qs p i x e h =
    subst (λ (v : Option ℕ). outs_of k (queues_with_out qs v x) ≡ cond (x.0 == k) 1 0 + outs_of k qs) (sym e)
    (omega (arith, sum_by-set (outs_in k) qs i (get_or qs i [] ++ x ∷ []) [] h, sum_by_push (λ (y : ℕ × Out). cond (y.0 == k) 1 0) (get_or qs i []) x))

-- an entry taken back
pub before_all : (n : ℕ) (q : Queue) → AllByRecursion (λ x. x.0 < n) q → before n q ≡ q
before_all n [] all = refl
before_all n (x ∷ q) all = ap (λ b. cond b (x ∷ before n q) (before n q)) (lt-ltb x.0 n all.0) ∙ ap (λ r. x ∷ r) (before_all n q all.1)

pub before-push : (n : ℕ) (q : Queue) (x : ℕ × Out) → n ≤ x.0 → before n (q ++ x ∷ []) ≡ before n q
before-push n q x h =
    filter-append (λ (y : ℕ × Out). nat_lt y.0 n) q (x ∷ [])
    ∙ ap (λ b. before n q ++ cond b (x ∷ []) []) (le-ltb x.0 n h)
    ∙ append-nil (before n q)

get_map : (n : ℕ) (qs : List Queue) (i : ℕ) → get_or (map (before n) qs) i [] ≡ before n (get_or qs i [])
get_map n [] i = refl
get_map n (q ∷ qs) zero = refl
get_map n (q ∷ qs) (suc i) = get_map n qs i

pub before-queues_with_out : (n : ℕ) (qs : List Queue) (p : Option ℕ) (x : ℕ × Out) → n ≤ x.0 → map (before n) (queues_with_out qs p x) ≡ map (before n) qs
before-queues_with_out n qs None x h = refl
before-queues_with_out n qs (Some i) x h =
    map-set (before n) qs i _
    ∙ ap (set (map (before n) qs) i) (before-push n (get_or qs i []) x h ∙ sym (get_map n qs i))
    ∙ set-get_or (map (before n) qs) i []

pub before_each : (n : ℕ) (qs : List Queue) → AllByRecursion (λ q. AllByRecursion (λ x. x.0 < n) q) qs → map (before n) qs ≡ qs
before_each n [] all = refl
before_each n (q ∷ qs) all = λ i. before_all n q all.0 i ∷ before_each n qs all.1 i

pub outs_in-before : (k n : ℕ) (q : Queue) → outs_in k (before n q) ≡ cond (nat_lt k n) (outs_in k q) 0
outs_in-before k n [] = elim (nat_lt k n) as (λ t. ◌≡◌ {A = ℕ} 0 (cond t 0 0)) [ true ↦ refl | false ↦ refl ]
outs_in-before k n (x ∷ q) =
    let rest = outs_in-before k n q in
    elim (cases_lt x.0 n) [
      | inl h ↦
          ap (λ b. outs_in k (cond b (x ∷ before n q) (before n q))) (lt-ltb x.0 n h) ∙ outs_in-cons k x (before n q) ∙ ap (λ m. cond (x.0 == k) 1 0 + m) rest
          ∙ elim (cases_eq x.0 k) [
            | inl e ↦
                let lt : nat_lt k n ≡ true = lt-ltb k n (omega arith) in
                ap (λ b. cond (x.0 == k) 1 0 + cond b (outs_in k q) 0) lt ∙ sym (ap (λ b. cond b (outs_in k (x ∷ q)) 0) lt ∙ outs_in-cons k x q)
            | inr ne ↦
                ap (λ b. cond b 1 0 + cond (nat_lt k n) (outs_in k q) 0) (ne_eqb x.0 k ne)
                ∙ elim (nat_lt k n) as (λ t. 0 + cond t (outs_in k q) 0 ≡ cond t (outs_in k (x ∷ q)) 0) [
                  | true ↦ sym (outs_in-cons k x q ∙ ap (λ b. cond b 1 0 + outs_in k q) (ne_eqb x.0 k ne))
                  | false ↦ omega arith
                ]
          ]
      | inr h ↦
          ap (λ b. outs_in k (cond b (x ∷ before n q) (before n q))) (le-ltb x.0 n h) ∙ rest
          ∙ elim (cases_lt k n) [
            | inl l ↦
                let ne : x.0 ≡ k → ⊥ = λ e. omega arith in
                ap (λ b. cond b (outs_in k q) 0) (lt-ltb k n l)
                ∙ sym (ap (λ b. cond b (outs_in k (x ∷ q)) 0) (lt-ltb k n l) ∙ outs_in-cons k x q ∙ ap (λ b. cond b 1 0 + outs_in k q) (ne_eqb x.0 k ne) ∙ omega arith)
            | inr g ↦
                ap (λ b. cond b (outs_in k q) 0) (le-ltb k n g) ∙ sym (ap (λ b. cond b (outs_in k (x ∷ q)) 0) (le-ltb k n g))
          ]
    ]

sum_two : (t : Bool) (a b c d : ℕ) → a ≡ cond t c 0 → b ≡ cond t d 0 → a + b ≡ cond t (c + d) 0
sum_two true a b c d e f = omega arith
sum_two false a b c d e f = omega arith

pub outs_of-cons : (k : ℕ) (q : Queue) (qs : List Queue) → outs_of k (q ∷ qs) ≡ outs_in k q + outs_of k qs
outs_of-cons k q qs = sum_by-cons (outs_in k) q qs

pub outs_of-before : (k n : ℕ) (qs : List Queue) → outs_of k (map (before n) qs) ≡ cond (nat_lt k n) (outs_of k qs) 0
outs_of-before k n [] = elim (nat_lt k n) as (λ t. ◌≡◌ {A = ℕ} 0 (cond t 0 0)) [ true ↦ refl | false ↦ refl ]
outs_of-before k n (q ∷ qs) =
    outs_of-cons k (before n q) (map (before n) qs)
    ∙ sum_two (nat_lt k n) _ _ _ _ (outs_in-before k n q) (outs_of-before k n qs)
    ∙ ap (λ m. cond (nat_lt k n) m 0) (sym (outs_of-cons k q qs))

pub in_order_before : (n : ℕ) (qs : List Queue) → AllByRecursion IsInOrder qs → AllByRecursion IsInOrder (map (before n) qs)
in_order_before n [] all = tt
in_order_before n (q ∷ qs) all = (in_order_filter (λ x. nat_lt x.0 n) q all.0, in_order_before n qs all.1)

-- all numbers are below one, where each entry of which outs are held is
below_in : (n : ℕ) (q : Queue) → ((k : ℕ) → 0 < outs_in k q → k < n) → AllByRecursion (λ x. x.0 < n) q
below_in n [] h = tt
below_in n (x ∷ q) h = (
  h x.0 (let e = outs_in-cons x.0 x q in omega (arith, e, counts x.0 x.0 refl)),
  below_in n q (λ k p. h k (omega (arith, outs_in-cons k x q))),
)

pub below : (n : ℕ) (qs : List Queue) → ((k : ℕ) → 0 < outs_of k qs → k < n) → AllByRecursion (λ q. AllByRecursion (λ x. x.0 < n) q) qs
below n [] h = tt
below n (q ∷ qs) h = (
  below_in n q (λ k p. h k (omega (arith, outs_of-cons k q qs))),
  below n qs (λ k p. h k (omega (arith, outs_of-cons k q qs))),
)

-- what is taken back stands at the end
none_before : (m n : ℕ) (q : Queue) → n ≤ m → AllByRecursion (λ x. m ≤ x.0) q → before n q ≡ []
none_before m n [] h all = refl
none_before m n (x ∷ q) h all =
    let l : m ≤ x.0 = all.0 in
    ap (λ b. cond b (x ∷ before n q) (before n q)) (le-ltb x.0 n (omega arith)) ∙ none_before m n q h all.1

pub kept_first : (n : ℕ) (q : Queue) → IsInOrder q → before n q ++ filter (λ x. nat_le n x.0) q ≡ q
kept_first n [] o = refl
kept_first n (x ∷ q) o =
    let later = filter (λ (y : ℕ × Out). nat_le n y.0) q in
    elim (cases_lt x.0 n) [
      | inl h ↦
          ap (λ b. cond b (x ∷ before n q) (before n q) ++ filter (λ (y : ℕ × Out). nat_le n y.0) (x ∷ q)) (lt-ltb x.0 n h)
          ∙ ap (λ b. (x ∷ before n q) ++ cond b (x ∷ later) later) (lt-leb n x.0 h)
          ∙ ap (λ r. x ∷ r) (kept_first n q o.1)
      | inr h ↦
          let none = none_before x.0 n q h o.0 in
          ap (λ b. cond b (x ∷ before n q) (before n q) ++ filter (λ (y : ℕ × Out). nat_le n y.0) (x ∷ q)) (le-ltb x.0 n h)
          ∙ ap (λ b. before n q ++ cond b (x ∷ later) later) (le-leb n x.0 h)
          ∙ ap (λ u. u ++ x ∷ later) none
          ∙ ap (λ r. x ∷ r) (sym (ap (λ u. u ++ later) none) ∙ kept_first n q o.1)
    ]

module _ {A : Type 0} (p : A → Bool) where
  all_pass : (xs : List A) → AllByRecursion (λ x. p x ≡ true) (filter p xs)
  all_pass [] = tt
  all_pass (x ∷ xs) =
      elim (p x) as (λ t. p x ≡ t → AllByRecursion (λ y. p y ≡ true) (cond t (x ∷ filter p xs) (filter p xs))) [ true ↦ λ e. (e, all_pass xs) | false ↦ λ _. all_pass xs ] refl

  passes_first : (xs ys : List A) → AllByRecursion (λ x. p x ≡ true) xs → AllByRecursion (λ x. p x ≡ false) ys → take_while p (xs ++ ys) ≡ xs
  passes_first [] [] all none = refl
  passes_first [] (y ∷ ys) all none = take_while-cons p y ys ∙ ap (λ b. cond b (y ∷ take_while p ys) []) none.0
  passes_first (x ∷ xs) ys all none =
      take_while-cons p x (xs ++ ys) ∙ ap (λ b. cond b (x ∷ take_while p (xs ++ ys)) []) all.0 ∙ ap (λ r. x ∷ r) (passes_first xs ys all.1 none)

all_reverse : {A : Type 0} (P : A → Type 0) (xs : List A) → AllByRecursion P xs → AllByRecursion P (reverse xs)
all_reverse P [] all = tt
all_reverse P (x ∷ xs) all = subst (λ r. AllByRecursion P r) (sym (reverse-append (x ∷ []) xs)) (all_push P (reverse xs) x (all_reverse P xs all.1) all.0)

pub end_is : (n : ℕ) (q : Queue) → IsInOrder q → length (take_while (λ x. nat_le n x.0) (reverse q)) ≡ length (filter (λ x. nat_le n x.0) q)
end_is n q o =
    let later = filter (λ (x : ℕ × Out). nat_le n x.0) q in
    let fails : AllByRecursion (λ x. nat_le n x.0 ≡ false) (before n q) = all_weaker (λ (x : ℕ × Out). nat_lt x.0 n ≡ true) (λ x. nat_le n x.0 ≡ false) (λ x e. lt-leb n x.0 (ltb-true x.0 n e)) (before n q) (all_pass (λ (x : ℕ × Out). nat_lt x.0 n) q) in
    ap (λ r. length (take_while (λ (x : ℕ × Out). nat_le n x.0) r)) (sym (ap reverse (kept_first n q o)) ∙ reverse-append (before n q) later)
    ∙ ap length (passes_first (λ (x : ℕ × Out). nat_le n x.0) (reverse later) (reverse (before n q)) (all_reverse _ later (all_pass (λ (x : ℕ × Out). nat_le n x.0) q)) (all_reverse _ (before n q) fails))
    ∙ length-reverse later

-- so many taken off the end leave the rest
pub cut_is : (n m : ℕ) (q : Queue) → IsInOrder q → m ≡ length (take_while (λ x. nat_le n x.0) (reverse q)) → take (length q - m) q ≡ before n q
cut_is n m q o e =
    let later = filter (λ (x : ℕ × Out). nat_le n x.0) q in
    let parts = kept_first n q o in
    let sizes : length (before n q) + length later ≡ length q = sym (length-append (before n q) later) ∙ ap length parts in
    let count : length (before n q) ≡ length q - m = omega (arith, e, end_is n q o) in
    ap (take (length q - m)) (sym parts) ∙ take_at (before n q) later (length q - m) count

-- the first out
pub no_first : (n : ℕ) (q : Queue) → option_map (λ x. x.0) (slice_get q 0) ≡ None → up_to n q ≡ []
no_first n [] e = refl
no_first n (x ∷ q) e = cc

pub first_later : (n m : ℕ) (q : Queue) → IsInOrder q → option_map (λ x. x.0) (slice_get q 0) ≡ Some m → n < m → up_to n q ≡ []
first_later n m [] o e h = refl
first_later n m (x ∷ q) o e h =
    let is : x.0 ≡ m = cc in
    let l : n < x.0 = omega arith in
    ap (λ b. cond b (x ∷ up_to n q) (up_to n q)) (lt-leb x.0 n l) ∙ none_up_to x.0 n q l o.0

pub none_left : (n : ℕ) (q : Queue) → IsInOrder q → up_to n q ≡ [] → beyond n q ≡ q
none_left n q o e = sym (ap (λ u. u ++ beyond n q) e) ∙ given_first n q o

-- a queue for each configuration, and one more
pub drop_queues : (confs : List Conf) (i : ℕ) → i < length confs → no_queues (drop i confs) ≡ [] ∷ no_queues (drop (i + 1) confs)
drop_queues [] i h = absurd (omega arith)
drop_queues (c ∷ cs) zero h = refl
drop_queues (c ∷ cs) (suc i) h = drop_queues cs i (omega arith) ∙ ap (λ n. [] ∷ no_queues (drop n (c ∷ cs))) (let e : suc (i + 1) ≡ suc i + 1 = omega arith in e)

-- the queues up to a place cut, and those behind it not
cut_length : (n : ℕ) (qs : List Queue) (i : ℕ) → i < length qs → length (map (before n) (take i qs) ++ drop i qs) ≡ length qs
cut_length n qs i h =
    length-append (map (before n) (take i qs)) (drop i qs)
    ∙ omega (arith, length-map (take i qs) (before n), length-take-le i qs (omega arith), length-drop i qs)

pub cut_more : (n : ℕ) (qs now : List Queue) (i : ℕ) (d new : Queue) → i < length qs → now ≡ map (before n) (take i qs) ++ drop i qs → new ≡ before n (get_or now i d) → set now i new ≡ map (before n) (take (i + 1) qs) ++ drop (i + 1) qs
cut_more n qs now i d new h e is =
    let l : i < length now = omega (arith, ap length e, cut_length n qs i h) in
    ap (set now i) is ∙ map_over_more (before n) qs now i (get_or now i d) h e (get_or_default now i d (get_or now i d) l)

pub behind : (n : ℕ) (qs now : List Queue) (i : ℕ) (d : Queue) → i < length qs → now ≡ map (before n) (take i qs) ++ drop i qs → AllByRecursion IsInOrder qs → IsInOrder (get_or now i d)
behind n qs now i d h e order =
    let front : length (map (before n) (take i qs)) ≡ i = length-map (take i qs) (before n) ∙ length-take-le i qs (omega arith) in
    let is : get_or now i d ≡ get_or qs i [] =
    ap (λ (z : List Queue). get_or z i d) (e ∙ ap (λ (z : List Queue). map (before n) (take i qs) ++ z) (drop_more qs i [] h))
    ∙ get_or_at (map (before n) (take i qs)) (get_or qs i []) (drop (i + 1) qs) d i front in
    subst IsInOrder (sym is) (all_get IsInOrder qs i [] order tt)

-- an out pushed to the queue at a place
pub added_at : (qs : List Queue) (p : Option ℕ) (i : ℕ) (d new : Queue) (x : ℕ × Out) → Some i ≡ p → i < length qs → new ≡ get_or qs i d ++ x ∷ [] → set qs i new ≡ queues_with_out qs p x
added_at qs p i d new x e h is =
    ap (set qs i) (is ∙ ap (λ (q : Queue). q ++ x ∷ []) (get_or_default qs i d [] h)) ∙ ap (λ (v : Option ℕ). queues_with_out qs v x) e

-- the queue at a place, from which outs were given
pub given_step : (qs : List Queue) (p : Option ℕ) (i n : ℕ) (q new : Queue) → Some i ≡ p → q ≡ get_or qs i [] → new ≡ beyond n q → set qs i new ≡ queues_after_hand qs p n
given_step qs p i n q new e at is = ap (set qs i) (is ∙ ap (beyond n) at) ∙ ap (λ (v : Option ℕ). queues_after_hand qs v n) e

pub same_step : (qs : List Queue) (i : ℕ) (q new : Queue) → q ≡ get_or qs i [] → new ≡ q → set qs i new ≡ qs
same_step qs i q new at is = ap (set qs i) (is ∙ at) ∙ set-get_or qs i []

-- what was written over all items of a list
pub whole : {A : Type 0} (n : ℕ) (new old : List A) → length new ≡ n → take n (new ++ drop (length new) old) ≡ new
whole n new old e = take_at new (drop (length new) old) n e

pub on_ok : {A E : Type 0} (r : Result A E) (b : Bool) (P : Type 0) → b ≡ is_err r → b ≡ false → OnOk r P → P
on_ok (Ok a) b P e f h = h
on_ok (Err x) b P e f h = cc

pub on_err : {A E : Type 0} (r : Result A E) (b : Bool) (P : Type 0) → b ≡ is_err r → b ≡ true → OnErr r P → P
on_err (Ok a) b P e f h = cc
on_err (Err x) b P e f h = h
