-- Addresses in order: which is the least of them, which is the next, and the addresses of entries in order.
use Rattle.std.proofs.Common.{◌≡◌, ◌≢◌, ℕ, zero, suc, ◌+◌, Bool, true, false, cond, ◌||◌, List, [], ◌∷◌, Option, Some, None, ◌⊎◌, inl, inr, refl, sym, ap, subst, ◌∙◌, IsTrue, IfSome, IfNone, arith}
use Rattle.std.specs.Prelude.{slice_get}
use Rattle.std.specs.List.{AllByRecursion, find}
use Rattle.std.specs.Ordering.{eq_by_cmp, is_lt, ordering_reverse}
use Rattle.std.specs.Cmp.{IsTotalOrder, tied_itself}
use Rattle.std.specs.declared.cmp.Ordering.{Ordering}
use Rattle.std.specs.declared.cmp.Ordering.TheVariants.{Less, Equal, Greater}
use Rattle.std.proofs.lemmas.Bool.{both_ways}
use Rattle.std.proofs.lemmas.Option.{same_Some}
use Rattle.std.specs.FinMap.{IsAntisymmetric}
use Rattle.apd_base.specs.Addr.{is_among, addr_cmp}
use Rattle.apd_base.specs.declared.address.Addr.{Addr}
use Rattle.apd_base.proofs.AddrLemmas.{addr_total, addr_exact, same_addr}
use Rattle.apd_base.proofs.MapLemmas.{one_or_apart, tied}
use Rattle.apd_acl.specs.Least.{IsLeast, IsLeastAbove}
use Rattle.apd_ctrl.specs.Order.{Rising}
use Rattle.apd_ctrl.specs.Texts.{is_above}

greater : (r : Ordering) → r ≡ Less → r ≢ Greater
greater r e g = cc

tied_not : (r : Ordering) → r ≡ Equal → r ≢ Greater
tied_not r e g = cc

less : (r : Ordering) → is_lt r ≡ true → r ≡ Less
less Less e = refl
less Equal e = cc
less Greater e = cc

-- what an order doesn't tell apart is one
pub same_key : {K : Type 0} {R : K → K → Ordering} → IsTotalOrder R → IsAntisymmetric R → (k l : K) → eq_by_cmp R k l ≡ true → k ≡ l
same_key {K} {R} o exact k l e = elim (one_or_apart o exact k l) [ inl same ↦ same | inr ne ↦ absurd (both_ways (eq_by_cmp R k l) ne e) ]

or_parts : (t u : Bool) → (t || u) ≡ true → (t ≡ true) ⊎ (u ≡ true)
or_parts true u e = inl refl
or_parts false u e = inr e

or_right : (t u : Bool) → u ≡ true → (t || u) ≡ true
or_right true u e = refl
or_right false u e = e

-- an address below all is below each of them
below_among : (a c : Addr) (all : List Addr) → AllByRecursion (λ c. addr_cmp a c ≡ Less) all → is_among c all ≡ true → addr_cmp a c ≡ Less
below_among a c [] h e = cc
below_among a c (d ∷ all) h e = elim (or_parts (eq_by_cmp addr_cmp c d) (is_among c all) e) [
  | inl here ↦ ap (addr_cmp a) (same_addr d c here) ∙ h.0
  | inr later ↦ below_among a c all h.1 later
]

-- the first that passes a test is the least of those that pass
pub found_least : (q : Addr → Bool) (all : List Addr) (a : Addr) → Rising all → find q all ≡ Some a → IsLeast (λ c. IsTrue (is_among c all) × IsTrue (q c)) a
found_least q [] a h e = cc
found_least q (d ∷ all) a h e =
    elim (q d) as (λ t. q d ≡ t → cond t (Some d) (find q all) ≡ Some a → IsLeast (λ c. IsTrue (is_among c (d ∷ all)) × IsTrue (q c)) a) [
      | true ↦ λ pass e.
          let same : d ≡ a = same_Some d a e in
          subst (IsLeast (λ c. IsTrue (is_among c (d ∷ all)) × IsTrue (q c))) same (record {
            has = (ap (λ t. t || is_among d all) (tied addr_total addr_exact d), pass);
            least = λ c p. elim (or_parts (eq_by_cmp addr_cmp c d) (is_among c all) p.0) [
              | inl here ↦ tied_not (addr_cmp d c) (ap (addr_cmp d) (same_addr d c here) ∙ tied_itself addr_total d)
              | inr later ↦ greater (addr_cmp d c) (below_among d c all h.0 later)
            ];
          })
      | false ↦ λ fails e.
          let rest = found_least q all a h.1 e in
          record {
            has = (or_right (eq_by_cmp addr_cmp a d) (is_among a all) rest.has.0, rest.has.1);
            least = λ c p. elim (or_parts (eq_by_cmp addr_cmp c d) (is_among c all) p.0) [
              | inl here ↦ absurd (both_ways (q d) fails (ap q (sym (same_addr d c here)) ∙ p.1))
              | inr later ↦ rest.least c (later, p.1)
            ];
          }
    ] refl e

pub found_none : (q : Addr → Bool) (all : List Addr) → find q all ≡ None → (c : Addr) → is_among c all ≡ true → q c ≡ true → ⊥
found_none q [] e c among pass = cc
found_none q (d ∷ all) e c among pass =
    elim (q d) as (λ t. q d ≡ t → cond t (Some d) (find q all) ≡ None → ⊥) [
      | true ↦ λ yes e. cc
      | false ↦ λ no e. elim (or_parts (eq_by_cmp addr_cmp c d) (is_among c all) among) [
        | inl here ↦ both_ways (q d) no (ap q (sym (same_addr d c here)) ∙ pass)
        | inr later ↦ found_none q all e c later pass
      ]
    ] refl e

-- there is one least
between : (r : Ordering) → r ≢ Greater → ordering_reverse r ≢ Greater → r ≡ Equal
between Less h g = absurd (g refl)
between Equal h g = refl
between Greater h g = absurd (h refl)

pub one_least : (P : Addr → Type 0) (x y : Addr) → IsLeast P x → IsLeast P y → x ≡ y
one_least P x y h g =
    let back : addr_cmp y x ≡ ordering_reverse (addr_cmp x y) = addr_total.antisymm y x in
    addr_exact x y (between (addr_cmp x y) (h.least y g.has) (λ e. g.least x h.has (back ∙ e)))

-- an address that is least among those with a property is the first that passes the test of it
module _ (q : Addr → Bool) (all : List Addr) (rising : Rising all) (P : Addr → Type 0) (in' : (c : Addr) → P c → IsTrue (is_among c all) × IsTrue (q c)) (out : (c : Addr) → IsTrue (is_among c all) → IsTrue (q c) → P c) where
  found_by : (f : Option Addr) → find q all ≡ f → (r : Option Addr) → IfSome r (IsLeast P) → IfNone r ((c : Addr) → ¬ (P c)) → r ≡ f
  found_by None e None some none = refl
  found_by None e (Some x) some none = absurd (found_none q all e x (in' x some.has).0 (in' x some.has).1)
  found_by (Some a) e None some none = (let least = found_least q all a rising e in absurd (none a (out a least.has.0 least.has.1)))
  found_by (Some a) e (Some x) some none =
      let least = found_least q all a rising e in
      ap Some (one_least P x a some (record { has = out a least.has.0 least.has.1; least = λ c p. least.least c (in' c p) }))

  pub found_is : (r : Option Addr) → IfSome r (IsLeast P) → IfNone r ((c : Addr) → ¬ (P c)) → r ≡ find q all
  found_is r some none = found_by (find q all) refl r some none

-- the first of all
any_first : (all : List Addr) → find (λ _. true) all ≡ slice_get all 0
any_first [] = refl
any_first (a ∷ all) = refl

pub first_is : (all : List Addr) (P : Addr → Type 0) → Rising all → ((c : Addr) → P c → IsTrue (is_among c all)) → ((c : Addr) → IsTrue (is_among c all) → P c)
    → (r : Option Addr) → IfSome r (IsLeast P) → IfNone r ((c : Addr) → ¬ (P c)) → r ≡ slice_get all 0
first_is all P rising in' out r some none = found_is (λ _. true) all rising P (λ c p. (in' c p, refl)) (λ c h _. out c h) r some none ∙ any_first all

lt : (r : Ordering) → r ≡ Less → is_lt r ≡ true
lt r e = ap is_lt e

none_above : (r : Option Addr) (a : Addr) (P : Addr → Type 0) → IfNone r ((c : Addr) → P c → addr_cmp a c ≢ Less) → IfNone r ((c : Addr) → ¬ (P c × (addr_cmp a c ≡ Less)))
none_above None a P h = λ c p. h c p.0 p.1
none_above (Some x) a P h = tt

pub next_is : (all : List Addr) (P : Addr → Type 0) (a : Addr) → Rising all → ((c : Addr) → P c → IsTrue (is_among c all)) → ((c : Addr) → IsTrue (is_among c all) → P c)
    → (r : Option Addr) → IfSome r (IsLeastAbove a P) → IfNone r ((c : Addr) → P c → addr_cmp a c ≢ Less) → r ≡ find (is_above a) all
next_is all P a rising in' out r some none =
    found_is (is_above a) all rising (λ c. P c × (addr_cmp a c ≡ Less)) (λ c p. (in' c p.0, lt (addr_cmp a c) p.1)) (λ c h above. (out c h, less (addr_cmp a c) above)) r some (none_above r a P none)

-- behind the address at a place stands the one at the next
not_below : (a c : Addr) → addr_cmp c a ≡ Less → is_above a c ≡ false
not_below a c e = ap is_lt (addr_total.antisymm a c ∙ ap ordering_reverse e)

all_above : (a : Addr) (all : List Addr) → AllByRecursion (λ c. addr_cmp a c ≡ Less) all → find (is_above a) all ≡ slice_get all 0
all_above a [] h = refl
all_above a (c ∷ all) h = ap (λ t. cond t (Some c) (find (is_above a) all)) (lt (addr_cmp a c) h.0)

at_among : (all : List Addr) (i : ℕ) (a : Addr) → slice_get all i ≡ Some a → is_among a all ≡ true
at_among [] i a e = cc
at_among (d ∷ all) zero a e = ap (λ t. t || is_among a all) (ap (eq_by_cmp addr_cmp a) (same_Some d a e) ∙ tied addr_total addr_exact a)
at_among (d ∷ all) (suc i) a e = or_right (eq_by_cmp addr_cmp a d) (is_among a all) (at_among all i a e)

pub step_on : (i : ℕ) → suc i + 1 ≡ suc (i + 1)
step_on i = omega arith

pub place_next : (all : List Addr) (i : ℕ) (a : Addr) → Rising all → slice_get all i ≡ Some a → find (is_above a) all ≡ slice_get all (i + 1)
place_next [] i a h e = cc
place_next (d ∷ all) zero a h e =
    let same : d ≡ a = same_Some d a e in
    ap (λ t. cond t (Some d) (find (is_above a) all)) (ap is_lt (ap (addr_cmp a) same ∙ tied_itself addr_total a)) ∙ ap (λ c. find (is_above c) all) (sym same) ∙ all_above d all h.0
place_next (d ∷ all) (suc i) a h e =
    ap (λ t. cond t (Some d) (find (is_above a) all)) (not_below a d (below_among d a all h.0 (at_among all i a e)))
    ∙ place_next all i a h.1 e ∙ ap (slice_get (d ∷ all)) (sym (step_on i))
