-- What an ordered set's calls say of its keys, told of the set.
use Rattle.std.proofs.Common.{◌≡◌, ◌≢◌, ◌<◌, ◌↔◌, Bor, IsSome, MatchOption, arith, ℕ, suc, Bool, true, false, cond, ◌||◌, List, [], ◌∷◌, length, Option, Some, None, IsTrue, IfSome, IfNone, refl, sym, ap, subst, ◌∙◌, T}
use Rattle.std.specs.BTreeMap.{is_at}
use Rattle.std.specs.Map.{keys_of, lookup}
use Rattle.std.specs.Prelude.{⊤}
use Rattle.std.specs.List.{list_any, slice_get}
use Rattle.std.specs.BTreeSet.{BTreeSet, IsFromIterResult}
use Rattle.std.proofs.lemmas.Map.Lookups.{btree_set_from_contains}
use Rattle.std.specs.List.Sorted.{IsStrictlySortedBy}
use Rattle.std.specs.Option.{is_some, option_copied}
use Rattle.std.specs.Ordering.{is_gt}
use Rattle.std.specs.declared.cmp.Ordering.{Ordering}
use Rattle.std.specs.declared.cmp.Ordering.TheVariants.{Less, Greater}
use Rattle.std.specs.FinMap as map
use Rattle.std.specs.FinMap.{is_sorted}
use Rattle.apd_base.specs.Sets.{contains}
use Rattle.apd_base.specs.Addr.{addr_cmp}
use Rattle.apd_base.specs.declared.address.Addr.{Addr}
use Rattle.apd_base.proofs.AddrLemmas.{addr_total, addr_exact}
use Rattle.apd_base.proofs.Trees.{in_order, rising, get_lookup, inserted, removed}
use Rattle.apd_base.proofs.Cases.{differ}
use Rattle.apd_acl.specs.Least.{IsLeast, IsLeastAbove}
use Rattle.apd_acl.specs.Keys.{rows_of, set_of}

keys_of-rows_of : (keys : List Addr) → keys_of (rows_of keys) ≡ keys
keys_of-rows_of [] = refl
keys_of-rows_of (key ∷ keys) = ap (λ ks. key ∷ ks) (keys_of-rows_of keys)

-- keys that rise are a set
pub rows_sorted : (keys : List Addr) → IsStrictlySortedBy addr_cmp keys → T (is_sorted addr_cmp (rows_of keys))
rows_sorted keys rise = in_order addr_cmp (rows_of keys) (subst (IsStrictlySortedBy addr_cmp) (sym (keys_of-rows_of keys)) rise)

pub keys_are : (keys : List Addr) → T (is_sorted addr_cmp (rows_of keys)) → keys ≡ map.keys (set_of keys)
keys_are keys sorted = sym (ap keys_of (map.entries-from_sorted addr_cmp (rows_of keys) sorted) ∙ keys_of-rows_of keys)

length-rows_of : (keys : List Addr) → length (rows_of keys) ≡ length keys
length-rows_of [] = refl
length-rows_of (key ∷ keys) = ap suc (length-rows_of keys)

-- as many
pub len-keys : (keys : List Addr) → T (is_sorted addr_cmp (rows_of keys)) → length keys ≡ map.len (set_of keys)
len-keys keys sorted = sym (map.len-entries (set_of keys) ∙ ap length (map.entries-from_sorted addr_cmp (rows_of keys) sorted) ∙ length-rows_of keys)

pub no_keys : set_of [] ≡ map.empty
no_keys = map.empty_of_len (set_of []) (sym (len-keys [] tt))

abbrev mark : Bool → Option (Unit {0})
mark t = cond t (Some tt) None

lookup-rows_of : (test : Addr → Bool) (keys : List Addr) → lookup test (rows_of keys) ≡ mark (list_any test keys)
lookup-rows_of test [] = refl
lookup-rows_of test (key ∷ keys) =
    elim (test key) as (λ t. cond t (Some tt) (lookup test (rows_of keys)) ≡ mark (t || list_any test keys)) [
      | true ↦ refl
      | false ↦ lookup-rows_of test keys
    ]

is_some-mark : (t : Bool) → is_some (mark t) ≡ t
is_some-mark true = refl
is_some-mark false = refl

-- whether the keys have an address, the set has it
pub has_key : (keys : List Addr) → T (is_sorted addr_cmp (rows_of keys)) → (a : Addr) → list_any (is_at (addr_cmp a)) keys ≡ contains (set_of keys) a
has_key keys sorted a = sym (ap is_some (sym (get_lookup addr_cmp (rows_of keys) sorted a) ∙ lookup-rows_of (is_at (addr_cmp a)) keys) ∙ is_some-mark _)

mark_true : (t s : Bool) → mark (cond t true s) ≡ cond t (Some tt) (mark s)
mark_true true s = refl
mark_true false s = refl

mark_false : (t s : Bool) → mark (cond t false s) ≡ cond t None (mark s)
mark_false true s = refl
mark_false false s = refl

module _ (old new : List Addr) (was : T (is_sorted addr_cmp (rows_of old))) (is : T (is_sorted addr_cmp (rows_of new))) (a : Addr) where
  pub set_added : ((q : Addr) → list_any (is_at (addr_cmp q)) new ≡ cond (is_at (addr_cmp a) q) true (list_any (is_at (addr_cmp q)) old)) → set_of new ≡ map.insert (set_of old) a tt
  set_added says = inserted addr_total addr_exact (rows_of old) (rows_of new) was is a tt (λ q.
      lookup-rows_of (is_at (addr_cmp q)) new ∙ ap mark (says q) ∙ mark_true (is_at (addr_cmp a) q) _
      ∙ ap (cond (is_at (addr_cmp a) q) (Some tt)) (sym (lookup-rows_of (is_at (addr_cmp q)) old)))

  pub set_removed : ((q : Addr) → list_any (is_at (addr_cmp q)) new ≡ cond (is_at (addr_cmp a) q) false (list_any (is_at (addr_cmp q)) old)) → set_of new ≡ map.remove (set_of old) a
  set_removed says = removed addr_total addr_exact (rows_of old) (rows_of new) was is a (λ q.
      lookup-rows_of (is_at (addr_cmp q)) new ∙ ap mark (says q) ∙ mark_false (is_at (addr_cmp a) q) _
      ∙ ap (cond (is_at (addr_cmp a) q) None) (sym (lookup-rows_of (is_at (addr_cmp q)) old)))

keys_rise : (keys : List Addr) → T (is_sorted addr_cmp (rows_of keys)) → IsStrictlySortedBy addr_cmp keys
keys_rise keys sorted = subst (IsStrictlySortedBy addr_cmp) (keys_of-rows_of keys) (rising addr_cmp (rows_of keys) sorted)

-- a set made of keys that rise has these keys
pub same_keys : (keys : List Addr) → T (is_sorted addr_cmp (rows_of keys)) → (new : BTreeSet Addr) → IsFromIterResult addr_cmp keys new → new.keys ≡ keys
same_keys keys sorted new made = btree_set_from_contains addr_total new (record { keys = keys }) made.1 (keys_rise keys sorted) made.0 addr_exact

not_greater : (r : Ordering) → is_gt r ≡ false → r ≢ Greater
not_greater r e g = cc

positive : (n : ℕ) → 0 < suc n
positive n = omega arith

-- ---- the least address, and the least above another

module _ (keys : List Addr) (sorted : T (is_sorted addr_cmp (rows_of keys))) where
  abbrev pub HasKey : Addr → Type 0
  HasKey a = IsTrue (list_any (is_at (addr_cmp a)) keys)

  abbrev pub IsIn : Addr → Type 0
  IsIn a = IsTrue (contains (set_of keys) a)

  in_set : (a : Addr) → HasKey a → IsIn a
  in_set a h = sym (has_key keys sorted a) ∙ h

  in_keys : (a : Addr) → IsIn a → HasKey a
  in_keys a h = has_key keys sorted a ∙ h

  least_of : (r : Option (Bor Addr)) → IfSome r (λ k. HasKey k.now) → IfSome r (λ k. (q : Addr) → HasKey q → is_gt (addr_cmp k.now q) ≡ false) → IfSome (option_copied r) (IsLeast IsIn)
  least_of None has lower = tt
  least_of (Some k) has lower = record { has = in_set k.now has; least = λ c p. not_greater _ (lower c (in_keys c p)) }

  pub least_some : (r : Option (Bor Addr)) → IfSome r (λ k. HasKey k.now) → IfSome r (λ k. (q : Addr) → HasKey q → is_gt (addr_cmp k.now q) ≡ false)
      → (o : Option Addr) → o ≡ option_copied r → IfSome o (IsLeast IsIn)
  least_some r has lower o e = subst (λ x. IfSome x (IsLeast IsIn)) (sym e) (least_of r has lower)

  not_empty : (ks : List Addr) (a : Addr) → IsTrue (list_any (is_at (addr_cmp a)) ks) → 0 < length ks
  not_empty [] a h = cc
  not_empty (k ∷ ks) a h = positive (length ks)

  none_of : (r : Option (Bor Addr)) → IsSome r ↔ (0 < length keys) → IfNone (option_copied r) ((a : Addr) → ¬ (IsIn a))
  none_of None variant = λ a h. let some = variant.1 (not_empty keys a (in_keys a h)) in cc
  none_of (Some k) variant = tt

  pub least_none : (r : Option (Bor Addr)) → IsSome r ↔ (0 < length keys) → (o : Option Addr) → o ≡ option_copied r → IfNone o ((a : Addr) → ¬ (IsIn a))
  least_none r variant o e = subst (λ x. IfNone x ((a : Addr) → ¬ (IsIn a))) (sym e) (none_of r variant)

  -- a part of the keys: those above an address
  module _ (k : Addr) (part rest : List Addr) (r : Option (Bor Addr)) (steps : MatchOption r ((part ≡ []) × (rest ≡ [])) (λ x. part ≡ x.now ∷ rest)) where
    abbrev pub AboveIs : Addr → Type 0
    AboveIs q = (addr_cmp k q ≡ Less) × ⊤

    module _ (first : IfSome (slice_get part 0) (λ x. AboveIs x × HasKey x)) (least : (q : Addr) → AboveIs q → HasKey q → IfSome (slice_get part 0) (λ x. is_gt (addr_cmp x q) ≡ false)) where
      above_of : (r : Option (Bor Addr)) → MatchOption r ((part ≡ []) × (rest ≡ [])) (λ x. part ≡ x.now ∷ rest) → IfSome (option_copied r) (IsLeastAbove k IsIn)
      above_of None e = tt
      above_of (Some x) e =
          let is : slice_get part 0 ≡ Some x.now = ap (λ xs. slice_get xs 0) e in
          let here = subst (λ o. IfSome o (λ y. AboveIs y × HasKey y)) is first in
          record { has = (in_set x.now here.1, here.0.0); least = λ c p. not_greater _ (subst (λ o. IfSome o (λ y. is_gt (addr_cmp y c) ≡ false)) is (least c (p.1, tt) (in_keys c p.0))) }

      pub above_some : (o : Option Addr) → o ≡ option_copied r → IfSome o (IsLeastAbove k IsIn)
      above_some o e = subst (λ x. IfSome x (IsLeastAbove k IsIn)) (sym e) (above_of r steps)

    module _ (none : part ≡ [] → (q : Addr) → AboveIs q → list_any (is_at (addr_cmp q)) keys ≡ false) where
      none_above_of : (r : Option (Bor Addr)) → MatchOption r ((part ≡ []) × (rest ≡ [])) (λ x. part ≡ x.now ∷ rest) → IfNone (option_copied r) ((a : Addr) → IsIn a → addr_cmp k a ≢ Less)
      none_above_of None e = λ a h l. differ _ (none e.0 a (l, tt)) (in_keys a h)
      none_above_of (Some x) e = tt

      pub above_none : (o : Option Addr) → o ≡ option_copied r → IfNone o ((a : Addr) → IsIn a → addr_cmp k a ≢ Less)
      above_none o e = subst (λ x. IfNone x ((a : Addr) → IsIn a → addr_cmp k a ≢ Less)) (sym e) (none_above_of r steps)
