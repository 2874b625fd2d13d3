-- Stations put in one after another, from the front.
use Rattle.std.proofs.Common.{◌≡◌, ℕ, false, cond, ◌+◌, ◌<◌, ◌≤◌, List, [], ◌∷◌, ◌++◌, length, take, get_or, flat_map, Option, Some, None, inl, inr, refl, sym, ap, subst, ◌∙◌, add-one}
use Rattle.std.proofs.Math.Seq.{take-suc}
use Rattle.std.proofs.lemmas.List.{take_all}
use Rattle.std.specs.Ordering.{eq_by_cmp}
use Rattle.std.specs.FinMap as map
use Rattle.std.specs.FinMap.{from_entries, get-insert, same_map}
use Rattle.apd_base.specs.declared.address.Addr.{Addr}
use Rattle.apd_base.specs.Addr.{addr_cmp}
use Rattle.apd_base.proofs.AddrLemmas.{addr_total, addr_exact}
use Rattle.apd_base.proofs.Cases.{same_some}
use Rattle.apd_base.proofs.MapLemmas.{one_or_apart, get_inserted, get_insert_other}
use Rattle.apd_slot.specs.Rows.{row_of, with_station}
use Rattle.apd_slot.specs.Wanted.{Stations}

-- two at different addresses may be put in in either order
apart_turned : (m : Stations) (a b : Addr) (v w : ℕ) → eq_by_cmp addr_cmp a b ≡ false
    → map.insert (map.insert m b w) a v ≡ map.insert (map.insert m a v) b w
apart_turned m a b v w apart =
    same_map addr_total addr_exact _ _ (λ q.
    elim (one_or_apart addr_total addr_exact q a) [
      | inl e ↦
          subst (λ (z : Addr). map.get (map.insert (map.insert m b w) a v) z ≡ map.get (map.insert (map.insert m a v) b w) z) (sym e)
          (get_inserted addr_total addr_exact (map.insert m b w) a v
          ∙ sym (get_inserted addr_total addr_exact m a v)
          ∙ sym (get_insert_other addr_total addr_exact (map.insert m a v) b w a apart))
      | inr ne ↦
          get_insert_other addr_total addr_exact (map.insert m b w) a v q ne
          ∙ get-insert addr_total m b w q
          ∙ ap (cond (eq_by_cmp addr_cmp q b) (Some w)) (sym (get_insert_other addr_total addr_exact m a v q ne))
          ∙ sym (get-insert addr_total (map.insert m a v) b w q)
    ])

module _ (f : Addr → Option ℕ) where
  abbrev rows : List Addr → List (Addr × ℕ)
  rows as' = flat_map (λ a. row_of a (f a)) as'

  -- so may any two, where what is put in is told by the address
  turned : (m : Stations) (a b : Addr) (v w : ℕ) → f a ≡ Some v → f b ≡ Some w
      → map.insert (map.insert m b w) a v ≡ map.insert (map.insert m a v) b w
  turned m a b v w at_a at_b = elim (one_or_apart addr_total addr_exact a b) [
    | inl same ↦
        let values : v ≡ w = same_some v w (sym at_a ∙ ap f same ∙ at_b) in
        subst (λ (z : Addr × ℕ). map.insert (map.insert m b w) z.0 z.1 ≡ map.insert (map.insert m z.0 z.1) b w)
        (λ i. (sym same i, sym values i)) refl
    | inr apart ↦ apart_turned m a b v w apart
  ]

  put_behind : (as' : List Addr) (a : Addr) (v : ℕ) → f a ≡ Some v
      → map.insert (from_entries {R = addr_cmp} (rows as')) a v ≡ from_entries (rows (as' ++ a ∷ []))
  put_behind [] a v is = sym (ap (λ (o : Option ℕ). from_entries {R = addr_cmp} (row_of a o ++ [])) is)
  put_behind (b ∷ bs) a v is =
      elim (f b) as (λ o. f b ≡ o
      → map.insert (from_entries {R = addr_cmp} (row_of b o ++ rows bs)) a v ≡ from_entries (row_of b o ++ rows (bs ++ a ∷ []))) [
        | None ↦ λ _. put_behind bs a v is
        | Some w ↦ λ other. turned (from_entries (rows bs)) a b v w is other ∙ ap (λ (m : Stations). map.insert m b w) (put_behind bs a v is)
      ] refl

  passed_over : (as' : List Addr) (a : Addr) → f a ≡ None → rows as' ≡ rows (as' ++ a ∷ [])
  passed_over [] a is = sym (ap (λ (o : Option ℕ). row_of a o ++ []) is)
  passed_over (b ∷ bs) a is = ap (λ (r : List (Addr × ℕ)). row_of b (f b) ++ r) (passed_over bs a is)

  either_behind : (as' : List Addr) (a : Addr) (o : Option ℕ) → f a ≡ o
      → with_station a o (from_entries (rows as')) ≡ from_entries (rows (as' ++ a ∷ []))
  either_behind as' a None is = ap from_entries (passed_over as' a is)
  either_behind as' a (Some v) is = put_behind as' a v is

  -- the stations of one address more
  pub one_more : (all : List Addr) (i : ℕ) (d : Addr) (o : Option ℕ) → i < length all → o ≡ f (get_or all i d)
      → with_station (get_or all i d) o (from_entries (rows (take i all))) ≡ from_entries (rows (take (i + 1) all))
  one_more all i d o lt is =
      either_behind (take i all) (get_or all i d) o (sym is)
      ∙ ap (λ (some : List Addr). from_entries {R = addr_cmp} (rows some)) (sym (rw add-one (take-suc all i d lt)))

  -- and of all
  pub all_put : (all : List Addr) (i : ℕ) → length all ≤ i → from_entries {R = addr_cmp} (rows (take i all)) ≡ from_entries (rows all)
  all_put all i end = ap (λ (some : List Addr). from_entries {R = addr_cmp} (rows some)) (take_all i all end)
