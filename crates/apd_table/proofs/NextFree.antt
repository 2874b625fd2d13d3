-- An identifier is next exactly where one is free, and it is the only one that is.
use Rattle.std.proofs.Common.{◌≡◌, eq-eqb, ℕ, zero, suc, ◌<◌, ◌≤◌, ◌↔◌, Bool, true, false, Option, Some, None, ◌⊎◌, inl, inr, refl, ap, ◌∙◌, IsTrue, arith}
use Rattle.apd_table.proofs.Words.{Any-from_list_any, AreMarkedAbove, AreTakenAbove, Bssid, IsFree, IsLeastFreeAbove, IsLeastUnmarked, IsNextFree, IsTaken, State, addresses_at, aid_at, cases_lt, eqb-true, is_some, last_given, list_any, station_at, station_of_aid}
use Rattle.std.proofs.Math.Nat.{eq-or-lt_of_le}
use Rattle.std.specs.Prelude.{◌==◌}
use Rattle.apd_base.proofs.Cases.{value_of}
use Rattle.apd_base.specs.declared.limits.TheConstants.{MAX_STATIONS}
use Rattle.apd_table.proofs.AllRows.{any_address}
use Rattle.apd_table.proofs.Identifiers.{least_above, taken_above}

-- ---- the first number above one that is not marked

module _ (marked : ℕ → Bool) (last : ℕ) where
  -- those up to n are marked, or the first that is not is found
  abbrev Scanned : ℕ → Type 0
  Scanned n = ((j : ℕ) → last < j → j ≤ n → marked j ≡ true) ⊎ ((i : ℕ) × IsLeastUnmarked marked last i)

  -- one number more
  module _ (n : ℕ) (high : suc n ≤ MAX_STATIONS) (all : (j : ℕ) → last < j → j ≤ n → marked j ≡ true) where
    one_marked : marked (suc n) ≡ true → (j : ℕ) → last < j → j ≤ suc n → marked j ≡ true
    one_marked e j low le =
        elim (eq-or-lt_of_le le) [
          | inl same ↦ ap marked same ∙ e
          | inr less ↦ all j low (omega arith)
        ]

    one_unmarked : last < suc n → marked (suc n) ≡ false → IsLeastUnmarked marked last (suc n)
    one_unmarked lt e = record { low = lt; high = high; free = e; smaller = λ j low less. all j low (omega arith) }

    one_scanned : Scanned (suc n)
    one_scanned =
        elim (cases_lt last (suc n)) [
          | inl lt ↦ elim (marked (suc n)) as (λ t. marked (suc n) ≡ t → Scanned (suc n)) [
            | true ↦ λ e. inl (one_marked e)
            | false ↦ λ e. inr (suc n, one_unmarked lt e)
          ] refl
          | inr le ↦ inl (λ j low high. absurd (omega arith))
        ]

  scanned : (n : ℕ) → n ≤ MAX_STATIONS → Scanned n
  scanned zero high = inl (λ j low le. absurd (omega arith))
  scanned (suc n) high =
      elim (scanned n (omega arith)) [
        | inl all ↦ one_scanned n high all
        | inr found ↦ inr found
      ]

  all_or_least : AreMarkedAbove marked last ⊎ ((i : ℕ) × IsLeastUnmarked marked last i)
  all_or_least = scanned MAX_STATIONS (omega arith)

-- ---- identifiers

-- whether it is this number
abbrev is_number : ℕ → Option ℕ → Bool
is_number n None = false
is_number n (Some m) = m == n

number_is : (n : ℕ) (o : Option ℕ) → is_number n o ≡ true → o ≡ Some n
number_is n None e = cc
number_is n (Some m) e = ap Some (eqb-true m n e)

module _ (s : State) (b : Bssid) where
  -- whether a station has the identifier, by look-up
  abbrev has_one : ℕ → Bool
  has_one i = list_any (λ a. is_number i (aid_at s b a)) (addresses_at s b)

  found : (i : ℕ) → has_one i ≡ true → IsTaken s b i
  found i e =
      let one = Any-from_list_any (λ a. is_number i (aid_at s b a)) (addresses_at s b) e in
      (one.1, number_is i (aid_at s b one.1) one.4)

  looked_up : (i : ℕ) → IsTaken s b i → has_one i ≡ true
  looked_up i taken =
      let row = value_of (station_at s b taken.0) (station_of_aid (station_at s b taken.0) (ap is_some taken.1)) in
      any_address s b (λ a. is_number i (aid_at s b a)) taken.0 row.0 row.1 (ap (is_number i) taken.1 ∙ eq-eqb i i refl)

  marks : (i : ℕ) → i < 2048 → IsTrue (has_one i) ↔ IsTaken s b i
  marks i lt = (found i, looked_up i)

  all_or_one_above : (last : ℕ) → AreTakenAbove s b last ⊎ ((i : ℕ) × IsLeastFreeAbove s b last i)
  all_or_one_above last =
      elim (all_or_least has_one last) [
        | inl all ↦ inl (taken_above s b has_one marks last all)
        | inr one ↦ inr (one.0, least_above s b has_one marks last one.0 one.1)
      ]

  free_taken : (i : ℕ) → IsFree s b i → IsTaken s b i → ⊥
  free_taken i free taken = free.free taken.0 taken.1

  -- where one is free one is next
  some_next : (j : ℕ) → IsFree s b j → (i : ℕ) × IsNextFree s b i
  some_next j free =
      elim (all_or_one_above (last_given s b)) [
        | inr above ↦ (above.0, inl above.1)
        | inl all ↦ elim (all_or_one_above 0) [
          | inr least ↦ (least.0, inr (all, least.1))
          | inl none ↦ absurd (free_taken j free (none j free.low free.high))
        ]
      ]

  free_above : (last i : ℕ) → IsLeastFreeAbove s b last i → IsFree s b i
  free_above last i h = record { low = omega (arith, h.low); high = h.high; free = h.free }

  pub next_is_free : (i : ℕ) → IsNextFree s b i → IsFree s b i
  next_is_free i (inl h) = free_above (last_given s b) i h
  next_is_free i (inr h) = free_above 0 i h.1

  pub next_where_free : ((i : ℕ) × IsNextFree s b i) ↔ ((i : ℕ) × IsFree s b i)
  next_where_free = (λ next. (next.0, next_is_free next.0 next.1), λ one. some_next one.0 one.1)

  -- the number given last comes again only where no other is free
  pub last_alone : (i : ℕ) → IsNextFree s b i → i ≡ last_given s b → (j : ℕ) → IsFree s b j → j ≡ i
  last_alone i (inl h) same j free = absurd (omega (arith, h.low))
  last_alone i (inr h) same j free =
      let up : ¬ (i < j) = λ lt. free_taken j free (h.0 j (omega arith) free.high) in
      let down : ¬ (j < i) = λ lt. free_taken j free (h.1.smaller j free.low lt) in
      omega arith

  -- two that are next are one
  no_less : (last i j : ℕ) → IsLeastFreeAbove s b last i → IsLeastFreeAbove s b last j → i < j → ⊥
  no_less last i j first second less = free_taken i (free_above last i first) (second.smaller i first.low less)

  one_least : (last i j : ℕ) → IsLeastFreeAbove s b last i → IsLeastFreeAbove s b last j → i ≡ j
  one_least last i j first second =
      let up : ¬ (i < j) = no_less last i j first second in
      let down : ¬ (j < i) = no_less last j i second first in
      omega arith

  none_above : (last i : ℕ) → AreTakenAbove s b last → IsLeastFreeAbove s b last i → ⊥
  none_above last i all h = free_taken i (free_above last i h) (all i h.low h.high)

  pub one_next : (i j : ℕ) → IsNextFree s b i → IsNextFree s b j → i ≡ j
  one_next i j (inl h) (inl k) = one_least (last_given s b) i j h k
  one_next i j (inl h) (inr k) = absurd (none_above (last_given s b) i k.0 h)
  one_next i j (inr h) (inl k) = absurd (none_above (last_given s b) j h.0 k)
  one_next i j (inr h) (inr k) = one_least 0 i j h.1 k.1
