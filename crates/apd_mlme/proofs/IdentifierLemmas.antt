-- The next identifier, and why there is always one for a station that is authenticated and not associated.
use Rattle.std.proofs.Common.{◌≡◌, ◌≢◌, eq-eqb, ℕ, zero, suc, ◌-◌, ◌<◌, ◌≤◌, true, false, cond, not, ◌&&◌, Option, Some, None, inl, inr, refl, sym, ap, subst, ◌∙◌, IsSome, IfNone, arith, ◌⊎◌}
use Rattle.apd_mlme.proofs.Words.{Addr, Aid, AreTakenAbove, Associated, Authenticated, Bssid, FinMap, IsLeastFreeAbove, IsNextFree, IsTaken, Sound, State, Station, addresses_at, aid_at, aid_of, any_address, apart, at_least_one, at_most_all, bssid_cmp, bssid_exact, bssid_total, differ, eq_by_cmp, eqb-true, get-retain_keys, get_remove_other, identifier_for, is_number, is_some, is_taken, last_given, len-remove, ltb-false, ltb-true, next_free, none_is, one_less, one_or_apart, option_or, same_aid, same_some, station_at, station_cmp, station_exact, station_of_aid, station_total, stations_of, tied}
use Rattle.std.specs.Prelude.{nat_lt}
use Rattle.std.specs.FinMap as map
use Rattle.std.proofs.Math.Nat.{eq-or-lt_of_le}
use Rattle.apd_base.specs.declared.limits.TheConstants.{MAX_STATIONS}
use Rattle.apd_table.proofs.NextFree.{next_is_free, one_next}
use Rattle.apd_table.proofs.Parts.{has_one}
use Rattle.apd_mlme.specs.rules.Identifiers.{least_free_to, least_free_above}
use Rattle.apd_base.proofs.Cases.{value_of}
use Rattle.std.proofs.lemmas.List.Folds.{Any-from_list_any}

number_is : (n : ℕ) (o : Option ℕ) → is_number n o ≡ true → o ≡ Some n
number_is n None e = cc
number_is n (Some m) e = ap Some (eqb-true m n e)

module _ (s : State) (b : Bssid) where
  -- whether an identifier is taken, by look-up
  taken_of : (aid : Aid) → is_taken s b aid ≡ true → IsTaken s b aid.number
  taken_of aid e =
      let one = Any-from_list_any (λ a. is_number aid.number (aid_at s b a)) (addresses_at s b) e in
      (one.1, number_is aid.number (aid_at s b one.1) one.4)

  free_of : (aid : Aid) → is_taken s b aid ≡ false → (a : Addr) → aid_at s b a ≢ Some aid.number
  free_of aid e a has =
      let row = value_of (station_at s b a) (station_of_aid (station_at s b a) (ap is_some has)) in
      differ _ e (any_address s b (λ c. is_number aid.number (aid_at s b c)) a row.0 row.1 (ap (is_number aid.number) has ∙ eq-eqb aid.number aid.number refl))

  pub taken_or_free : (aid : Aid) → IsTaken s b aid.number ⊎ ((a : Addr) → aid_at s b a ≢ Some aid.number)
  taken_or_free aid =
      elim (is_taken s b aid) as (λ t. is_taken s b aid ≡ t → IsTaken s b aid.number ⊎ ((a : Addr) → aid_at s b a ≢ Some aid.number)) [
        | true ↦ λ e. inl (taken_of aid e)
        | false ↦ λ e. inr (free_of aid e)
      ] refl

  -- none is free above a number: each is some station's; and the one that is found is the least
  abbrev Scanned : ℕ → ℕ → Option Aid → Type 0
  Scanned last n None = (i : ℕ) → last < i → i ≤ n → IsTaken s b i
  Scanned last n (Some aid) = IsLeastFreeAbove s b last aid.number

  -- one number more
  module _ (last n : ℕ) (below : (i : ℕ) → last < i → i ≤ n → IsTaken s b i) where
    one_more : (last < suc n → IsTaken s b (suc n)) → (i : ℕ) → last < i → i ≤ suc n → IsTaken s b i
    one_more here i low high =
        elim (eq-or-lt_of_le high) [
          | inl same ↦ subst (IsTaken s b) (sym same) (here (omega arith))
          | inr less ↦ below i low (omega arith)
        ]

    module _ (aid : Aid) (is : aid.number ≡ suc n) where
      least_here : last < suc n → is_taken s b aid ≡ false → IsLeastFreeAbove s b last aid.number
      least_here low untaken = record {
        low = omega arith;
        high = aid.high;
        free = free_of aid untaken;
        smaller = λ j more less. below j more (omega arith);
      }

      next_scanned : Scanned last (suc n) (cond (nat_lt last (suc n) && not (is_taken s b aid)) (Some aid) None)
      next_scanned =
          elim (nat_lt last (suc n)) as (λ t. nat_lt last (suc n) ≡ t → Scanned last (suc n) (cond (t && not (is_taken s b aid)) (Some aid) None)) [
            | true ↦ λ low. elim (is_taken s b aid) as (λ t. is_taken s b aid ≡ t → Scanned last (suc n) (cond (not t) (Some aid) None)) [
              | true ↦ λ e. one_more (λ _. subst (IsTaken s b) is (taken_of aid e))
              | false ↦ λ e. least_here (ltb-true last (suc n) low) e
            ] refl
            | false ↦ λ e. one_more (λ low. absurd (omega (arith, ltb-false last (suc n) e)))
          ] refl

  scanned : (last n : ℕ) (high : n ≤ MAX_STATIONS) → Scanned last n (least_free_to s b last n high)
  unfolding least_free_to
  scanned last zero high = λ i low none. absurd (omega arith)
  scanned last (suc n) high =
      let aid : Aid = record { number = suc n; low = at_least_one n; high = high } in
      elim (least_free_to s b last n (one_less n high)) as (λ o. Scanned last n o → Scanned last (suc n) (option_or o (cond (nat_lt last (suc n) && not (is_taken s b aid)) (Some aid) None))) [
        | None ↦ λ below. next_scanned last n below aid refl
        | Some z ↦ λ least. least
      ] (scanned last n (one_less n high))

  all_scanned : (last : ℕ) → Scanned last MAX_STATIONS (least_free_above s b last)
  unfolding least_free_above
  all_scanned last = scanned last MAX_STATIONS at_most_all

  -- all are taken, or the one that is found is the next
  abbrev IsFound : Option Aid → Type 0
  IsFound None = AreTakenAbove s b 0
  IsFound (Some aid) = IsNextFree s b aid.number

  found : IsFound (next_free s b)
  found =
      elim (least_free_above s b (last_given s b)) as (λ o. Scanned (last_given s b) MAX_STATIONS o → IsFound (option_or o (least_free_above s b 0))) [
        | None ↦ λ all. elim (least_free_above s b 0) as (λ o. Scanned 0 MAX_STATIONS o → IsFound o) [
          | None ↦ λ none. none
          | Some z ↦ λ least. inr (all, least)
        ] (all_scanned 0)
        | Some z ↦ λ least. inl least
      ] (all_scanned (last_given s b))

  pub found_next : (n : ℕ) (aid : Aid) → IsNextFree s b n → aid.number ≡ n → next_free s b ≡ Some aid
  found_next n aid next same =
      elim (next_free s b) as (λ o. IsFound o → o ≡ Some aid) [
        | None ↦ λ all. (let free = next_is_free s b n next in let one = all n free.low free.high in absurd (free.free one.0 one.1))
        | Some z ↦ λ is. ap Some (same_aid z aid (one_next s b z.number n is next ∙ sym same))
      ] found

  pub is_next_free : (aid : Aid) → next_free s b ≡ Some aid → IsNextFree s b aid.number
  is_next_free aid e = subst IsFound e found

  -- one that is given is nobody's
  pub nobody_has : (aid : Aid) → next_free s b ≡ Some aid → (a : Addr) → aid_at s b a ≢ Some aid.number
  nobody_has aid e = (next_is_free s b aid.number (is_next_free aid e)).free

  -- as many rows as identifiers that are taken
  abbrev Has : FinMap station_cmp Station → ℕ → Type 0
  Has m i = (a : Addr) × (aid_of (map.get m (b, a)) ≡ Some i)

  still_has : (m : FinMap station_cmp Station) (i j : ℕ) → i < j → (top : Has m j) → Has m i → Has (map.remove m (b, top.0)) i
  still_has m i j less top one =
      elim (one_or_apart station_total station_exact (b, one.0) (b, top.0)) [
        | inl same ↦ (let number : i ≡ j = same_some i j (sym one.1 ∙ ap (λ k. aid_of (map.get m k)) same ∙ top.1) in absurd (omega arith))
        | inr apart ↦ (one.0, ap aid_of (get_remove_other station_total station_exact m (b, top.0) (b, one.0) apart) ∙ one.1)
      ]

  as_many : (n : ℕ) (m : FinMap station_cmp Station) → ((i : ℕ) → 0 < i → i ≤ n → Has m i) → n ≤ map.len m
  as_many zero m has = omega arith
  as_many (suc n) m has =
      let top = has (suc n) (omega arith) (omega arith) in
      let known : IsSome (map.get m (b, top.0)) = station_of_aid _ (ap is_some top.1) in
      let fewer = len-remove station_total m (b, top.0) ∙ ap (λ t. cond t (map.len m - 1) (map.len m)) known in
      let row = value_of _ known in
      let some = has_one station_total station_exact m (b, top.0) row.0 row.1 in
      let rest = as_many n (map.remove m (b, top.0)) (λ i low high. still_has m i (suc n) (omega arith) top (has i low (omega arith))) in
      omega arith

  row_there : (a : Addr) → map.get (stations_of s b) (b, a) ≡ station_at s b a
  row_there a =
      get-retain_keys s.stations (λ k. eq_by_cmp bssid_cmp b k.0) (b, a) (λ x t. ap (λ k. eq_by_cmp bssid_cmp b k.0) (sym (station_exact (b, a) x t)))
      ∙ ap (λ t. cond t (station_at s b a) None) (tied bssid_total bssid_exact b)

  kept_row : (a c : Addr) → aid_at s b a ≡ None → (i : ℕ) → aid_at s b c ≡ Some i → aid_of (map.get (map.remove (stations_of s b) (b, a)) (b, c)) ≡ Some i
  kept_row a c none i taken =
      elim (one_or_apart station_total station_exact (b, c) (b, a)) [
        | inl same ↦ none_is (aid_at s b c) (ap (λ k. aid_of (map.get s.stations k)) same ∙ none) (ap is_some taken)
        | inr apart ↦ ap aid_of (get_remove_other station_total station_exact (stations_of s b) (b, a) (b, c) apart ∙ row_there c) ∙ taken
      ]

  -- a station that has none leaves one: the others are 2006 at most
  never_all : Sound s → (a : Addr) → IsSome (station_at s b a) → aid_at s b a ≡ None → AreTakenAbove s b 0 → ⊥
  never_all sound a known none all =
      let rows = stations_of s b in
      let there : IsSome (map.get rows (b, a)) = subst IsSome (sym (row_there a)) known in
      let fewer = len-remove station_total rows (b, a) ∙ ap (λ t. cond t (map.len rows - 1) (map.len rows)) there in
      let few = sound.few_stations b in
      let row = value_of _ there in
      let some = has_one station_total station_exact rows (b, a) row.0 row.1 in
      let many = as_many MAX_STATIONS (map.remove rows (b, a)) (λ i low high. (let one = all i low high in (one.0, kept_row a one.0 none i one.1))) in
      omega arith

  pub one_is_free : Sound s → (a : Addr) → IsSome (station_at s b a) → aid_at s b a ≡ None → IsSome (next_free s b)
  one_is_free sound a known none =
      elim (next_free s b) as (λ o. IsFound o → IsSome o) [
        | None ↦ λ all. absurd (never_all sound a known none all)
        | Some aid ↦ λ _. refl
      ] found

  -- a station of the BSSID never lacks an identifier
  pub identifier_is_there : Sound s → (a : Addr) (o : Option Station) → station_at s b a ≡ o → IsSome o → IsSome (identifier_for s b o)
  identifier_is_there sound a None row known = cc
  identifier_is_there sound a (Some Authenticated) row known = one_is_free sound a (ap is_some row) (ap aid_of row)
  identifier_is_there sound a (Some (Associated x)) row known = refl

  -- what a search for the next number finds
  pub one_is_left : Sound s → (a : Addr) → IsSome (station_at s b a) → aid_at s b a ≡ None → (r : Option ℕ) → IfNone r (AreTakenAbove s b 0) → IsSome r
  one_is_left sound a known none None all = absurd (never_all sound a known none all)
  one_is_left sound a known none (Some i) all = refl
