-- What the look-ups for a clash say of the state.
use Rattle.std.proofs.Common.{◌≡◌, ◌==◌, ◌↔◌, ℕ, ◌<◌, Some, None, IsTrue, Bool, true, false, cond, not, ◌&&◌, ◌||◌, List, [], ◌∷◌, inl, inr, refl, sym, ap, ◌∙◌, IsSome, T, arith}
use Rattle.apd_table.proofs.Words.{Addr, Any-from_list_any, AreMembers, Bssid, FinMap, IsAlone, IsFreeFor, IsMembers, Members, Sound, State, aid_at, aid_of, and_parts, bssid_cmp, bssid_exact, bssid_total, count, differ, entries_sorted, eq_by_cmp, eqb-true, false_from_ne_true, found_head, get-entries, is_associated_apart, is_set, is_some, is_sorted, is_sorted_tail, list_any, no_value, not_yes, one_or_apart, same_bssid, station_at, station_exact, station_of_aid, station_total, stations_of, tied, tied_not_below}
use Rattle.std.proofs.lemmas.List.Folds.{list_any-from_Any}
use Rattle.std.specs.FinMap as map
use Rattle.std.specs.FinMap.{find}
use Rattle.apd_base.proofs.Cases.{value_of}
use Rattle.apd_table.proofs.Parts.{has_one}
use Rattle.apd_table.proofs.Put.{is_some_there}
use Rattle.apd_table.proofs.Places.{places_of}

-- an item that a test tells from all others is among some that one ties with
one_of : (c : Bssid) (test : Bssid → Bool) (ks : List Bssid) → list_any (eq_by_cmp bssid_cmp c) ks ≡ true → test c ≡ true → list_any test ks ≡ true
one_of c test ks h e =
    let one = Any-from_list_any (eq_by_cmp bssid_cmp c) ks h in
    list_any-from_Any test ks (one.0, one.1, one.2, one.3, sym (ap test (same_bssid one.1 c one.4)) ∙ e)

module _ (s : State) (sound : Sound s) (b : Bssid) (a : Addr) where
  abbrev is_apart : Bssid → Bool
  is_apart c = is_associated_apart b c (station_at s c a)

  abbrev apart : Bool
  apart = list_any is_apart (map.keys s.policies)

  alone_of : apart ≡ false → (c : Bssid) → IsSome (aid_at s c a) → b ≡ c
  alone_of none c h =
      elim (one_or_apart bssid_total bssid_exact b c) [
        | inl e ↦ e
        | inr ne ↦
            let policy = sound.stations_have_policy c a (station_of_aid _ h) in
            let among : list_any (eq_by_cmp bssid_cmp c) (map.keys s.policies) ≡ true = sym (map.contains_key-keys s.policies c) ∙ policy in
            absurd (differ apart none (one_of c is_apart (map.keys s.policies) among (λ j. not (ne j) && h j)))
      ]

  apart_from : (c : Bssid) → is_apart c ≡ true → IsAlone s b a → ⊥
  apart_from c e alone =
      let parts = and_parts _ _ e in
      differ _ (not_yes _ parts.0) (ap (λ d. eq_by_cmp bssid_cmp b d) (sym (alone c parts.1)) ∙ tied bssid_total bssid_exact b)

  -- a station is associated nowhere else exactly where no look finds it there
  pub alone_iff : (u : Bool) → u ≡ apart → (not u ≡ true) ↔ IsAlone s b a
  alone_iff true f = (λ h. cc, λ alone. (let found = Any-from_list_any is_apart (map.keys s.policies) (sym f) in absurd (apart_from found.1 found.4 alone)))
  alone_iff false f = (λ h. alone_of (sym f), λ alone. refl)

-- no other station has an identifier exactly where its place is not set, or is this station's
pub free_iff : (s : State) → Sound s → (b : Bssid) (a : Addr) (i : ℕ) → i < 2048 → (x : Members) → IsMembers s b x
    → (IsTrue (is_set x.words i) → aid_at s b a ≡ Some i) ↔ IsFreeFor s b a i
free_iff s sound b a i lt x is =
    let place = places_of s b x.words is.words i lt in (
      λ own c h. sound.distinct b a c i (own (place.1 (c, h))) h,
      λ free set. (let taken = place.0 set in (λ j. aid_at s b (free taken.0 taken.1 j)) ∙ taken.1),
    )

-- ---- a look that passes over the BSSIDs without stations

-- where no row is counted at a BSSID, there is none
no_station : (s : State) (c : Bssid) (a : Addr) → count s c ≡ 0 → station_at s c a ≡ None
no_station s c a none =
    no_value (station_at s c a) (false_from_ne_true (is_some (station_at s c a)) (λ known.
    let row = value_of (map.get (stations_of s c) (c, a)) (is_some_there s c a ∙ known) in
    let one = has_one station_total station_exact (stations_of s c) (c, a) row.0 row.1 in
    omega (arith, one, none)))

and_false : (t : Bool) → (t && false) ≡ false
and_false true = refl
and_false false = refl

-- so the look there may be left out
unless_none : (n : ℕ) (t : Bool) → (n ≡ 0 → t ≡ false) → (not (n == 0) && t) ≡ t
unless_none n t none =
    elim (n == 0) as (λ z. (n == 0) ≡ z → (not z && t) ≡ t) [
      | true ↦ λ e. sym (none (eqb-true n 0 e))
      | false ↦ λ e. refl
    ] refl

counted : (s : State) (b : Bssid) (a : Addr) (c : Bssid) (n : ℕ) → n ≡ count s c → (not (n == 0) && is_associated_apart b c (station_at s c a)) ≡ is_associated_apart b c (station_at s c a)
counted s b a c n is =
    unless_none n _ (λ none. ap (λ row. not (eq_by_cmp bssid_cmp b c) && is_some (aid_of row)) (no_station s c a (sym is ∙ none)) ∙ and_false _)

-- two tests that agree on each entry find alike
any_same : (p q : Bssid × Members → Bool) (es : List (Bssid × Members)) → T (is_sorted bssid_cmp es)
    → ((k : Bssid) (v : Members) → find bssid_cmp k es ≡ Some v → p (k, v) ≡ q (k, v)) → list_any p es ≡ list_any q es
any_same p q [] sorted same = refl
any_same p q (e ∷ es) sorted same =
    let behind = any_same p q es (is_sorted_tail bssid_total e es sorted) (λ k v f. same k v (ap (λ t. cond t (Some e.1) (find bssid_cmp k es)) (tied_not_below bssid_total k e es sorted v f) ∙ f)) in
    λ i. same e.0 e.1 (found_head bssid_total bssid_exact e es) i || behind i

-- so the same is found with them and without
pub any_with_stations : (s : State) (b : Bssid) (a : Addr) (m : FinMap bssid_cmp Members) → AreMembers s m
    → list_any (λ e. not (e.1.count == 0) && is_associated_apart b e.0 (station_at s e.0 a)) (map.entries m) ≡ list_any (λ e. is_associated_apart b e.0 (station_at s e.0 a)) (map.entries m)
any_with_stations s b a m are = any_same _ _ (map.entries m) (entries_sorted m) (λ k v f. counted s b a k v.count (are k v (get-entries m k ∙ f)).count)
