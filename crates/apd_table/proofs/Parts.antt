-- A part of a sound state is sound, where each of its rows has what it needs.
use Rattle.std.proofs.Common.{◌≡◌, ℕ, ◌-◌, ◌≤◌, Bool, true, false, cond, List, [], ◌∷◌, length, Option, Some, None, IsSome, IsTrue, inl, inr, refl, sym, ap, subst, ◌∙◌, T, arith}
use Rattle.apd_table.proofs.Words.{Addr, Bssid, FinMap, IsAntisymmetric, IsListed, IsTotalOrder, Ordering, Sound, State, Which, aid_at, aid_of, allowed, bssid_cmp, bssid_exact, bssid_total, cursor_at, drop_station, entries_sorted, eq_by_cmp, get-empty, get-entries, get-remove, get-retain_keys, get_insert_other, get_inserted, get_remove_other, is_list_row_of, is_some, is_some_of, is_sorted, is_sorted_tail, len-entries, len-remove, list_exact, list_total, none_is, none_is_some, one_or_apart, policy_at, station_at, station_exact, station_of_aid, station_total, tied, tied_not_below}
use Rattle.std.specs.FinMap as map
use Rattle.std.specs.FinMap.{find, entries}
use Rattle.apd_base.proofs.Cases.{value_of}

module _ {K X : Type 0} {R : K → K → Ordering} (o : IsTotalOrder R) (exact : IsAntisymmetric R) where
  -- the entries of one are entries of the other
  abbrev pub IsPart : FinMap R X → FinMap R X → Type 0
  IsPart part m = (k : K) (v : X) → map.get part k ≡ Some v → map.get m k ≡ Some v

  pub part_more : (part m : FinMap R X) (k : K) (v : X) → IsPart part m → map.get m k ≡ Some v → IsPart (map.insert part k v) m
  part_more part m k v is here q x g =
      elim (one_or_apart o exact q k) [
        | inl e ↦ ap (map.get m) e ∙ here ∙ sym (get_inserted o exact part k v) ∙ ap (map.get (map.insert part k v)) (sym e) ∙ g
        | inr ne ↦ is q x (sym (get_insert_other o exact part k v q ne) ∙ g)
      ]

  not_taken : (t : Bool) (x : Option X) (v : X) → cond t None x ≡ Some v → x ≡ Some v
  not_taken true x v e = none_is_some v e
  not_taken false x v e = e

  pub part_removed : (m : FinMap R X) (k : K) → IsPart (map.remove m k) m
  part_removed m k q v g = not_taken (eq_by_cmp R q k) (map.get m q) v (sym (get-remove o m k q) ∙ g)

  -- ---- how many

  found_one : (k : K) (v : X) (es : List (K × X)) → find R k es ≡ Some v → 1 ≤ length es
  found_one k v [] f = cc
  found_one k v (e ∷ es) f = omega arith

  pub has_one : (m : FinMap R X) (k : K) (v : X) → map.get m k ≡ Some v → 1 ≤ map.len m
  has_one m k v here = subst (λ n. 1 ≤ n) (sym (len-entries m)) (found_one k v (entries m) (sym (get-entries m k) ∙ here))

  pub part_some : (part m : FinMap R X) → IsPart part m → (k : K) → IsSome (map.get part k) → IsSome (map.get m k)
  part_some part m is k h = let v = value_of _ h in is_some_of _ v.0 (is k v.0 v.1)

module _ {K X Y : Type 0} {R : K → K → Ordering} (o : IsTotalOrder R) (exact : IsAntisymmetric R) where
  no_more : (es : List (K × X)) → T (is_sorted R es) → (m : FinMap R Y) → ((q : K) → IsSome (find R q es) → IsSome (map.get m q)) → length es ≤ map.len m
  no_more [] sorted m is = omega arith
  no_more (e ∷ es) sorted m is =
      let here : IsSome (map.get m e.0) = is e.0 (ap (λ t. is_some (cond t (Some e.1) (find R e.0 es))) (tied o exact e.0)) in
      let rest = no_more es (is_sorted_tail o e es sorted) (map.remove m e.0) (λ q f.
      let v = value_of (find R q es) f in
      let ne = tied_not_below o q e es sorted v.0 v.1 in
      ap is_some (get_remove_other o exact m e.0 q ne) ∙ is q (ap (λ t. is_some (cond t (Some e.1) (find R q es))) ne ∙ f)) in
      let fewer : map.len (map.remove m e.0) ≡ map.len m - 1 = len-remove o m e.0 ∙ ap (λ t. cond t (map.len m - 1) (map.len m)) here in
      let v = value_of (map.get m e.0) here in
      omega (arith, rest, fewer, has_one o exact m e.0 v.0 v.1)

  -- a map has no more keys than one that has each of them
  pub len_within : (n : FinMap R X) (m : FinMap R Y) → ((q : K) → IsSome (map.get n q) → IsSome (map.get m q)) → map.len n ≤ map.len m
  len_within n m is = subst (λ k. k ≤ map.len m) (sym (len-entries n)) (no_more (entries n) (entries_sorted n) m (λ q f. is q (ap is_some (get-entries n q) ∙ f)))

module _ {K X : Type 0} {R : K → K → Ordering} (o : IsTotalOrder R) (exact : IsAntisymmetric R) where
  pub part_len : (part m : FinMap R X) → IsPart o exact part m → map.len part ≤ map.len m
  part_len part m is = len_within o exact part m (part_some o exact part m is)

  cond_some : (t : Bool) (a : Option X) (v : X) → cond t a None ≡ Some v → (t ≡ true) × (a ≡ Some v)
  cond_some true a v e = (refl, e)
  cond_some false a v e = cc

  pub part_passes : (m : FinMap R X) (p : K → Bool) (k : K) (v : X) → map.get (map.retain_keys m p) k ≡ Some v → (p k ≡ true) × (map.get m k ≡ Some v)
  part_passes m p k v g = cond_some (p k) (map.get m k) v (sym (get-retain_keys m p k (λ x t. ap p (sym (exact k x t)))) ∙ g)

  pub part_kept : (m : FinMap R X) (p : K → Bool) → IsPart o exact (map.retain_keys m p) m
  part_kept m p k v g = (part_passes m p k v g).1

  pub part_retained : (p : K → Bool) (part m : FinMap R X) → IsPart o exact part m → IsPart o exact (map.retain_keys part p) (map.retain_keys m p)
  part_retained p part m is k v g =
      let both = part_passes part p k v g in
      get-retain_keys m p k (λ x t. ap p (sym (exact k x t))) ∙ ap (λ t. cond t (map.get m k) None) both.0 ∙ is k v both.1

  pub empty_part : (m : FinMap R X) → IsPart o exact map.empty m
  empty_part m k v g = none_is (map.get (map.empty {X = X} {R = R}) k) (get-empty R k) (is_some_of _ v g)

-- ---- states with a part of the rows

-- a part of a sound state is sound, where each of its rows has what it needs
module _ (s : State) (sound : Sound s) (t : State)
    (stations : IsPart station_total station_exact t.stations s.stations) (lists : IsPart list_total list_exact t.lists s.lists) (policies : IsPart bssid_total bssid_exact t.policies s.policies) where
  aid_part : (b : Bssid) (a : Addr) (i : ℕ) → aid_at t b a ≡ Some i → aid_at s b a ≡ Some i
  aid_part b a i h = let row = value_of (station_at t b a) (station_of_aid _ (ap is_some h)) in ap aid_of (stations (b, a) row.0 row.1 ∙ sym row.1) ∙ h

  aid_some : (b : Bssid) (a : Addr) → IsSome (aid_at t b a) → IsSome (aid_at s b a)
  aid_some b a h = let v = value_of _ h in is_some_of _ v.0 (aid_part b a v.0 v.1)

  pub sound_part : ((b : Bssid) (a : Addr) → IsSome (station_at t b a) → IsSome (policy_at t b) × IsTrue (allowed t b a)) → ((b : Bssid) (w : Which) (a : Addr) → IsListed t b w a → IsSome (policy_at t b))
      → ((b : Bssid) → is_some (cursor_at t b) ≡ is_some (policy_at t b)) → Sound t
  sound_part of_stations of_lists of_cursors = record {
    identifiers = λ b a i h. sound.identifiers b a i (aid_part b a i h);
    distinct = λ b a c i h k. sound.distinct b a c i (aid_part b a i h) (aid_part b c i k);
    one_association = λ b c a h k. sound.one_association b c a (aid_some b a h) (aid_some c a k);
    stations_have_policy = λ b a h. (of_stations b a h).0;
    lists_have_policy = of_lists;
    cursors_have_policy = of_cursors;
    none_denied = λ b a h. (of_stations b a h).1;
    few_bss = omega (arith, part_len bssid_total bssid_exact t.policies s.policies policies, sound.few_bss);
    few_stations = λ b. omega (arith, part_len station_total station_exact _ _ (part_retained station_total station_exact (λ k. eq_by_cmp bssid_cmp b k.0) t.stations s.stations stations), sound.few_stations b);
    few_listed = λ b w. omega (arith, part_len list_total list_exact _ _ (part_retained list_total list_exact (is_list_row_of b w) t.lists s.lists lists), sound.few_listed b w);
  }

-- so is the state without a station's row
pub sound_drop : (s : State) (b : Bssid) (a : Addr) → Sound s → Sound (drop_station b a s)
sound_drop s b a sound =
    let part = part_removed station_total station_exact s.stations (b, a) in
    sound_part s sound (drop_station b a s) part (λ k v g. g) (λ k v g. g)
    (λ c d h. let there = part_some station_total station_exact _ s.stations part (c, d) h in (sound.stations_have_policy c d there, sound.none_denied c d there))
    sound.lists_have_policy sound.cursors_have_policy
