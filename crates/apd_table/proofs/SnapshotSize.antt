-- How many bytes the records of a snapshot have at most.
use Rattle.std.proofs.Common.{◌≡◌, ℕ, ◌*◌, ◌≤◌, Bool, true, false, cond, not, ◌&&◌, ◌||◌, Some, List, [], ◌∷◌, ◌++◌, length, map as list_map, filter, IsSome, refl, sym, ap, subst, ◌∙◌, arith, length-append}
use Rattle.std.proofs.Math.Nat.{mul-suc}
use Rattle.apd_table.proofs.Words.{Accept, Addr, AllByRecursion, AreChanges, Bssid, Change, Cursor, Deny, IsAddr, IsBssid, IsChange, ListAdd, Policy, Put, Sound, State, Station, StationNumber, Which, bssid_cmp, bssid_exact, bssid_total, canonical, contains_key-keys, cursor_change, cursor_changes, entries-retain_keys, eq_by_cmp, eq_by_cmp_equiv, is_list_row_of, is_some_of, len-entries, length-map, list_any, list_change, list_changes, list_exact, list_total, policy_at, policy_change, policy_changes, record_of, records_of, station_bytes, station_change, station_changes, station_exact, station_total, to_le_bytes, w16, which_cmp, which_number}
use Rattle.std.proofs.lemmas.List.Filters.{length-filter_both}
use Rattle.std.specs.FinMap as map
use Rattle.std.specs.FinMap.{entries}
use Rattle.apd_base.specs.Mode.{mode_number}
use Rattle.apd_record.specs.declared.change.Change.TheVariants.{Policy as SetPolicy}
use Rattle.apd_record.proofs.Lengths.{station_length, records_length-append}
use Rattle.apd_table.proofs.ListCounts.{length-filter_le}
use Rattle.apd_table.proofs.Parts.{len_within}
use Rattle.apd_table.proofs.Replays.{entries_are, given}

-- ---- each record

pub policy_length : (b : Bssid) (p : Policy) → IsBssid b → length (record_of (SetPolicy b p)) ≡ 10
policy_length b p is = omega (arith, length-append b.0.0 (mode_number p.mode ∷ to_le_bytes w16 p.max.number), is.0)

pub cursor_length : (b : Bssid) (last : StationNumber) → IsBssid b → length (record_of (Cursor b last)) ≡ 9
cursor_length b last is = omega (arith, length-append b.0.0 (to_le_bytes w16 last.number), is.0)

pub list_length : (b : Bssid) (w : Which) (a : Addr) → IsBssid b → IsAddr a → length (record_of (ListAdd b w a)) ≡ 14
list_length b w a is of = omega (arith, length-append b.0.0 (which_number w ∷ a.0), is.0, of.0)

pub put_length : (b : Bssid) (a : Addr) (v : Station) → IsBssid b → IsAddr a → length (record_of (Put b a v)) ≡ 20
put_length b a v is of = omega (arith, length-append (b.0.0 ++ a.0) (station_bytes v), length-append b.0.0 a.0, is.0, of.0, station_length v)

-- each of several has as many
pub each_length : {X : Type 0} (f : X → Change) (n : ℕ) → ((x : X) → IsChange (f x) → length (record_of (f x)) ≡ n) → (xs : List X) → AreChanges (list_map f xs) → length (records_of (list_map f xs)) ≡ n * length xs
each_length f n one [] are = omega arith
each_length f n one (x ∷ xs) are = omega (arith, length-append (record_of (f x)) (records_of (list_map f xs)), one x are.0, each_length f n one xs are.1, mul-suc n (length xs))

-- changes in two parts
pub fronts : (xs ys : List Change) → AreChanges (xs ++ ys) → AreChanges xs × AreChanges ys
fronts [] ys are = (tt, are)
fronts (x ∷ xs) ys are = let rest = fronts xs ys are.1 in ((are.0, rest.0), rest.1)

-- ---- how many there are, class by class

filter_fewer : {X : Type 0} (p q : X → Bool) (xs : List X) → length (filter q (filter p xs)) ≤ length (filter q xs)
filter_fewer p q [] = omega arith
filter_fewer p q (x ∷ xs) =
    let rest = filter_fewer p q xs in
    elim (p x) as (λ t. length (filter q (cond t (x ∷ filter p xs) (filter p xs))) ≤ length (cond (q x) (x ∷ filter q xs) (filter q xs))) [
      | true ↦ elim (q x) as (λ u. length (cond u (x ∷ filter q (filter p xs)) (filter q (filter p xs))) ≤ length (cond u (x ∷ filter q xs) (filter q xs))) [ true ↦ omega (arith, rest) | false ↦ rest ]
      | false ↦ elim (q x) as (λ u. length (filter q (filter p xs)) ≤ length (cond u (x ∷ filter q xs) (filter q xs))) [ true ↦ omega (arith, rest) | false ↦ rest ]
    ]

module _ {B X : Type 0} (p : B → X → Bool) where
  -- each is of one of the classes
  abbrev pub AllIn : List B → List X → Type 0
  AllIn bs xs = AllByRecursion (λ (x : X). list_any (λ b. p b x) bs ≡ true) xs

  not_first : (t u : Bool) → t ≡ false → (t || u) ≡ true → u ≡ true
  not_first true u f h = cc
  not_first false u f h = h

  in_rest : (b : B) (bs : List B) (xs : List X) → AllIn (b ∷ bs) xs → AllIn bs (filter (λ x. not (p b x)) xs)
  in_rest b bs [] all = tt
  in_rest b bs (x ∷ xs) all =
      elim (p b x) as (λ t. p b x ≡ t → AllIn bs (cond (not t) (x ∷ filter (λ y. not (p b y)) xs) (filter (λ y. not (p b y)) xs))) [
        | true ↦ λ e. in_rest b bs xs all.1
        | false ↦ λ e. (not_first (p b x) (list_any (λ c. p c x) bs) e all.0, in_rest b bs xs all.1)
      ] refl

  pub at_most : (n : ℕ) (bs : List B) (xs : List X) → AllIn bs xs → ((b : B) → length (filter (p b) xs) ≤ n) → length xs ≤ n * length bs
  at_most n [] [] all few = omega arith
  at_most n [] (x ∷ xs) all few = cc
  at_most n (b ∷ bs) xs all few =
      let rest = filter (λ x. not (p b x)) xs in
      let fewer = at_most n bs rest (in_rest b bs xs all) (λ c. omega (arith, filter_fewer (λ x. not (p b x)) (p c) xs, few c)) in
      omega (arith, length-filter_both (p b) (λ x. not (p b x)) (λ x. refl) xs, few b, fewer, mul-suc n (length bs))

-- ---- the rows of a sound state

module _ (s : State) (sound : Sound s) where
  abbrev bssids : List Bssid
  bssids = map.keys s.policies

  known : (b : Bssid) → IsSome (policy_at s b) → list_any (λ c. eq_by_cmp bssid_cmp c b) bssids ≡ true
  known b h = (λ i. list_any (λ c. (eq_by_cmp_equiv bssid_total).symm c b i) bssids) ∙ sym (contains_key-keys s.policies b) ∙ h

  few_bssids : length bssids ≤ 8
  few_bssids = omega (arith, length-map (entries s.policies) (λ (e : Bssid × Policy). e.0), len-entries s.policies, sound.few_bss)

  abbrev of_bssid : Bssid → (Bssid × Addr) × Station → Bool
  of_bssid b row = eq_by_cmp bssid_cmp b row.0.0

  all_stations : (es : List ((Bssid × Addr) × Station)) → AllByRecursion (λ (e : (Bssid × Addr) × Station). map.get s.stations e.0 ≡ Some e.1) es → AllIn of_bssid bssids es
  all_stations [] are = tt
  all_stations (e ∷ es) are = (known e.0.0 (sound.stations_have_policy e.0.0 e.0.1 (is_some_of _ e.1 are.0)), all_stations es are.1)

  few_of : (b : Bssid) → length (filter (of_bssid b) (entries s.stations)) ≤ 2007
  few_of b = subst (λ n. n ≤ 2007) (len-entries _ ∙ ap length (entries-retain_keys station_total station_exact (λ k. eq_by_cmp bssid_cmp b k.0) s.stations)) (sound.few_stations b)

  stations_bound : length (entries s.stations) ≤ 16056
  stations_bound = omega (arith, at_most of_bssid 2007 bssids (entries s.stations) (all_stations (entries s.stations) (entries_are station_total station_exact s.stations)) few_of, few_bssids)

  abbrev ListRow : Type 0
  ListRow = (Bssid × Which × Addr) × Unit {0}

  abbrev listed_at : Bssid → ListRow → Bool
  listed_at b row = eq_by_cmp bssid_cmp b row.0.0

  all_listed : (es : List ListRow) → AllByRecursion (λ (e : ListRow). map.get s.lists e.0 ≡ Some e.1) es → AllIn listed_at bssids es
  all_listed [] are = tt
  all_listed (e ∷ es) are = (known e.0.0 (sound.lists_have_policy e.0.0 e.0.1 e.0.2 (is_some_of _ e.1 are.0)), all_listed es are.1)

  abbrev of_list : Bssid → Which → ListRow → Bool
  of_list b w row = is_list_row_of b w row.0

  one_of_both : (b : Bssid) (row : ListRow) (w : Which) → listed_at b row ≡ true → row.0.1 ≡ w → list_any (λ v. of_list b v row) (Accept ∷ Deny ∷ []) ≡ true
  one_of_both b row Accept h e = (λ i. (h i && eq_by_cmp which_cmp Accept (e i)) || ((h i && eq_by_cmp which_cmp Deny (e i)) || false))
  one_of_both b row Deny h e = (λ i. (h i && eq_by_cmp which_cmp Accept (e i)) || ((h i && eq_by_cmp which_cmp Deny (e i)) || false))

  in_both : (b : Bssid) (es : List ListRow) → AllIn (of_list b) (Accept ∷ Deny ∷ []) (filter (listed_at b) es)
  in_both b [] = tt
  in_both b (e ∷ es) =
      elim (listed_at b e) as (λ t. listed_at b e ≡ t → AllIn (of_list b) (Accept ∷ Deny ∷ []) (cond t (e ∷ filter (listed_at b) es) (filter (listed_at b) es))) [
        | true ↦ λ h. (one_of_both b e e.0.1 h refl, in_both b es)
        | false ↦ λ h. in_both b es
      ] refl

  few_list : (b : Bssid) (w : Which) → length (filter (of_list b w) (entries s.lists)) ≤ 1024
  few_list b w = subst (λ n. n ≤ 1024) (len-entries _ ∙ ap length (entries-retain_keys list_total list_exact (is_list_row_of b w) s.lists)) (sound.few_listed b w)

  few_at : (b : Bssid) → length (filter (listed_at b) (entries s.lists)) ≤ 2048
  few_at b = at_most (of_list b) 1024 (Accept ∷ Deny ∷ []) (filter (listed_at b) (entries s.lists)) (in_both b (entries s.lists))
      (λ w. omega (arith, filter_fewer (listed_at b) (of_list b w) (entries s.lists), few_list b w))

  lists_bound : length (entries s.lists) ≤ 16384
  lists_bound = omega (arith, at_most listed_at 2048 bssids (entries s.lists) (all_listed (entries s.lists) (entries_are list_total list_exact s.lists)) few_at, few_bssids)

  policies_bound : length (entries s.policies) ≤ 8
  policies_bound = subst (λ n. n ≤ 8) (len-entries s.policies) sound.few_bss

  -- there are no more than policies
  cursors_bound : length (filter given (entries s.cursors)) ≤ 8
  cursors_bound =
      omega (
        arith,
        length-filter_le given (entries s.cursors),
        len-entries s.cursors,
        len_within bssid_total bssid_exact s.cursors s.policies (λ b h. sym (sound.cursors_have_policy b) ∙ h),
        sound.few_bss,
      )

  pub canonical_size : AreChanges (canonical s) → length (records_of (canonical s)) ≤ 550648
  canonical_size are =
      let last = list_changes s.lists ++ station_changes s.stations in
      let first = fronts (policy_changes s.policies) (cursor_changes s.cursors ++ last) are in
      let second = fronts (cursor_changes s.cursors) last first.1 in
      let third = fronts (list_changes s.lists) (station_changes s.stations) second.1 in
      omega (
        arith,
        records_length-append (policy_changes s.policies) (cursor_changes s.cursors ++ last),
        records_length-append (cursor_changes s.cursors) last,
        records_length-append (list_changes s.lists) (station_changes s.stations),
        each_length policy_change 10 (λ row. policy_length row.0 row.1) (entries s.policies) first.0,
        each_length cursor_change 9 (λ row. cursor_length row.0 row.1) (filter given (entries s.cursors)) second.0,
        each_length list_change 14 (λ row is. list_length row.0.0 row.0.1 row.0.2 is.0 is.1) (entries s.lists) third.0,
        each_length station_change 20 (λ row is. put_length row.0.0 row.0.1 row.1 is.0 is.1) (entries s.stations) third.1,
        policies_bound,
        cursors_bound,
        lists_bound,
        stations_bound,
      )
