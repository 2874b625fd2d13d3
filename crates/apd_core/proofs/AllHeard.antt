-- All rows of a table heard at one moment.
use Rattle.std.proofs.Common.{◌≡◌, ℕ, zero, suc, ◌+◌, ◌<◌, arith, Bool, true, false, cond, ◌&&◌, ◌||◌, List, [], ◌∷◌, length, drop, get_or, map as list_map, Option, Some, None, is_some, IsSome, refl, sym, ap, ◌∙◌, add-one}
use Rattle.apd_core.proofs.Words.{Addr, AreHeardAt, Bssid, FinMap, LastHeard, Moment, Sound, State, Station, addr_cmp, and_parts, any_mapped, any_passes, bssid_cmp, bssid_exact, bssid_total, drop-cons, eq_by_cmp, heard_at, is_among, length-map, list_any, one_key, option_map, passes_any, policy_at, same_addr, same_bssid, slice_get, station_at, station_cmp, station_exact, station_total, tied}
use Rattle.std.proofs.lemmas.Option.{slice_get_within, get_or_from_slice_get}
use Rattle.std.specs.FinMap as maps
use Rattle.apd_base.specs.declared.station.Policy.{Policy}
use Rattle.apd_table.specs.Addresses.{addresses_at}
use Rattle.apd_table.specs.Rows as rows
use Rattle.apd_table.proofs.AllRows.{among_addresses}

-- an item more of a list that is left
pub next_at : {X : Type 0} (xs : List X) (i : ℕ) (x : X) → slice_get xs i ≡ Some x → drop i xs ≡ x ∷ drop (i + 1) xs
next_at xs i x at =
    drop-cons xs i x (slice_get_within xs i x at) ∙ (λ j. get_or_from_slice_get xs i x x at j ∷ drop (sym (add-one i) j) xs)

pub some_within : {X : Type 0} (xs : List X) (i : ℕ) → i < length xs → IsSome (slice_get xs i)
some_within [] i low = absurd (omega arith)
some_within (x ∷ xs) zero low = refl
some_within (x ∷ xs) (suc i) low = some_within xs i (omega arith)

pub as_many_keys : (m : FinMap bssid_cmp Policy) → length (maps.keys m) ≡ maps.len m
as_many_keys m = length-map (maps.entries m) (λ row. row.0) ∙ sym (maps.len-entries m)

-- an address more
pub next_row : (m : Moment) (b : Bssid) (addrs : List Addr) (i : ℕ) (d : Addr) → i < length addrs → (heard : LastHeard)
    → heard_at m b (drop i addrs) heard ≡ heard_at m b (drop (i + 1) addrs) (maps.insert heard (b, get_or addrs i d) m)
next_row m b addrs i d lt heard =
    ap (λ as'. heard_at m b as' heard) (drop-cons addrs i d lt ∙ (λ j. get_or addrs i d ∷ drop (sym (add-one i) j) addrs))

any_of_mapped : {X Y : Type 0} (q : Y → Bool) (f : X → Y) (xs : List X) → list_any q (list_map f xs) ≡ list_any (λ x. q (f x)) xs
any_of_mapped q f [] = refl
any_of_mapped q f (x ∷ xs) = ap (λ t. q (f x) || t) (any_of_mapped q f xs)

none_and : (t : Bool) → (t && false) ≡ false
none_and true = refl
none_and false = refl

or_either : {A : Type 0} (t u v : Bool) (x : A) (o : Option A) → cond (t && v) (Some x) (cond (t && u) (Some x) o) ≡ cond (t && (u || v)) (Some x) o
or_either true true true x o = refl
or_either true true false x o = refl
or_either true false v x o = refl
or_either false u v x o = refl

module _ (m : Moment) where
  -- the rows of these addresses of the BSSID have the moment, and any other has the one that it had
  get-heard_at : (b : Bssid) (addrs : List Addr) (heard : LastHeard) (c : Bssid) (d : Addr)
      → maps.get (heard_at m b addrs heard) (c, d) ≡ cond (eq_by_cmp bssid_cmp c b && is_among d addrs) (Some m) (maps.get heard (c, d))
  get-heard_at b [] heard c d = ap (λ t. cond t (Some m) (maps.get heard (c, d))) (sym (none_and (eq_by_cmp bssid_cmp c b)))
  get-heard_at b (a ∷ addrs) heard c d =
      let here = eq_by_cmp bssid_cmp c b in
      get-heard_at b addrs (maps.insert heard (b, a) m) c d
      ∙ ap (λ o. cond (here && is_among d addrs) (Some m) o)
      (maps.get-insert station_total heard (b, a) m (c, d) ∙ ap (λ t. cond t (Some m) (maps.get heard (c, d))) (one_key (bssid_cmp c b) (addr_cmp d a)))
      ∙ or_either here (eq_by_cmp addr_cmp d a) (is_among d addrs) m (maps.get heard (c, d))

  module _ (s : State) where
    -- the rows of these BSSIDs heard, one after another
    abbrev pub all_heard : List Bssid → LastHeard → LastHeard
    all_heard [] heard = heard
    all_heard (b ∷ bs) heard = all_heard bs (heard_at m b (addresses_at s b) heard)

    -- an address among those of a BSSID has a row there
    has_row : (b : Bssid) (a : Addr) → is_among a (addresses_at s b) ≡ true → is_some (station_at s b a) ≡ true
    has_row b a among =
        let found = any_passes station_total station_exact (λ row. rows.is_station_row_of b row && eq_by_cmp addr_cmp a row.0.1) s.stations
        (sym (any_mapped (eq_by_cmp addr_cmp a) (λ row. row.0.1) (rows.is_station_row_of b) (maps.entries s.stations)) ∙ among) in
        let test = and_parts (eq_by_cmp bssid_cmp b (found.0).0) (eq_by_cmp addr_cmp a (found.0).1) found.3 in
        let bssid : b ≡ (found.0).0 = same_bssid (found.0).0 b test.0 in
        let addr : a ≡ (found.0).1 = same_addr (found.0).1 a test.1 in
        ap is_some ((λ i. station_at s (bssid i) (addr i)) ∙ found.2)

    as_among : (t : Bool) (o : Option Station) → ((x : Station) → o ≡ Some x → t ≡ true) → (t ≡ true → is_some o ≡ true) → t ≡ is_some o
    as_among true o there back = sym (back refl)
    as_among false None there back = refl
    as_among false (Some x) there back = there x refl

    among_rows : (b : Bssid) (a : Addr) → is_among a (addresses_at s b) ≡ is_some (station_at s b a)
    among_rows b a = as_among (is_among a (addresses_at s b)) (station_at s b a) (λ x row. among_addresses s b a x row) (has_row b a)

    -- of the BSSID itself, or of one behind it
    of_either : (t l r v : Bool) (o : Option Moment) → (t ≡ true → r ≡ v) → cond (l && v) (Some m) (cond (t && r) (Some m) o) ≡ cond ((t || l) && v) (Some m) o
    of_either true true r true o h = refl
    of_either true false r v o h = ap (λ w. cond w (Some m) o) (h refl)
    of_either true true r false o h = ap (λ w. cond w (Some m) o) (h refl)
    of_either false l r v o h = refl

    get-all_heard : (bs : List Bssid) (heard : LastHeard) (c : Bssid) (d : Addr)
        → maps.get (all_heard bs heard) (c, d) ≡ cond (list_any (eq_by_cmp bssid_cmp c) bs && is_some (station_at s c d)) (Some m) (maps.get heard (c, d))
    get-all_heard [] heard c d = refl
    get-all_heard (b ∷ bs) heard c d =
        let row = is_some (station_at s c d) in
        let later = list_any (eq_by_cmp bssid_cmp c) bs in
        get-all_heard bs (heard_at m b (addresses_at s b) heard) c d
        ∙ ap (λ o. cond (later && row) (Some m) o) (get-heard_at b (addresses_at s b) heard c d)
        ∙ of_either (eq_by_cmp bssid_cmp c b) later (is_among d (addresses_at s b)) row (maps.get heard (c, d))
        (λ same. among_rows b d ∙ ap (λ e. is_some (station_at s e d)) (sym (same_bssid b c same)))

    has_key : (b : Bssid) (o : Option Policy) → policy_at s b ≡ o → IsSome o → list_any (eq_by_cmp bssid_cmp b) (maps.keys s.policies) ≡ true
    has_key b None is some = cc
    has_key b (Some policy) is some =
        any_of_mapped (eq_by_cmp bssid_cmp b) (λ row. row.0) (maps.entries s.policies)
        ∙ passes_any bssid_total bssid_exact (λ row. eq_by_cmp bssid_cmp b row.0) s.policies b policy is (tied bssid_total bssid_exact b)

    of_row : (l : Bool) (o : Option Station) → (IsSome o → l ≡ true) → cond (l && is_some o) (Some m) None ≡ option_map (λ _. m) o
    of_row true None h = refl
    of_row false None h = refl
    of_row true (Some x) h = refl
    of_row false (Some x) h = absurd (cc (h refl))

    -- each row is of a BSSID with a policy
    pub all_rows : Sound s → AreHeardAt m s (all_heard (maps.keys s.policies) maps.empty)
    all_rows sound b a =
        let keys = list_any (eq_by_cmp bssid_cmp b) (maps.keys s.policies) in
        get-all_heard (maps.keys s.policies) maps.empty b a
        ∙ ap (λ o. cond (keys && is_some (station_at s b a)) (Some m) o) (maps.get-empty station_cmp (b, a))
        ∙ of_row keys (station_at s b a) (λ some. has_key b (policy_at s b) refl (sound.stations_have_policy b a some))

    mapped : (o : Option Station) → is_some (option_map (λ _. m) o) ≡ is_some o
    mapped None = refl
    mapped (Some x) = refl
    -- so exactly the rows have a moment
