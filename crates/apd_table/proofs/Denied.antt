-- The rows that a mode denies, and what is left once they are dropped.
use Rattle.std.proofs.Common.{◌≡◌, Bool, true, false, cond, not, ◌&&◌, ◌||◌, List, [], ◌∷◌, ◌++◌, map as list_map, filter, Option, Some, None, refl, sym, ap, ◌∙◌}
use Rattle.apd_table.proofs.Words.{AclMode, Addr, Bssid, Change, Drop, Equal, Greater, Less, Ordering, Sound, State, Station, StaySound, addr_cmp, addr_exact, addr_total, and_parts, any_passes, both_true, bssid_cmp, bssid_exact, bssid_total, denials_by, drop_station, eq_by_cmp, get-remove, is_allowed_in, is_among, is_denied_row, is_eq, list_any, meaning, meaning_of, not_no, not_yes, ordering_then, passes_any, same_addr, same_bssid, station_at, station_exact, station_total, tied}
use Rattle.std.specs.FinMap as map
use Rattle.apd_table.proofs.Parts.{sound_drop}

-- dropping the rows of some addresses of a BSSID, one after the other
abbrev pub drops : Bssid → List Addr → List Change
drops b as' = list_map (λ a. Drop b a) as'

pub any_mapped : {X Y : Type 0} (q : Y → Bool) (f : X → Y) (p : X → Bool) (xs : List X) → list_any q (list_map f (filter p xs)) ≡ list_any (λ x. p x && q (f x)) xs
any_mapped q f p [] = refl
any_mapped q f p (x ∷ xs) =
    elim (p x) as (λ t. list_any q (list_map f (cond t (x ∷ filter p xs) (filter p xs))) ≡ ((t && q (f x)) || list_any (λ y. p y && q (f y)) xs)) [
      | true ↦ ap (λ t. q (f x) || t) (any_mapped q f p xs)
      | false ↦ any_mapped q f p xs
    ]

module _ (s : State) (b : Bssid) (mode : AclMode) where
  abbrev among_row : Addr → (Bssid × Addr) × Station → Bool
  among_row a row = is_denied_row s b mode row && eq_by_cmp addr_cmp a row.0.1

  among_rows : (a : Addr) → is_among a (denials_by s b mode) ≡ list_any (among_row a) (map.entries s.stations)
  among_rows a = any_mapped (eq_by_cmp addr_cmp a) (λ row. row.0.1) (is_denied_row s b mode) (map.entries s.stations)

  -- a station with a row that the mode would deny is among those
  pub among_denied : (a : Addr) (x : Station) → station_at s b a ≡ Some x → is_allowed_in s b a mode ≡ false → is_among a (denials_by s b mode) ≡ true
  among_denied a x row denied =
      among_rows a
      ∙ passes_any station_total station_exact (among_row a) s.stations (b, a) x row
      (both_true _ _ (both_true _ _ (tied bssid_total bssid_exact b) (not_no _ denied)) (tied addr_total addr_exact a))

  -- and no other address is
  pub denied_among : (a : Addr) → is_among a (denials_by s b mode) ≡ true → ((x : Station) × (station_at s b a ≡ Some x)) × (is_allowed_in s b a mode ≡ false)
  denied_among a h =
      let found = any_passes station_total station_exact (among_row a) s.stations (sym (among_rows a) ∙ h) in
      let test = and_parts (is_denied_row s b mode (found.0, found.1)) (eq_by_cmp addr_cmp a (found.0).1) found.3 in
      let denied = and_parts (eq_by_cmp bssid_cmp b (found.0).0) (not (is_allowed_in s b (found.0).1 mode)) test.0 in
      let bssid : b ≡ (found.0).0 = same_bssid (found.0).0 b denied.0 in
      let addr : a ≡ (found.0).1 = same_addr (found.0).1 a test.1 in
      ((found.1, (λ i. station_at s (bssid i) (addr i)) ∙ found.2), ap (λ c. is_allowed_in s b c mode) addr ∙ not_yes _ denied.1)

-- changes in two parts
pub meaning_of-append : (xs ys : List Change) (s : State) → meaning_of (xs ++ ys) s ≡ meaning_of ys (meaning_of xs s)
meaning_of-append [] ys s = refl
meaning_of-append (x ∷ xs) ys s = meaning_of-append xs ys (meaning x s)

-- the lists and the policies stay as they are
pub drops_rest : (b : Bssid) (as' : List Addr) (s : State) → meaning_of (drops b as') s ≡ record s { stations = (meaning_of (drops b as') s).stations }
drops_rest b [] s = refl
drops_rest b (a ∷ as') s = drops_rest b as' (drop_station b a s)

pub one_key : (r q : Ordering) → is_eq (ordering_then r q) ≡ (is_eq r && is_eq q)
one_key Less q = refl
one_key Equal q = refl
one_key Greater q = refl

nothing_taken : {A : Type 0} (t : Bool) (o : Option A) → o ≡ cond (t && false) None o
nothing_taken true o = refl
nothing_taken false o = refl

two_taken : {A : Type 0} (t u v : Bool) (o : Option A) → cond (t && v) None (cond (t && u) None o) ≡ cond (t && (u || v)) None o
two_taken true true true o = refl
two_taken true true false o = refl
two_taken true false v o = refl
two_taken false u v o = refl

-- of the rows those of these addresses at the BSSID are gone
pub drops_station : (b : Bssid) (as' : List Addr) (s : State) (c : Bssid) (d : Addr) →
    station_at (meaning_of (drops b as') s) c d ≡ cond (eq_by_cmp bssid_cmp c b && is_among d as') None (station_at s c d)
drops_station b [] s c d = nothing_taken (eq_by_cmp bssid_cmp c b) (station_at s c d)
drops_station b (a ∷ as') s c d =
    let here = eq_by_cmp bssid_cmp c b in
    let one : station_at (drop_station b a s) c d ≡ cond (here && eq_by_cmp addr_cmp d a) None (station_at s c d) =
    get-remove station_total s.stations (b, a) (c, d) ∙ ap (λ t. cond t None (station_at s c d)) (one_key (bssid_cmp c b) (addr_cmp d a)) in
    drops_station b as' (drop_station b a s) c d
    ∙ ap (λ o. cond (here && is_among d as') None o) one
    ∙ two_taken here (eq_by_cmp addr_cmp d a) (is_among d as') (station_at s c d)

pub drops_sound : (b : Bssid) (as' : List Addr) (s : State) → Sound s → Sound (meaning_of (drops b as') s)
drops_sound b [] s sound = sound
drops_sound b (a ∷ as') s sound = drops_sound b as' (drop_station b a s) (sound_drop s b a sound)

-- changes behind the drops need to be looked at only from there
pub drops_stay : (b : Bssid) (as' : List Addr) (rest : List Change) (s : State) → Sound s → StaySound rest (meaning_of (drops b as') s) → StaySound (drops b as' ++ rest) s
drops_stay b [] rest s sound h = h
drops_stay b (a ∷ as') rest s sound h = (sound, drops_stay b as' rest (drop_station b a s) (sound_drop s b a sound) h)
