-- What becomes of a station that is associated at other BSSIDs, as it associates here.
use Rattle.std.proofs.Common.{◌≡◌, ℕ, Bool, true, false, cond, not, ◌&&◌, ◌||◌, List, [], ◌∷◌, ◌++◌, Option, Some, None, refl, sym, ap, subst, ◌∙◌, IsSome}
use Rattle.std.specs.Prelude.{filter}
use Rattle.apd_mlme.proofs.Words.{Addr, Authenticated, Bssid, Change, Conf, Out, Recipient, Sound, State, Station, StaySound, UNSPECIFIED, addr_cmp, aid_at, and_parts, any-filter_same, bssid_cmp, bssid_exact, bssid_total, bssids_elsewhere, conf_at, contains_key-keys, eq_by_cmp, is_some, list_any, meaning_of, outs_elsewhere, outs_of_end, policy_at, put_backs, put_station, same_addr, same_bssid, second_true, station_at, tied, with_put_backs}
use Rattle.std.specs.List.{flat_map}
use Rattle.std.specs.FinMap as map
use Rattle.apd_mlme.proofs.RowLemmas.{is_row, station_put, left_by, authenticated_is, sound_put_back}

-- whether a BSSID is among some
abbrev pub is_bssid_among : Bssid → List Bssid → Bool
is_bssid_among c bssids = list_any (eq_by_cmp bssid_cmp c) bssids

-- it is among those that pass a test where it passes, and is among all
pub among-filter : (p : Bssid → Bool) (c : Bssid) (bssids : List Bssid) → is_bssid_among c (filter p bssids) ≡ (p c && is_bssid_among c bssids)
among-filter p c bssids = any-filter_same (eq_by_cmp bssid_cmp c) p (p c) (λ x e. ap p (sym (same_bssid x c e))) bssids

pub among_elsewhere : (s : State) (b : Bssid) (a : Addr) (c : Bssid) → is_bssid_among c (bssids_elsewhere s b a) ≡ ((not (eq_by_cmp bssid_cmp b c) && is_some (aid_at s c a)) && is_some (policy_at s c))
among_elsewhere s b a c =
    among-filter (λ x. not (eq_by_cmp bssid_cmp b x) && is_some (aid_at s x a)) c (map.keys s.policies)
    ∙ ap (λ t. (not (eq_by_cmp bssid_cmp b c) && is_some (aid_at s c a)) && t) (sym (contains_key-keys s.policies c))

-- ---- the changes

pub put_backs_rest : (a : Addr) (bssids : List Bssid) (s : State) → meaning_of (put_backs a bssids) s ≡ record s { stations = (meaning_of (put_backs a bssids) s).stations }
put_backs_rest a [] s = refl
put_backs_rest a (c ∷ bssids) s = put_backs_rest a bssids (put_station c a Authenticated s)

two_put : {A : Type 0} (t u v : Bool) (x o : A) → cond (v && t) x (cond (u && t) x o) ≡ cond ((u || v) && t) x o
two_put true true true x o = refl
two_put false true true x o = refl
two_put t true false x o = refl
two_put t false v x o = refl

put_backs_station : (a : Addr) (bssids : List Bssid) (s : State) (c : Bssid) (d : Addr) →
    station_at (meaning_of (put_backs a bssids) s) c d ≡ cond (is_bssid_among c bssids && eq_by_cmp addr_cmp d a) (Some Authenticated) (station_at s c d)
put_backs_station a [] s c d = refl
put_backs_station a (x ∷ bssids) s c d =
    put_backs_station a bssids (put_station x a Authenticated s) c d
    ∙ ap (λ o. cond (is_bssid_among c bssids && eq_by_cmp addr_cmp d a) (Some Authenticated) o) (station_put s x a Authenticated c d)
    ∙ two_put (eq_by_cmp addr_cmp d a) (eq_by_cmp bssid_cmp c x) (is_bssid_among c bssids) (Some Authenticated) (station_at s c d)

-- the station has a row at each of these BSSIDs
abbrev pub HasRows : State → Addr → List Bssid → Type 0
HasRows s a bssids = (c : Bssid) → is_bssid_among c bssids ≡ true → IsSome (station_at s c a)

-- with one at each of them it says authenticated there, and nothing else changes
pub put_backs_meaning : (a : Addr) (bssids : List Bssid) (s : State) → HasRows s a bssids → meaning_of (put_backs a bssids) s ≡ record s { stations = with_put_backs a bssids s.stations }
put_backs_meaning a bssids s rows =
    put_backs_rest a bssids s
    ∙ ap (λ k. record s { stations = k }) (authenticated_is (λ key. is_bssid_among key.0 bssids && eq_by_cmp addr_cmp key.1 a) s.stations (meaning_of (put_backs a bssids) s).stations (λ q. put_backs_station a bssids s q.0 q.1)
    (λ q there. (let parts = and_parts (is_bssid_among q.0 bssids) (eq_by_cmp addr_cmp q.1 a) there in subst (λ x. IsSome (station_at s q.0 x)) (sym (same_addr a q.1 parts.1)) (rows q.0 parts.0))))

some_put : (t : Bool) (o : Option Station) → IsSome o → IsSome (cond t (Some Authenticated) o)
some_put true o h = refl
some_put false o h = h

rows_after : (s : State) (a : Addr) (x : Bssid) (bssids : List Bssid) → HasRows s a (x ∷ bssids) → HasRows (put_station x a Authenticated s) a bssids
rows_after s a x bssids rows c among =
    subst IsSome (sym (station_put s x a Authenticated c a)) (some_put (is_row x a c a) (station_at s c a) (rows c (second_true (eq_by_cmp bssid_cmp c x) (is_bssid_among c bssids) among)))

pub first_among : (x : Bssid) (bssids : List Bssid) → is_bssid_among x (x ∷ bssids) ≡ true
first_among x bssids = ap (λ t. t || is_bssid_among x bssids) (tied bssid_total bssid_exact x)

-- changes behind them need to be looked at only from there
pub put_backs_stay : (a : Addr) (bssids : List Bssid) (rest : List Change) (s : State) → HasRows s a bssids → Sound s → (Sound (meaning_of (put_backs a bssids) s) → StaySound rest (meaning_of (put_backs a bssids) s)) → StaySound (put_backs a bssids ++ rest) s
put_backs_stay a [] rest s rows sound h = h sound
put_backs_stay a (x ∷ bssids) rest s rows sound h =
    (sound, put_backs_stay a bssids rest (put_station x a Authenticated s) (rows_after s a x bssids rows) (sound_put_back s x a (rows x (first_among x bssids)) sound) h)

-- ---- the outs

-- each of these BSSIDs lets the station go
module _ (c : Bssid) (a d : Addr) where
  abbrev end_at : Bssid → List (Recipient × Out)
  end_at x = outs_of_end x a UNSPECIFIED

  all_end : (bssids : List Bssid) (o : Option ℕ) → left_by c d (flat_map end_at bssids) o ≡ cond (is_bssid_among c bssids && eq_by_cmp addr_cmp d a) None o
  all_end [] o = refl
  all_end (x ∷ bssids) o =
      all_end bssids (cond (is_row x a c d) None o)
      ∙ two_put (eq_by_cmp addr_cmp d a) (eq_by_cmp bssid_cmp c x) (is_bssid_among c bssids) None o

  -- those that are configured
  pub elsewhere_driven : (confs : List Conf) → IsSome (conf_at confs c) → (bssids : List Bssid) (o : Option ℕ) →
      left_by c d (outs_elsewhere confs a bssids) o ≡ cond (is_bssid_among c bssids && eq_by_cmp addr_cmp d a) None o
  elsewhere_driven confs configured bssids o =
      all_end (filter (λ x. is_some (conf_at confs x)) bssids) o
      ∙ ap (λ t. cond (t && eq_by_cmp addr_cmp d a) None o) (among-filter (λ x. is_some (conf_at confs x)) c bssids ∙ ap (λ t. t && is_bssid_among c bssids) configured)
