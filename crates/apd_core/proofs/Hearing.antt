-- The moments at which stations were heard, and the rows of the table.
use Rattle.std.proofs.Common.{◌≡◌, ℕ, ◌+◌, ◌<◌, Bool, true, false, cond, List, [], ◌∷◌, length, drop, get_or, Option, Some, None, is_some, inl, inr, refl, sym, ap, subst, ◌∙◌, add-one}
use Rattle.apd_core.proofs.Words.{Addr, AreHeardAt, AreMomentsOf, Bssid, Change, Conf, Configure, Drop, Expire, Happening, Heard, Kick, LastHeard, ListEdit, Moment, Put, State, drop-cons, empty_state, eq_by_cmp, get_insert_other, get_inserted, heard_by, heard_by_change, heard_by_changes, heard_from, meaning, meaning_in, meaning_of, one_or_apart, option_map, sender_of, station_at, station_cmp, station_exact, station_total, verdict}
use Rattle.std.specs.FinMap as maps

-- a change that is left, and those behind it
pub next_change : (changes : List Change) (i : ℕ) (change : Change) → i < length changes → change ≡ get_or changes i change → drop i changes ≡ change ∷ drop (i + 1) changes
next_change changes i change lt is = drop-cons changes i change lt ∙ (λ j. sym is j ∷ drop (sym (add-one i) j) changes)

pub next_heard : (m : Moment) (changes : List Change) (i : ℕ) (change : Change) → i < length changes → change ≡ get_or changes i change → (heard end : LastHeard)
    → heard_by_changes m (drop i changes) heard ≡ end → heard_by_changes m (drop (i + 1) changes) (heard_by_change m change heard) ≡ end
next_heard m changes i change lt is heard end h = sym (ap (λ cs. heard_by_changes m cs heard) (next_change changes i change lt is)) ∙ h

-- no row, and no moment
pub none_heard : (s : State) (heard : LastHeard) → s ≡ empty_state → heard ≡ maps.empty → AreMomentsOf s heard
none_heard s heard no_row no_moment = λ b a.
    ap (λ (m : LastHeard). is_some (maps.get m (b, a))) no_moment ∙ ap is_some (maps.get-empty station_cmp (b, a))
    ∙ sym (ap (λ (t : State). is_some (station_at t b a)) no_row ∙ ap is_some (maps.get-empty station_cmp (b, a)))

both_put : {A B : Type 0} (t : Bool) (x : A) (y : B) (u : Option A) (v : Option B) → is_some u ≡ is_some v → is_some (cond t (Some x) u) ≡ is_some (cond t (Some y) v)
both_put true x y u v h = refl
both_put false x y u v h = h

both_removed : {A B : Type 0} (t : Bool) (u : Option A) (v : Option B) → is_some u ≡ is_some v → is_some (cond t None u) ≡ is_some (cond t None v)
both_removed true u v h = refl
both_removed false u v h = h

module _ (m : Moment) where
  after_change : (change : Change) (s : State) (heard : LastHeard) → AreMomentsOf s heard → AreMomentsOf (meaning change s) (heard_by_change m change heard)
  after_change (Put b a station) s heard h = λ c d.
      ap is_some (maps.get-insert station_total heard (b, a) m (c, d))
      ∙ both_put (eq_by_cmp station_cmp (c, d) (b, a)) m station _ _ (h c d)
      ∙ sym (ap is_some (maps.get-insert station_total s.stations (b, a) station (c, d)))
  after_change (Drop b a) s heard h = λ c d.
      ap is_some (maps.get-remove station_total heard (b, a) (c, d))
      ∙ both_removed (eq_by_cmp station_cmp (c, d) (b, a)) _ _ (h c d)
      ∙ sym (ap is_some (maps.get-remove station_total s.stations (b, a) (c, d)))
  after_change other s heard h = h

  pub after_changes : (changes : List Change) (s : State) (heard : LastHeard) → AreMomentsOf s heard → AreMomentsOf (meaning_of changes s) (heard_by_changes m changes heard)
  after_changes [] s heard h = h
  after_changes (change ∷ changes) s heard h = after_changes changes (meaning change s) (heard_by_change m change heard) (after_change change s heard h)

  -- a row that has a moment is given another
  same_rows : (heard : LastHeard) (k q : Bssid × Addr) → is_some (maps.get heard k) ≡ true → is_some (maps.get (maps.insert heard k m) q) ≡ is_some (maps.get heard q)
  same_rows heard k q there =
      elim (one_or_apart station_total station_exact q k) [
        | inl same ↦ subst (λ (z : Bssid × Addr). is_some (maps.get (maps.insert heard k m) z) ≡ is_some (maps.get heard z)) (sym same)
            (ap is_some (get_inserted station_total station_exact heard k m) ∙ sym there)
        | inr apart ↦ ap is_some (get_insert_other station_total station_exact heard k m q apart)
      ]

  from_station : (s : State) (b : Bssid) (a : Addr) (heard : LastHeard) → AreMomentsOf s heard → AreMomentsOf s (heard_from m b a heard)
  from_station s b a heard h =
      elim (is_some (maps.get heard (b, a))) as (λ t. is_some (maps.get heard (b, a)) ≡ t → AreMomentsOf s (cond t (maps.insert heard (b, a) m) heard)) [
        | true ↦ λ there. λ c d. same_rows heard (b, a) (c, d) there ∙ h c d
        | false ↦ λ _. h
      ] refl

  pub after_sender : (x : Happening) (s : State) (heard : LastHeard) → AreMomentsOf s heard → AreMomentsOf s (heard_by m x heard)
  after_sender (Heard b frame) s heard h = from_station s b (sender_of frame) heard h
  after_sender (Kick b to reason deauth tag) s heard h = h
  after_sender (ListEdit b which edit tag) s heard h = h
  after_sender (Expire b a) s heard h = h
  after_sender (Configure b accept deny) s heard h = h

  pub after_entry : (confs : List Conf) (x : Happening) (s : State) (heard : LastHeard) → AreMomentsOf s heard
      → AreMomentsOf (verdict s confs x).state (heard_by m x (heard_by_changes m (verdict s confs x).changes heard))
  after_entry confs x s heard h =
      after_sender x (verdict s confs x).state (heard_by_changes m (verdict s confs x).changes heard) (subst (λ t. AreMomentsOf t (heard_by_changes m (verdict s confs x).changes heard)) (meaning_in s confs x) (after_changes (verdict s confs x).changes s heard h))

mapped : {A B : Type 0} (y : B) (o : Option A) → is_some (option_map (λ _. y) o) ≡ is_some o
mapped y None = refl
mapped y (Some x) = refl

-- where each row was heard at one moment, exactly the rows have moments
pub heard_at : (m : Moment) (s : State) (heard : LastHeard) → AreHeardAt m s heard → AreMomentsOf s heard
heard_at m s heard all = λ b a. ap is_some (all b a) ∙ mapped m (station_at s b a)
