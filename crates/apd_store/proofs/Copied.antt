-- A store of version 1 shows no cursor but 0, and a store of such a state is laid out without one.
use Rattle.std.proofs.Common.{◌≡◌, ◌≤◌, ◌+◌, ◌-◌, ◌||◌, ◌⊎◌, inl, inr, ℕ, Bool, true, false, cond, not, ◌==◌, List, [], ◌∷◌, ◌++◌, length, filter, map as list_map, Option, Some, None, refl, sym, ◌∙◌, ap, subst, arith}
use Rattle.apd_store.proofs.Words.{AreChanges, BeginsBy, Change, Cursor, Drop, HalfHolds, HasNoCursor, HasNoneGiven, IsCurrent, IsNoCursor, ListAdd, ListClear, ListDel, Policy, Put, ShowsOld, State, StaySound, append_assoc, begun_bytes, block_of, canonical, current_changes, cursor_change, cursors_with, empty_state, false≢true, is_given, length-begun, list_change, list_changes, meaning, meaning_of, new_front, none_given, planned_bytes, policy_at, policy_change, policy_changes, records_of, station_change, station_changes, to_le_bytes, w64}
use Rattle.std.specs.Prelude.{Result, Ok, Err, IfOk}
use Rattle.std.specs.List.{list_any}
use Rattle.std.specs.Ordering.{eq_by_cmp}
use Rattle.std.specs.FinMap as map
use Rattle.std.specs.FinMap.{entries, get-insert, get-empty}
use Rattle.apd_base.specs.declared.address.Bssid.{Bssid}
use Rattle.apd_base.specs.declared.station.Policy.{Policy as BssPolicy}
use Rattle.apd_base.specs.declared.station.StationNumber.{StationNumber}
use Rattle.apd_base.specs.Addr.{bssid_cmp}
use Rattle.apd_base.proofs.AddrLemmas.{bssid_total, bssid_exact}
use Rattle.apd_base.proofs.MapLemmas.{any_passes}
use Rattle.apd_table.specs.declared.snapshot.TheConstants.{MAX_SNAPSHOT}

-- ---- changes of which none is a cursor's leave each cursor at 0

abbrev number_of : Option StationNumber → ℕ
number_of None = 0
number_of (Some last) = last.number

policy_none : (b : Bssid) (o : Option BssPolicy) (s : State) → HasNoneGiven s → (c : Bssid) (last : StationNumber) → map.get (cursors_with o s.cursors b) c ≡ Some last → last.number ≡ 0
policy_none b (Some policy) s none c last is = none c last is
policy_none b None s none c last is = elim (eq_by_cmp bssid_cmp c b) as (λ t. cond t (Some none_given) (map.get s.cursors c) ≡ Some last → last.number ≡ 0) [
  | true ↦ λ e. sym (ap number_of e)
  | false ↦ λ e. none c last e
] (sym (get-insert bssid_total s.cursors b none_given c) ∙ is)

stays_none : (change : Change) (s : State) → IsNoCursor change → HasNoneGiven s → HasNoneGiven (meaning change s)
stays_none (Put b a station) s plain none = none
stays_none (Drop b a) s plain none = none
stays_none (ListAdd b w a) s plain none = none
stays_none (ListDel b w a) s plain none = none
stays_none (ListClear b w) s plain none = none
stays_none (Policy b policy) s plain none = policy_none b (policy_at s b) s none
stays_none (Cursor b last) s plain none = absurd plain

stay_none : (changes : List Change) (s : State) → HasNoCursor changes → HasNoneGiven s → HasNoneGiven (meaning_of changes s)
stay_none [] s plain none = none
stay_none (change ∷ changes) s plain none = stay_none changes (meaning change s) plain.1 (stays_none change s plain.0 none)

empty_none : HasNoneGiven empty_state
empty_none b last is = sym (ap number_of (sym (get-empty bssid_cmp b) ∙ is))

current_none : (a b : List ℕ) (gate : ℕ) (state : State) (current : IsCurrent a b gate state ⊎ IsCurrent b a gate state) → HasNoCursor (current_changes current) → HasNoneGiven state
current_none a b gate state (inl x) plain = subst HasNoneGiven x.shows.state_is (stay_none x.shows.changes empty_state plain empty_none)
current_none a b gate state (inr x) plain = subst HasNoneGiven x.shows.state_is (stay_none x.shows.changes empty_state plain empty_none)

old_none_given : (image : List ℕ) (state : State) → ShowsOld image state → HasNoneGiven state
old_none_given image state shows = current_none shows.by_mark.a shows.by_mark.b shows.by_mark.gate state shows.by_mark.current shows.no_cursor

pub old_none_given_if : {E : Type 0} (image : List ℕ) (r : Result State E) → IfOk r (λ state. ShowsOld image state) → IfOk r (λ state. HasNoneGiven state)
old_none_given_if image (Ok state) shows = old_none_given image state shows
old_none_given_if image (Err e) shows = tt

-- ---- and so its snapshot has no cursor's change

no_cursor-append : (xs ys : List Change) → HasNoCursor xs → HasNoCursor ys → HasNoCursor (xs ++ ys)
no_cursor-append [] ys first second = second
no_cursor-append (x ∷ xs) ys first second = (first.0, no_cursor-append xs ys first.1 second)

no_cursor-map : {T : Type 0} (f : T → Change) (xs : List T) → ((x : T) → IsNoCursor (f x)) → HasNoCursor (list_map f xs)
no_cursor-map f [] each = tt
no_cursor-map f (x ∷ xs) each = (each x, no_cursor-map f xs each)

none_pass : {T : Type 0} (p : T → Bool) (xs : List T) → (list_any p xs ≡ true → ⊥) → filter p xs ≡ []
none_pass p [] none = refl
none_pass p (x ∷ xs) none =
    elim (p x) as (λ t. p x ≡ t → cond t (x ∷ filter p xs) (filter p xs) ≡ []) [
      | true ↦ λ t. absurd (none (ap (λ b. b || list_any p xs) t))
      | false ↦ λ t. none_pass p xs (λ any. none (ap (λ b. b || list_any p xs) t ∙ any))
    ] refl

snapshot_no_cursor : (s : State) → HasNoneGiven s → HasNoCursor (canonical s)
snapshot_no_cursor s none =
    let given = λ (row : Bssid × StationNumber). is_given row.1 in
    let no_rows : filter given (entries s.cursors) ≡ [] = none_pass given (entries s.cursors) (λ any.
    let found = any_passes bssid_total bssid_exact given s.cursors any in
    false≢true (sym (ap (λ (n : ℕ). not (n == 0)) (none found.0 found.1 found.2)) ∙ found.3)) in
    let behind : HasNoCursor (list_changes s.lists ++ station_changes s.stations) =
    no_cursor-append (list_changes s.lists) (station_changes s.stations) (no_cursor-map list_change (entries s.lists) (λ row. tt)) (no_cursor-map station_change (entries s.stations) (λ row. tt)) in
    no_cursor-append (policy_changes s.policies) _ (no_cursor-map policy_change (entries s.policies) (λ row. tt))
    (subst (λ rows. HasNoCursor (list_map cursor_change rows ++ (list_changes s.lists ++ station_changes s.stations))) (sym no_rows) behind)

-- ---- a half that begins with it

begun_holds : (changes : List Change) (rest : List ℕ) → AreChanges changes → length (records_of changes) ≤ MAX_SNAPSHOT → HalfHolds ((1 ∷ begun_bytes 1 changes) ++ rest) 1 changes (13 + length (records_of changes))
begun_holds changes rest are size = record {
  front = 1 ∷ (to_le_bytes w64 1 ++ block_of changes);
  gate = 0;
  behind = rest;
  is_front = new_front 1 changes (omega arith) are (omega (arith, size));
  closed = λ e. absurd (omega (arith, e));
  is = ap (λ (l : List ℕ). 1 ∷ l) (append_assoc (to_le_bytes w64 1) (planned_bytes changes) rest ∙ ap (λ (l : List ℕ). to_le_bytes w64 1 ++ l) (append_assoc (block_of changes) (0 ∷ []) rest)
      ∙ sym (append_assoc (to_le_bytes w64 1) (block_of changes) (0 ∷ rest)));
  place_is = omega arith;
}

module _ (head : List ℕ) (changes : List Change) (s : State) (is : head ≡ 1 ∷ begun_bytes 1 changes) (size : length (records_of changes) ≤ MAX_SNAPSHOT) where
  pub head_length : length head ≡ length (records_of changes) + 14
  head_length = ap length is ∙ omega (arith, length-begun 1 changes)

  pub head_begins : AreChanges changes → StaySound changes empty_state → meaning_of changes empty_state ≡ s → changes ≡ canonical s → HasNoneGiven s → BeginsBy head 1 (length head - 1) s
  head_begins are sound leads snapshot none rest =
      let gate : 13 + length (records_of changes) ≡ length head - 1 = omega (arith, head_length) in (
        record {
          changes = changes;
          holds = subst (λ (l : List ℕ). HalfHolds (l ++ rest) 1 changes (length head - 1)) (sym is) (subst (HalfHolds ((1 ∷ begun_bytes 1 changes) ++ rest) 1 changes) gate (begun_holds changes rest are size));
          sound = sound;
          state_is = leads;
        },
        subst HasNoCursor (sym snapshot) (snapshot_no_cursor s none),
      )
