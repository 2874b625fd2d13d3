-- What a request makes of the moment of one row.
use Rattle.std.proofs.Common.{◌≡◌, Bool, true, false, cond, List, [], ◌∷◌, Option, Some, None, is_some, IsSome, Result, Ok, Err, ◌⊎◌, inl, inr, refl, sym, ap, subst, ◌∙◌, arith}
use Rattle.apd_core.proofs.Words.{Accepted, Addr, AreMomentsOf, AreNoted, Bssid, Busy, Change, Configure, Contains, Contains-append_cases, Contains-append_left, Contains-append_right, Contains-push, Contains-push_cases, CoreState, Drop, Expire, Happening, HasPut, Heard, Input, IsFrom, IsHeardBy, IsNoted, Kick, LastHeard, ListEdit, Moment, Put, Quiet, QuietReason, Station, Stopped, after_request, answer_at, eq_by_cmp, front_of, get_insert_other, get_inserted, happening_of, heard_by, heard_by_change, heard_by_changes, heard_from, one_or_apart, sender_of, state_after, station_at, station_cmp, station_exact, station_total, verdict, with_entry, with_sender}
use Rattle.std.specs.FinMap as maps
use Rattle.apd_core.specs.declared.ticket.Accepted.TheVariants.{Entry}
use Rattle.apd_core.proofs.CoreLemmas.{entry_front}
use Rattle.apd_core.proofs.Hearing.{after_entry, after_sender}

-- a moment is this one, if there is one
abbrev pub IsAtMost : Option Moment → Option Moment → Type 0
IsAtMost before o = IsSome o → o ≡ before

or_gone : (t : Bool) (before o : Option Moment) → IsAtMost before o → IsAtMost before (cond t None o)
or_gone true before o h = λ some. cc
or_gone false before o h = h

module _ (m : Moment) (b : Bssid) (a : Addr) where
  abbrev at : LastHeard → Option Moment
  at heard = maps.get heard (b, a)

  or_put : (t : Bool) (before o : Option Moment) → (t ≡ true → Some m ≡ before) → IsAtMost before o → IsAtMost before (cond t (Some m) o)
  or_put true before o now h = λ some. now refl
  or_put false before o now h = h

  -- a change that does not put the row leaves its moment, or takes it
  by_change : (before : Option Moment) (change : Change) → (((station : Station) × (change ≡ Put b a station)) → Some m ≡ before) → (heard : LastHeard)
      → IsAtMost before (at heard) → IsAtMost before (at (heard_by_change m change heard))
  by_change before (Put c d station) put heard h =
      elim (one_or_apart station_total station_exact (b, a) (c, d)) [
        | inl same ↦ subst (λ o. IsAtMost before o) (sym (maps.get-insert station_total heard (c, d) m (b, a)))
            (or_put (eq_by_cmp station_cmp (b, a) (c, d)) before (at heard) (λ _. put (station, λ i. Put (sym same i).0 (sym same i).1 station)) h)
        | inr apart ↦ subst (λ o. IsAtMost before o) (sym (get_insert_other station_total station_exact heard (c, d) m (b, a) apart)) h
      ]
  by_change before (Drop c d) put heard h =
      subst (λ o. IsAtMost before o) (sym (maps.get-remove station_total heard (c, d) (b, a))) (or_gone (eq_by_cmp station_cmp (b, a) (c, d)) before (at heard) h)
  by_change before other put heard h = h

  by_changes : (before : Option Moment) (changes : List Change) → (HasPut changes b a → Some m ≡ before) → (heard : LastHeard)
      → IsAtMost before (at heard) → IsAtMost before (at (heard_by_changes m changes heard))
  by_changes before [] put heard h = h
  by_changes before (change ∷ changes) put heard h =
      by_changes before changes (λ p. put (p.0, Contains-append_right (change ∷ []) changes (Put b a p.0) p.1)) (heard_by_change m change heard)
      (by_change before change
      (λ p. put (p.0, Contains-append_left (change ∷ []) changes (Put b a p.0) (subst (λ c. Contains (change ∷ []) c) p.1 (Contains-push [] change))))
      heard h)

  -- a row that no change puts has the moment that it had
  not_put : (changes : List Change) (heard : LastHeard) → (HasPut changes b a → ⊥) → IsAtMost (at heard) (at (heard_by_changes m changes heard))
  not_put changes heard none = by_changes (at heard) changes (λ p. absurd (none p)) heard (λ _. refl)

  only : (x y : Change) → Contains (x ∷ []) y → x ≡ y
  only x y h = elim (Contains-push_cases [] x y h) [ inl none ↦ absurd (omega arith) | inr is ↦ is ]

  -- a row that one of them puts has this one
  put : (changes : List Change) (heard : LastHeard) → HasPut changes b a → IsAtMost (Some m) (at (heard_by_changes m changes heard))
  put [] heard p = absurd (omega (arith, p.1))
  put (change ∷ changes) heard p =
      elim (Contains-append_cases (change ∷ []) changes (Put b a p.0) p.1) [
        | inl first ↦ by_changes (Some m) changes (λ _. refl) (heard_by_change m change heard)
            (subst (λ c. IsAtMost (Some m) (at (heard_by_change m c heard))) (sym (only change (Put b a p.0) first)) (λ _. get_inserted station_total station_exact heard (b, a) m))
        | inr later ↦ put changes (heard_by_change m change heard) (p.0, later)
      ]

  -- the sender's row has this one
  of_sender : (heard : LastHeard) → IsAtMost (Some m) (at (heard_from m b a heard))
  of_sender heard =
      elim (is_some (at heard)) as (λ t. is_some (at heard) ≡ t → IsAtMost (Some m) (at (cond t (maps.insert heard (b, a) m) heard))) [
        | true ↦ λ _. λ _. get_inserted station_total station_exact heard (b, a) m
        | false ↦ λ none. λ some. cc
      ] refl

  from : (h : Happening) → IsFrom h b a → (heard : LastHeard) → IsAtMost (Some m) (at (heard_by m h heard))
  from (Heard c frame) is heard = subst (λ (k : Bssid × Addr). IsAtMost (Some m) (at (heard_from m k.0 k.1 heard))) (λ i. (sym is.0 i, sym is.1 i)) (of_sender heard)
  from (Kick c to reason deauth tag) is heard = absurd is
  from (ListEdit c which edit tag) is heard = absurd is
  from (Expire c d) is heard = absurd is
  from (Configure c accept deny) is heard = absurd is

  -- any other row has the moment that it had
  of_another : (k : Bssid × Addr) → eq_by_cmp station_cmp (b, a) k ≡ false → (heard : LastHeard) → at (heard_from m k.0 k.1 heard) ≡ at heard
  of_another k apart heard =
      elim (is_some (maps.get heard k)) as (λ t. at (cond t (maps.insert heard k m) heard) ≡ at heard) [
        | true ↦ get_insert_other station_total station_exact heard k m (b, a) apart
        | false ↦ refl
      ]

  not_from : (h : Happening) → (IsFrom h b a → ⊥) → (heard : LastHeard) → at (heard_by m h heard) ≡ at heard
  not_from (Heard c frame) other heard =
      elim (one_or_apart station_total station_exact (b, a) (c, sender_of frame)) [
        | inl same ↦ absurd (other (λ i. (sym same i).0, λ i. (sym same i).1))
        | inr apart ↦ of_another (c, sender_of frame) apart heard
      ]
  not_from (Kick c to reason deauth tag) other heard = refl
  not_from (ListEdit c which edit tag) other heard = refl
  not_from (Expire c d) other heard = refl
  not_from (Configure c accept deny) other heard = refl

  -- a row that has this moment keeps it, whoever is heard
  still : (k : Bssid × Addr) (heard : LastHeard) → IsAtMost (Some m) (at heard) → IsAtMost (Some m) (at (heard_from m k.0 k.1 heard))
  still k heard h =
      elim (is_some (maps.get heard k)) as (λ t. IsAtMost (Some m) (at (cond t (maps.insert heard k m) heard))) [
        | true ↦ subst (λ o. IsAtMost (Some m) o) (sym (maps.get-insert station_total heard k m (b, a))) (or_put (eq_by_cmp station_cmp (b, a) k) (Some m) (at heard) (λ _. refl) h)
        | false ↦ h
      ]

  still_by : (h : Happening) (heard : LastHeard) → IsAtMost (Some m) (at heard) → IsAtMost (Some m) (at (heard_by m h heard))
  still_by (Heard c frame) heard is = still (c, sender_of frame) heard is
  still_by (Kick c to reason deauth tag) heard is = is
  still_by (ListEdit c which edit tag) heard is = is
  still_by (Expire c d) heard is = is
  still_by (Configure c accept deny) heard is = is

no_moment : (o : Option Moment) → is_some o ≡ false → o ≡ None
no_moment None h = refl
no_moment (Some x) h = cc

-- a row has a moment where it is there, and nowhere else
noted : (m : Moment) (IsHeard : Type 0) (row : Option Station) (old new : Option Moment) → is_some new ≡ is_some row
    → (IsHeard → IsAtMost (Some m) new) → ((IsHeard → ⊥) → IsAtMost old new) → IsNoted m IsHeard row old new
noted m IsHeard row old new tie now before = record {
  heard = λ h some. now h (tie ∙ some);
  others = λ n some. before n (tie ∙ some);
  gone = λ is. no_moment new (tie ∙ ap is_some is);
}

module _ (s : CoreState) (m : Moment) (moments : AreMomentsOf (front_of s) s.heard) (b : Bssid) (a : Addr) where
  unchanged : IsNoted m ⊥ (station_at (front_of s) b a) (maps.get s.heard (b, a)) (maps.get s.heard (b, a))
  unchanged = noted m ⊥ (station_at (front_of s) b a) (maps.get s.heard (b, a)) (maps.get s.heard (b, a)) (moments b a) (λ none. absurd none) (λ _ _. refl)

  noted_after : (said : Result Happening QuietReason) (answer : Accepted)
      → IsNoted m (IsHeardBy s said answer b a) (station_at (front_of (state_after s m said answer)) b a) (maps.get s.heard (b, a)) (maps.get (state_after s m said answer).heard (b, a))
  noted_after (Err reason) answer = unchanged
  noted_after (Ok h) Stopped = unchanged
  noted_after (Ok h) Busy = unchanged
  noted_after (Ok h) (Quiet reason) =
      noted m (IsFrom h b a) (station_at (front_of s) b a) (maps.get s.heard (b, a)) (maps.get (heard_by m h s.heard) (b, a))
      (after_sender m h (front_of s) s.heard moments b a)
      (λ is. from m b a h is s.heard)
      (λ other some. not_from m b a h other s.heard)
  noted_after (Ok h) (Entry ticket) =
      let changes = (verdict (front_of s) s.confs h).changes in
      let between = heard_by_changes m changes s.heard in
      let front : front_of (with_sender m h (with_entry s m h)) ≡ (verdict (front_of s) s.confs h).state = entry_front s m h in
      noted m (IsFrom h b a ⊎ HasPut changes b a) (station_at (front_of (with_sender m h (with_entry s m h))) b a) (maps.get s.heard (b, a)) (maps.get (heard_by m h between) (b, a))
      (after_entry m s.confs h (front_of s) s.heard moments b a ∙ sym (ap (λ t. is_some (station_at t b a)) front))
      (λ is. elim is [ inl is_from ↦ from m b a h is_from between | inr is_put ↦ still_by m b a h between (put m b a changes s.heard is_put) ])
      (λ other some.
      let same = not_from m b a h (λ is_from. other (inl is_from)) between in
      same ∙ not_put m b a changes s.heard (λ is_put. other (inr is_put)) (sym (ap is_some same) ∙ some))

pub moments_noted : (s : CoreState) (m : Moment) (i : Input) → AreMomentsOf (front_of s) s.heard → AreNoted s m i (after_request s m i)
moments_noted s m i moments b a = noted_after s m moments b a (happening_of s.confs s.heard m i) (answer_at s m i)
