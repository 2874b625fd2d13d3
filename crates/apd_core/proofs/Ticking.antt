-- The row that a tick takes.
use Rattle.std.proofs.Common.{◌≡◌, ℕ, ◌+◌, Bool, true, false, cond, List, Option, Some, None, is_some, is_none, Ok, IsSome, refl, sym, ap, ◌∙◌}
use Rattle.std.specs.List.{find}
use Rattle.apd_core.proofs.Words.{Accepted, Addr, AreMomentsOf, Bssid, Busy, Conf, CoreState, Expire, Moment, Quiet, QuietReason, Sound, State, Station, Stopped, answer_at, answer_to, answer_to_fit, conf_at, due_row, expiry, front_of, is_busy, is_due, is_nothing, is_silent_too_long, is_stopped, last_of, option_map, policy_at, silence, station_at, ticket, unfitness, verdict_under}
use Rattle.std.specs.FinMap as maps
use Rattle.apd_base.specs.declared.station.Station.TheVariants.{Authenticated, Associated}
use Rattle.apd_mlme.specs.rules.Inactivity.{inactivity_of}
use Rattle.apd_core.specs.declared.input.Input.TheVariants.{Tick}
use Rattle.apd_core.specs.declared.input.QuietReason.TheVariants.{Nothing, NoInterface, NoPolicy}
use Rattle.apd_core.specs.declared.ticket.Accepted.TheVariants.{Entry}
use Rattle.apd_core.specs.declared.ticket.Ticket.{Ticket}
use Rattle.apd_core.proofs.Found.{Row, found_entry}

-- it is of a configured BSSID
configured : (o : Option Conf) (ms : ℕ) → is_silent_too_long o ms ≡ true → is_none o ≡ false
configured None ms h = cc
configured (Some conf) ms h = refl

there : {A : Type 0} (o : Option A) → is_some o ≡ true → is_none o ≡ false
there None h = cc
there (Some x) h = refl

-- and it has a row, so that something happens
something : (s : State) (b : Bssid) (a : Addr) (o : Option Station) → is_some o ≡ true → is_nothing (inactivity_of s b a o) ≡ false
something s b a None h = cc
something s b a (Some Authenticated) h = refl
something s b a (Some (Associated x)) h = refl

something_under : (s : State) (confs : List Conf) (b : Bssid) (a : Addr) (o : Option Conf) → is_none o ≡ false → is_some (station_at s b a) ≡ true
    → is_nothing (verdict_under s confs o (Expire b a)) ≡ false
something_under s confs b a None h known = cc
something_under s confs b a (Some conf) h known = something s b a (station_at s b a) known

entry_is_not_quiet : {A : Type 0} (t : Ticket) (reason : QuietReason) → Entry t ≡ Quiet reason → A
entry_is_not_quiet t reason h = cc

or_stopped : {A : Type 0} (t : Bool) (answer : Accepted) (reason : QuietReason) → (answer ≡ Quiet reason → A) → cond t Stopped answer ≡ Quiet reason → A
or_stopped true answer reason f h = cc
or_stopped false answer reason f h = f h

or_busy : {A : Type 0} (t : Bool) (answer : Accepted) (reason : QuietReason) → (answer ≡ Quiet reason → A) → cond t Busy answer ≡ Quiet reason → A
or_busy true answer reason f h = cc
or_busy false answer reason f h = f h

module _ (s : CoreState) (m : Moment) (sound : Sound (front_of s)) (moments : AreMomentsOf (front_of s) s.heard) where
  abbrev IsFound : Row → Type 0
  IsFound row = find (is_due s.confs m) (maps.entries s.heard) ≡ Some row

  known : (row : Row) → IsFound row → is_some (station_at (front_of s) row.0.0 row.0.1) ≡ true
  known row is = sym (moments row.0.0 row.0.1) ∙ ap is_some (maps.get-entries s.heard row.0 ∙ (found_entry (is_due s.confs m) (maps.entries s.heard) (maps.entries_sorted s.heard) row is).1)

  is_configured : (row : Row) → IsFound row → is_none (conf_at s.confs row.0.0) ≡ false
  is_configured row is = configured (conf_at s.confs row.0.0) (silence m row.1) (found_entry (is_due s.confs m) (maps.entries s.heard) (maps.entries_sorted s.heard) row is).0

  fit : (row : Row) → IsFound row → unfitness (front_of s) s.confs (Expire row.0.0 row.0.1) ≡ None
  fit row is =
      let policy : IsSome (policy_at (front_of s) row.0.0) = sound.stations_have_policy row.0.0 row.0.1 (known row is) in
      (λ i. cond (is_configured row is i) (Some NoInterface) (cond (there (policy_at (front_of s) row.0.0) policy i) (Some NoPolicy) None))

  -- the row that is due is an entry
  due_entered : (row : Row) → IsFound row → answer_to s m Tick (Ok (Expire row.0.0 row.0.1)) ≡ Entry (ticket (last_of s + 1) Tick m)
  due_entered row is =
      ap (answer_to_fit s m Tick (Expire row.0.0 row.0.1)) (fit row is)
      ∙ ap (λ t. cond t (Quiet Nothing) (Entry (ticket (last_of s + 1) Tick m))) (something_under (front_of s) s.confs row.0.0 row.0.1 (conf_at s.confs row.0.0) (is_configured row is) (known row is))

  due_quiet : (o : Option Row) → find (is_due s.confs m) (maps.entries s.heard) ≡ o → (reason : QuietReason)
      → answer_to s m Tick (expiry (option_map (λ (row : Row). row.0) o)) ≡ Quiet reason → (reason ≡ Nothing) × (option_map (λ (row : Row). row.0) o ≡ None)
  due_quiet None is reason h = (cc, refl)
  due_quiet (Some row) is reason h = entry_is_not_quiet (ticket (last_of s + 1) Tick m) reason (sym (due_entered row is) ∙ h)

pub tick_is_quiet : (s : CoreState) (m : Moment) → Sound (front_of s) → AreMomentsOf (front_of s) s.heard → (reason : QuietReason) → answer_at s m Tick ≡ Quiet reason → (reason ≡ Nothing) × (due_row s.confs m s.heard ≡ None)
tick_is_quiet s m sound moments reason = or_stopped (is_stopped s) _ reason (or_busy (is_busy s) _ reason (due_quiet s m sound moments _ refl reason))
