-- Which rows are heard by a request, and which moment a row has after it.
use Rattle.std.specs.Prelude.{◌≡◌, ◌⊎◌, List, Option, None, Some, IsSome, Result, Ok, Err}
use Rattle.std.specs.List.{Contains}
use Rattle.std.specs.FinMap as maps
use Rattle.apd_base.specs.State.{station_at}
use Rattle.apd_base.specs.declared.address.Addr.{Addr}
use Rattle.apd_base.specs.declared.address.Bssid.{Bssid}
use Rattle.apd_base.specs.declared.moment.Moment.{Moment}
use Rattle.apd_base.specs.declared.station.Station.{Station}
use Rattle.apd_frame.specs.Contents.{sender_of}
use Rattle.apd_event.specs.Happening.{Happening, Heard, Kick, ListEdit, Expire, Configure}
use Rattle.apd_mlme.specs.rules.{verdict}
use Rattle.apd_record.specs.declared.change.Change.{Change}
use Rattle.apd_record.specs.declared.change.Change.TheVariants.{Put}
use Rattle.apd_core.specs.Core.{CoreState, answer_at, front_of}
use Rattle.apd_core.specs.Requests.{happening_of}
use Rattle.apd_core.specs.declared.input.Input.{Input}
use Rattle.apd_core.specs.declared.input.QuietReason.{QuietReason}
use Rattle.apd_core.specs.declared.ticket.Accepted.{Accepted}
use Rattle.apd_core.specs.declared.ticket.Accepted.TheVariants.{Stopped, Busy, Quiet, Entry}

-- a frame came from the station to the BSSID
abbrev pub IsFrom : Happening → Bssid → Addr → Type 0
IsFrom (Heard c frame) b a = (c ≡ b) × (sender_of frame ≡ a)
IsFrom (Kick c to reason deauth tag) b a = ⊥
IsFrom (ListEdit c which edit tag) b a = ⊥
IsFrom (Expire c d) b a = ⊥
IsFrom (Configure c accept deny) b a = ⊥

-- one of the changes puts the row
abbrev pub HasPut : List Change → Bssid → Addr → Type 0
HasPut changes b a = (station : Station) × Contains changes (Put b a station)

-- a row is heard by what happens by a request, by its answer: by a frame from its station, also where the answer is
-- quiet, and by an entry that puts it; by nothing where nothing happens, where the core is busy, and once it stopped
abbrev pub IsHeardBy : CoreState → Result Happening QuietReason → Accepted → Bssid → Addr → Type 0
IsHeardBy s (Ok h) (Entry ticket) b a = IsFrom h b a ⊎ HasPut (verdict (front_of s) s.confs h).changes b a
IsHeardBy s (Ok h) (Quiet reason) b a = IsFrom h b a
IsHeardBy s (Ok h) Busy b a = ⊥
IsHeardBy s (Ok h) Stopped b a = ⊥
IsHeardBy s (Err reason) answer b a = ⊥

-- the row after a request at a moment, and its moments before and after: a row that was heard has this moment, any
-- other has the one that it had, and where there is no row there is no moment
pub record IsNoted (m : Moment) (IsHeard : Type 0) (row : Option Station) (old new : Option Moment) : Type 0 where
  pub heard : IsHeard → IsSome row → new ≡ Some m
  pub others : ¬ IsHeard → IsSome row → new ≡ old
  pub gone : row ≡ None → new ≡ None

-- this of every row
abbrev pub AreNoted : CoreState → Moment → Input → CoreState → Type 0
AreNoted old m i new =
    (b : Bssid) (a : Addr)
    → IsNoted m (IsHeardBy old (happening_of old.confs old.heard m i) (answer_at old m i) b a)
    (station_at (front_of new) b a) (maps.get old.heard (b, a)) (maps.get new.heard (b, a))
