-- When the stations of the table were heard last, and which of them is silent for too long (own; IEEE Std 802.11-2016,
-- 11.3.5.8 and 11.3.4.4, leaves it to the access point when it ends an association or an authentication).
use Rattle.std.specs.Prelude.{◌≡◌, ℕ, ◌-◌, ◌*◌, Bool, false, nat_le, List, [], ◌∷◌, Option, None, Some, is_some, if◌then◌else◌}
use Rattle.std.specs.List.{find}
use Rattle.std.specs.Option.{option_map}
use Rattle.std.specs.FinMap as maps
use Rattle.std.specs.FinMap.{FinMap}
use Rattle.apd_base.specs.Addr.{station_cmp}
use Rattle.apd_base.specs.State.{State, station_at}
use Rattle.apd_base.specs.declared.address.Addr.{Addr}
use Rattle.apd_base.specs.declared.address.Bssid.{Bssid}
use Rattle.apd_base.specs.declared.moment.Moment.{Moment}
use Rattle.apd_conf.specs.declared.conf.Conf.{Conf}
use Rattle.apd_conf.specs.Confs.{conf_at}
use Rattle.apd_frame.specs.Contents.{sender_of}
use Rattle.apd_event.specs.Happening.{Happening, Heard, Kick, ListEdit, Expire, Configure}
use Rattle.apd_record.specs.declared.change.Change.{Change}
use Rattle.apd_record.specs.declared.change.Change.TheVariants.{Put, Drop}

-- a moment for each row, by (BSSID, address)
abbrev pub LastHeard : Type 0
LastHeard = FinMap station_cmp Moment

-- a row that is put counts as heard, and one that is dropped has no moment; no other change touches one
abbrev pub heard_by_change : Moment → Change → LastHeard → LastHeard
heard_by_change m (Put b a station) heard = maps.insert heard (b, a) m
heard_by_change m (Drop b a) heard = maps.remove heard (b, a)
heard_by_change m other heard = heard

-- the same by changes, one after another
abbrev pub heard_by_changes : Moment → List Change → LastHeard → LastHeard
heard_by_changes m [] heard = heard
heard_by_changes m (change ∷ changes) heard = heard_by_changes m changes (heard_by_change m change heard)

-- a station was heard, if it has a row: the moment is this one, also where the one before was later
abbrev pub heard_from : Moment → Bssid → Addr → LastHeard → LastHeard
heard_from m b a heard = if maps.contains_key heard (b, a) then maps.insert heard (b, a) m else heard

-- by a frame its sender is heard, whatever it is answered; nobody is by anything else
abbrev pub heard_by : Moment → Happening → LastHeard → LastHeard
heard_by m (Heard b frame) heard = heard_from m b (sender_of frame) heard
heard_by m (Kick b to reason deauth tag) heard = heard
heard_by m (ListEdit b which edit tag) heard = heard
heard_by m (Expire b a) heard = heard
heard_by m (Configure b accept deny) heard = heard

-- for how long a row was silent, in milliseconds: not at all, where it was heard later than now
abbrev pub silence : Moment → Moment → ℕ
silence now heard = now.0 - heard.0

-- whether that is as long as its BSSID's configuration says, in seconds, or longer; a BSSID that is not configured has
-- no limit
abbrev pub is_silent_too_long : Option Conf → ℕ → Bool
is_silent_too_long None milliseconds = false
is_silent_too_long (Some conf) milliseconds = nat_le (conf.ap_max_inactivity * 1000) milliseconds

abbrev pub is_due : List Conf → Moment → (Bssid × Addr) × Moment → Bool
is_due confs now row = is_silent_too_long (conf_at confs row.0.0) (silence now row.1)

-- the first row by (BSSID, address) of a configured BSSID that is silent for too long
abbrev pub due_row : List Conf → Moment → LastHeard → Option (Bssid × Addr)
due_row confs now heard = option_map (λ row. row.0) (find (is_due confs now) (maps.entries heard))

-- exactly the rows of a state have a moment
abbrev pub AreMomentsOf : State → LastHeard → Type 0
AreMomentsOf s heard = (b : Bssid) (a : Addr) → is_some (maps.get heard (b, a)) ≡ is_some (station_at s b a)

-- each row of a state was heard at this moment
abbrev pub AreHeardAt : Moment → State → LastHeard → Type 0
AreHeardAt m s heard = (b : Bssid) (a : Addr) → maps.get heard (b, a) ≡ option_map (λ _. m) (station_at s b a)
