-- What was noted of radios, and what commands are told of interfaces (own).
use Rattle.std.specs.Prelude.{List, Bool, true, false, Option, Some, None}
use Rattle.std.specs.List.{find}
use Rattle.std.specs.Ordering.{eq_by_cmp}
use Rattle.apd_base.specs.declared.address.Bssid.{Bssid}
use Rattle.apd_base.specs.Addr.{bssid_cmp}

-- a place holds a note: a BSSID, and whether its radio is up
abbrev pub Noting : Type 0
Noting = Option (Bssid × Bool)

-- whether a place's note is of this BSSID
abbrev pub is_note_of : Bssid → Noting → Bool
is_note_of bssid None = false
is_note_of bssid (Some note) = eq_by_cmp bssid_cmp bssid note.0

-- whether this BSSID may be noted at a place: it is free, or has a note of it
abbrev pub is_for : Bssid → Noting → Bool
is_for bssid None = true
is_for bssid (Some note) = eq_by_cmp bssid_cmp bssid note.0

abbrev pub says_up : Option Noting → Bool
says_up None = false
says_up (Some None) = false
says_up (Some (Some note)) = note.1

-- whether the radio of a BSSID is up, by the first note of it; one that has none is not
abbrev pub is_noted_up : List Noting → Bssid → Bool
is_noted_up places bssid = says_up (find (is_note_of bssid) places)

-- whether the interface of a BSSID is up, as commands are told: its radio is noted to be, and the core has not failed, by
-- which it would admit nobody any more
abbrev pub is_up_at : Bool → List Noting → Bssid → Bool
is_up_at true places bssid = false
is_up_at false places bssid = is_noted_up places bssid
