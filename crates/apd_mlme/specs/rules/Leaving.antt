-- An association or an authentication comes to its end: what a station is told where the access point ends it (IEEE Std
-- 802.11-2016, 11.3.4.4 and 11.3.5.8), and what becomes of its row.
use Rattle.std.specs.Prelude.{Bool, not, ◌&&◌, List, [], ◌∷◌, ◌++◌, map, is_some, if◌then◌else◌}
use Rattle.std.specs.Ordering.{eq_by_cmp}
use Rattle.std.specs.FinMap as maps
use Rattle.std.specs.FinMap.{FinMap}
use Rattle.apd_base.specs.declared.address.Addr.{Addr}
use Rattle.apd_base.specs.declared.address.Bssid.{Bssid}
use Rattle.apd_base.specs.declared.station.Station.{Station}
use Rattle.apd_base.specs.declared.station.Station.TheVariants.{Authenticated}
use Rattle.apd_base.specs.Addr.{addr_cmp, bssid_cmp, station_cmp}
use Rattle.apd_base.specs.State.{State, aid_at}
use Rattle.apd_frame.specs.declared.codes.Reason.{Reason}
use Rattle.apd_frame.specs.declared.replies.Reply.{Reply}
use Rattle.apd_frame.specs.declared.replies.ReplyBody.TheVariants.{Disassoc, Deauth}
use Rattle.apd_record.specs.declared.change.Change.TheVariants.{Put, Drop}
use Rattle.apd_mlme.specs.declared.decision.Recipient.{Recipient}
use Rattle.apd_mlme.specs.declared.decision.Recipient.TheVariants.{Radio}
use Rattle.apd_mlme.specs.declared.decision.Out.{Out}
use Rattle.apd_mlme.specs.declared.decision.Out.TheVariants.{Remove}
use Rattle.apd_mlme.specs.Outs.{reply_out}
use Rattle.apd_mlme.specs.Verdict.{Verdict}

-- a station is told that its association is at an end
abbrev pub disassociation : Bssid → Addr → Reason → Reply
disassociation b a reason = record { to = a; bssid = b; body = Disassoc reason }

-- or its authentication
abbrev pub deauthentication : Bssid → Addr → Reason → Reply
deauthentication b a reason = record { to = a; bssid = b; body = Deauth reason }

-- the driver lets a station go, where it was associated (own)
abbrev pub removal : State → Bssid → Addr → List (Recipient × Out)
removal s b a = if is_some (aid_at s b a) then (Radio b, Remove a) ∷ [] else []

-- what leaves for a station that was associated and is so no more
abbrev pub outs_of_end : Bssid → Addr → Reason → List (Recipient × Out)
outs_of_end b a reason = (Radio b, Remove a) ∷ reply_out (disassociation b a reason) ∷ []

-- what leaves for a station whose row is dropped
abbrev pub outs_of_drop : State → Bssid → Addr → Reason → List (Recipient × Out)
outs_of_drop s b a reason = removal s b a ++ reply_out (deauthentication b a reason) ∷ []

-- the rows, of which those that pass a test say authenticated
abbrev pub rows_authenticated_where : (Bssid × Addr → Bool) → FinMap station_cmp Station → FinMap station_cmp Station
rows_authenticated_where test rows =
    maps.from_entries (map (λ row. (row.0, if test row.0 then Authenticated else row.1)) (maps.entries rows))

-- whether it is the station's row
abbrev pub is_row_at : Bssid → Addr → Bssid × Addr → Bool
is_row_at b a key = eq_by_cmp bssid_cmp key.0 b && eq_by_cmp addr_cmp key.1 a

-- the station's row says authenticated, and every other row is kept
abbrev pub put_back : State → Bssid → Addr → List (Recipient × Out) → Verdict
put_back s b a outs = record {
  state = record s { stations = rows_authenticated_where (is_row_at b a) s.stations };
  changes = Put b a Authenticated ∷ [];
  outs = outs;
}

-- the station has no row, and every other row is kept
abbrev pub row_drop : State → Bssid → Addr → List (Recipient × Out) → Verdict
row_drop s b a outs = record {
  state = record s { stations = maps.retain_keys s.stations (λ key. not (is_row_at b a key)) };
  changes = Drop b a ∷ [];
  outs = outs;
}
