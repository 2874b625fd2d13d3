-- Control commands (own): stations are sent away, and lists are edited. What stations are told is that of IEEE Std
-- 802.11-2016, 11.3.4.4 and 11.3.5.8.
use Rattle.std.specs.Prelude.{ℕ, Bool, not, nat_le, List, [], ◌∷◌, ◌++◌, map, Option, Some, None, codes, if◌then◌else◌}
use Rattle.std.specs.List.{flat_map}
use Rattle.std.specs.Ordering.{eq_by_cmp}
use Rattle.std.specs.FinMap as maps
use Rattle.apd_base.specs.declared.address.Addr.{Addr}
use Rattle.apd_base.specs.declared.address.Bssid.{Bssid}
use Rattle.apd_base.specs.declared.limits.TheConstants.{MAX_LISTED}
use Rattle.apd_base.specs.declared.station.Policy.{Policy}
use Rattle.apd_base.specs.declared.station.Station.{Station}
use Rattle.apd_base.specs.declared.station.Station.TheVariants.{Authenticated, Associated}
use Rattle.apd_base.specs.declared.station.Which.{Which}
use Rattle.apd_base.specs.Addr.{addr_cmp, bssid_cmp}
use Rattle.apd_base.specs.Sets.{contains}
use Rattle.apd_base.specs.State.{State, station_at, policy_at, list_count}
use Rattle.apd_frame.specs.declared.codes.Reason.{Reason}
use Rattle.apd_frame.specs.declared.replies.Reply.{Reply}
use Rattle.apd_record.specs.declared.change.Change.{Change}
use Rattle.apd_record.specs.declared.change.Change.TheVariants.{Drop, ListAdd, ListDel, ListClear}
use Rattle.apd_table.specs.Addresses.{addresses_at, with_lists_after}
use Rattle.apd_mlme.specs.declared.command_answer.Answer.{Answer}
use Rattle.apd_mlme.specs.declared.command_answer.Answer.TheVariants.{Done, Refused}
use Rattle.apd_mlme.specs.declared.decision.Recipient.{Recipient}
use Rattle.apd_mlme.specs.declared.decision.Recipient.TheVariants.{Control}
use Rattle.apd_mlme.specs.declared.decision.Out.{Out}
use Rattle.apd_mlme.specs.declared.decision.Out.TheVariants.{Text}
use Rattle.apd_event.specs.declared.event.Edit.{Edit}
use Rattle.apd_event.specs.declared.event.Edit.TheVariants.{Add, Remove, Clear}
use Rattle.apd_base.specs.declared.address.TheConstants.{BROADCAST}
use Rattle.apd_mlme.specs.rules.Configuration.{enforcement}
use Rattle.apd_mlme.specs.rules.Leaving.{disassociation, deauthentication, removal, outs_of_end, outs_of_drop, put_back, row_drop}
use Rattle.apd_mlme.specs.Outs.{reply_out}
use Rattle.apd_mlme.specs.Verdict.{Verdict, nothing, only_reply}

-- ---- answers

abbrev pub text_of : Answer → List ℕ
text_of Done = codes "OK\n"
text_of Refused = codes "FAIL\n"

-- the answer to the command of a tag
abbrev pub text : ℕ → Answer → Recipient × Out
text tag answer = (Control, Text tag (text_of answer))

-- the same, and last of all the answer
abbrev pub with_answer : ℕ → Answer → Verdict → Verdict
with_answer tag answer v = record v { outs = v.outs ++ text tag answer ∷ [] }

-- ---- stations are sent away

-- the frame that they are told by
abbrev pub farewell : Bssid → Addr → Reason → Bool → Reply
farewell b to reason deauth = if deauth then deauthentication b to reason else disassociation b to reason

-- by deauthentication: a station with a row has none from then on
abbrev pub kick_by_deauthentication_of : State → Bssid → Addr → Reason → Option Station → Verdict
kick_by_deauthentication_of s b a reason (Some row) = row_drop s b a (outs_of_drop s b a reason)
kick_by_deauthentication_of s b a reason None = only_reply s (deauthentication b a reason)

abbrev pub kick_by_deauthentication : State → Bssid → Addr → Reason → Verdict
kick_by_deauthentication s b a reason = kick_by_deauthentication_of s b a reason (station_at s b a)

-- by disassociation: an associated station is authenticated from then on
abbrev pub kick_by_disassociation_of : State → Bssid → Addr → Reason → Option Station → Verdict
kick_by_disassociation_of s b a reason (Some (Associated x)) = put_back s b a (outs_of_end b a reason)
kick_by_disassociation_of s b a reason (Some Authenticated) = only_reply s (disassociation b a reason)
kick_by_disassociation_of s b a reason None = only_reply s (disassociation b a reason)

abbrev pub kick_by_disassociation : State → Bssid → Addr → Reason → Verdict
kick_by_disassociation s b a reason = kick_by_disassociation_of s b a reason (station_at s b a)

-- all: no station has a row of the BSSID from then on, by either frame, and they are told at once
abbrev pub kick_of_all : State → Bssid → Reason → Bool → Verdict
kick_of_all s b reason deauth =
    let all = addresses_at s b in
    record {
      state = record s { stations = maps.retain_keys s.stations (λ key. not (eq_by_cmp bssid_cmp b key.0)) };
      changes = map (λ a. Drop b a) all;
      outs = flat_map (removal s b) all ++ reply_out (farewell b BROADCAST reason deauth) ∷ [];
    }

-- the broadcast address stands for all
abbrev pub unanswered_kick : State → Bssid → Addr → Reason → Bool → Verdict
unanswered_kick s b to reason deauth =
    if eq_by_cmp addr_cmp to BROADCAST then kick_of_all s b reason deauth
    else (if deauth then kick_by_deauthentication s b to reason else kick_by_disassociation s b to reason)

abbrev pub kick_verdict : State → Bssid → Addr → Reason → Bool → ℕ → Verdict
kick_verdict s b to reason deauth tag = with_answer tag Done (unanswered_kick s b to reason deauth)

-- ---- a list is edited

-- the change that an edit is
abbrev pub change_of : Bssid → Which → Edit → Change
change_of b w (Add a) = ListAdd b w a
change_of b w (Remove a) = ListDel b w a
change_of b w Clear = ListClear b w

-- the lists are the edited ones; without a policy it is not fit, and nothing
abbrev pub unanswered_edit_under : State → Bssid → Which → Edit → Option Policy → Verdict
unanswered_edit_under s b w edit None = nothing s
unanswered_edit_under s b w edit (Some policy) =
    let change = change_of b w edit in
    enforcement s b policy.mode change (with_lists_after change s)

abbrev pub unanswered_edit : State → Bssid → Which → Edit → Verdict
unanswered_edit s b w edit = unanswered_edit_under s b w edit (policy_at s b)

-- an address that is there is not put there again, and a full list takes no new one; one that is not there is not taken
-- out; and a list is always cleared
abbrev pub list_edit_verdict : State → Bssid → Which → Edit → ℕ → Verdict
list_edit_verdict s b w (Add a) tag =
    if contains s.lists (b, w, a) then with_answer tag Done (nothing s)
    else (if nat_le MAX_LISTED (list_count s b w) then with_answer tag Refused (nothing s)
    else with_answer tag Done (unanswered_edit s b w (Add a)))
list_edit_verdict s b w (Remove a) tag =
    if contains s.lists (b, w, a) then with_answer tag Done (unanswered_edit s b w (Remove a))
    else with_answer tag Done (nothing s)
list_edit_verdict s b w Clear tag = with_answer tag Done (unanswered_edit s b w Clear)
