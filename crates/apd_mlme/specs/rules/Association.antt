-- An association or a reassociation request (IEEE Std 802.11-2016, 11.3.5.3 and 11.3.5.5): what the access point does on
-- receipt.
use Rattle.std.specs.Prelude.{ℕ, Bool, false, not, ◌&&◌, nat_lt, List, [], ◌∷◌, ◌++◌, map, filter, Option, None, Some, is_some, if◌then◌else◌}
use Rattle.std.specs.List.{flat_map, list_any}
use Rattle.std.specs.Ordering.{eq_by_cmp}
use Rattle.std.specs.Str.{bytes_eq}
use Rattle.std.specs.FinMap as maps
use Rattle.std.specs.FinMap.{FinMap}
use Rattle.apd_base.specs.declared.address.Addr.{Addr}
use Rattle.apd_base.specs.declared.address.Bssid.{Bssid}
use Rattle.apd_base.specs.declared.station.Aid.{Aid}
use Rattle.apd_base.specs.declared.station.Station.{Station}
use Rattle.apd_base.specs.declared.station.Station.TheVariants.{Authenticated, Associated}
use Rattle.apd_base.specs.Addr.{addr_cmp, bssid_cmp, station_cmp}
use Rattle.apd_base.specs.State.{State, station_at, aid_at}
use Rattle.apd_conf.specs.declared.conf.Conf.{Conf}
use Rattle.apd_conf.specs.Confs.{conf_at}
use Rattle.apd_frame.specs.Contents.{AssociationRequest, ReassociationRequest}
use Rattle.apd_frame.specs.Elements.{well_formed, first_with}
use Rattle.apd_frame.specs.declared.codes.Status.{Status}
use Rattle.apd_frame.specs.declared.codes.Status.TheVariants.{Success, RefusedReasonUnspecified, DeniedListenIntervalTooLarge}
use Rattle.apd_frame.specs.declared.codes.TheConstants.Reason.{UNSPECIFIED, INVALID_CLASS2_FRAME}
use Rattle.apd_frame.specs.declared.element.TheConstants.{SSID, SUPPORTED_RATES}
use Rattle.apd_frame.specs.declared.replies.AssociationResponse.{AssociationResponse}
use Rattle.apd_frame.specs.declared.replies.Reply.{Reply}
use Rattle.apd_frame.specs.declared.replies.ReplyBody.{ReplyBody}
use Rattle.apd_frame.specs.declared.replies.ReplyBody.TheVariants.{Assoc, Reassoc}
use Rattle.apd_record.specs.declared.change.Change.{Change}
use Rattle.apd_record.specs.declared.change.Change.TheVariants.{Put}
use Rattle.apd_mlme.specs.declared.association.Kind.{Kind}
use Rattle.apd_mlme.specs.declared.association.Kind.TheVariants as kind
use Rattle.apd_mlme.specs.declared.decision.Recipient.{Recipient}
use Rattle.apd_mlme.specs.declared.decision.Recipient.TheVariants.{Radio}
use Rattle.apd_mlme.specs.declared.decision.Out.{Out}
use Rattle.apd_mlme.specs.declared.decision.Out.TheVariants.{Install}
use Rattle.apd_mlme.specs.rules.Identifiers.{identifier_for, cursors_after, cursor_changes}
use Rattle.apd_mlme.specs.rules.Leaving.{rows_authenticated_where, deauthentication, outs_of_end}
use Rattle.apd_mlme.specs.rules.Offer.{rates_in}
use Rattle.apd_mlme.specs.Outs.{reply_out}
use Rattle.apd_mlme.specs.rules.Refusals.{first_status, is_success}
use Rattle.apd_mlme.specs.Verdict.{Verdict, nothing, only_reply}

-- the access point that a station names in a reassociation request is not looked at (own)
abbrev pub without_current_ap : ReassociationRequest → AssociationRequest
without_current_ap r =
    record { sender = r.sender; capability = r.capability; listen_interval = r.listen_interval; elements = r.elements }

-- whether an SSID is the network's name
abbrev pub is_named : Conf → Option (List ℕ) → Bool
is_named conf None = false
is_named conf (Some ssid) = bytes_eq ssid conf.ssid

-- the reasons to refuse, in the order in which they are looked for (own), with their status codes
abbrev pub association_refusals : Conf → AssociationRequest → List (Bool × Status)
association_refusals conf request =
    -- an element is cut
    (not (well_formed request.elements), RefusedReasonUnspecified)
    -- no SSID, or that of another network
    ∷ (not (is_named conf (first_with SSID request.elements)), RefusedReasonUnspecified)
    -- no Supported Rates
    ∷ (not (is_some (first_with SUPPORTED_RATES request.elements)), RefusedReasonUnspecified)
    -- it would listen too seldom
    ∷ (nat_lt conf.max_listen_interval request.listen_interval, DeniedListenIntervalTooLarge)
    ∷ []

abbrev pub association_status : Conf → AssociationRequest → Status
association_status conf request = first_status (association_refusals conf request)

-- the response is of the kind of the request
abbrev pub body_of : Kind → AssociationResponse → ReplyBody
body_of kind.Association response = Assoc response
body_of kind.Reassociation response = Reassoc response

-- it says the status, and the identifier where that is success
abbrev pub association_response : Conf → Bssid → Kind → Addr → Status → Option Aid → Reply
association_response conf b kind a status aid = record {
  to = a;
  bssid = b;
  body = body_of kind (record { status = status; aid = aid; rates = rates_in conf.hw_mode });
}

-- whether another BSSID has the station associated
abbrev pub is_elsewhere : State → Bssid → Addr → Bssid → Bool
is_elsewhere s b a c = not (eq_by_cmp bssid_cmp b c) && is_some (aid_at s c a)

-- those of the access point's BSSIDs, rising (own)
abbrev pub bssids_elsewhere : State → Bssid → Addr → List Bssid
bssids_elsewhere s b a = filter (is_elsewhere s b a) (maps.keys s.policies)

-- the station's rows at these BSSIDs say authenticated, and every other row is kept
abbrev pub with_put_backs : Addr → List Bssid → FinMap station_cmp Station → FinMap station_cmp Station
with_put_backs a bssids rows =
    rows_authenticated_where (λ key. list_any (eq_by_cmp bssid_cmp key.0) bssids && eq_by_cmp addr_cmp key.1 a) rows

abbrev pub put_backs : Addr → List Bssid → List Change
put_backs a bssids = map (λ c. Put c a Authenticated) bssids

-- it is told so by each of them that is configured: the others have no radio (own)
abbrev pub outs_elsewhere : List Conf → Addr → List Bssid → List (Recipient × Out)
outs_elsewhere confs a bssids =
    flat_map (λ c. outs_of_end c a UNSPECIFIED) (filter (λ c. is_some (conf_at confs c)) bssids)

-- the driver takes the station in, where it was not associated here before (own)
abbrev pub installation : State → Bssid → Addr → Aid → List (Recipient × Out)
installation s b a aid = if is_some (aid_at s b a) then [] else (Radio b, Install a aid) ∷ []

abbrev pub row_of : AssociationRequest → Aid → Station
row_of request aid =
    Associated (record { aid = aid; capability = request.capability; listen_interval = request.listen_interval })

-- a request that is accepted: the station is associated here, with this identifier and with what it asked (11.3.5.3 and
-- 11.3.5.5), and nowhere else (4.5.3.3)
abbrev pub acceptance : State → List Conf → Conf → Bssid → Kind → AssociationRequest → Aid → Verdict
acceptance s confs conf b kind request aid =
    let a = request.sender in
    let others = bssids_elsewhere s b a in
    record {
      state = record s {
        stations = maps.insert (with_put_backs a others s.stations) (b, a) (row_of request aid);
        cursors = cursors_after s b a aid;
      };
      changes = put_backs a others ++ Put b a (row_of request aid) ∷ cursor_changes s b a aid;
      outs = outs_elsewhere confs a others ++ installation s b a aid
          ++ reply_out (association_response conf b kind a Success (Some aid)) ∷ [];
    }

-- in a sound state there is an identifier
abbrev pub acceptance_of : State → List Conf → Conf → Bssid → Kind → AssociationRequest → Option Aid → Verdict
acceptance_of s confs conf b kind request None = nothing s
acceptance_of s confs conf b kind request (Some aid) = acceptance s confs conf b kind request aid

-- By the station's row at the BSSID: it is a class 2 frame, so a station without one is told that it is not
-- authenticated (11.3.3). A refused station stays as it is (own).
abbrev pub association_of : State → List Conf → Conf → Bssid → Kind → AssociationRequest → Option Station → Verdict
association_of s confs conf b kind request None = only_reply s (deauthentication b request.sender INVALID_CLASS2_FRAME)
association_of s confs conf b kind request (Some row) =
    let status = association_status conf request in
    if is_success status then acceptance_of s confs conf b kind request (identifier_for s b (Some row))
    else only_reply s (association_response conf b kind request.sender status None)

abbrev pub association_verdict : State → List Conf → Conf → Bssid → Kind → AssociationRequest → Verdict
association_verdict s confs conf b kind request =
    association_of s confs conf b kind request (station_at s b request.sender)
