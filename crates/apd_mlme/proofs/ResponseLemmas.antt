-- Which probe requests a network answers, and the octets of responses.
use Rattle.std.proofs.Common.{◌≡◌, ℕ, Bool, true, false, cond, ◌&&◌, ◌||◌, ◌==◌, List, [], ◌∷◌, length, Option, Some, None, inl, inr, refl, ap, IsSomeAnd, ◌+◌, ◌++◌, ◌∙◌, IsSome}
use Rattle.apd_mlme.proofs.Words.{Addr, Aid, AsksFor, Association, AssociationRequest, Authentication, Bssid, Conf, DeniedListenIntervalTooLarge, DeniedNoMoreStas, IsAssociationAnswered, IsAuthenticationAnswered, IsMember, IsProbeFor, IsProbed, Kind, NotSupportedAuthAlgorithm, Out, ProbeRequest, Reassociation, Recipient, RefusedReasonUnspecified, SSID, Sound, State, Status, Success, TransactionSequenceError, aid_at, aid_field, aid_of, and_parts, association_verdict, auth_verdict, authentication_response, both_true, bytes_eq-Decides, channel_octets, code_of, eqb-true, false_from_ne_true, first_with, is_answered, is_asked, is_open, management_frame, octets_of, probe_response, probe_verdict, rates_element, rates_in, rates_octets, reply_out, response_frame, second_true, station_at, status_code, well_formed}
use Rattle.std.specs.Str.{bytes_eq}
use Rattle.apd_base.specs.Number.{AreBytes}
use Rattle.apd_conf.specs.declared.ignore_broadcast_ssid.IgnoreBroadcastSsid.{IgnoreBroadcastSsid}
use Rattle.apd_conf.specs.declared.ignore_broadcast_ssid.IgnoreBroadcastSsid.TheVariants.{No, Empty, Cleared}
use Rattle.apd_frame.proofs.ElementLemmas.{all_bytes, is_well_formed, well_formed_is}
use Rattle.std.specs.Int.{to_le_bytes, w16, w64}
use Rattle.apd_conf.specs.declared.hw_mode.HwMode.{HwMode}
use Rattle.apd_conf.specs.declared.hw_mode.HwMode.TheVariants.{A, B, G}
use Rattle.apd_frame.specs.declared.replies.ReplyBody.TheVariants.{Probe}
use Rattle.apd_mlme.specs.rules.Association as rule
use Rattle.apd_mlme.specs.rules.Offer.{channel_in}
use Rattle.apd_mlme.specs.laws.Responses.{association_response}
use Rattle.apd_mlme.proofs.AssociationResponseLemmas.{association_told}
use Rattle.apd_mlme.proofs.AuthenticationLemmas.{auth_told}

opens : (hides : IgnoreBroadcastSsid) → is_open hides ≡ true → hides ≡ No
opens No e = refl
opens Empty e = cc
opens Cleared e = cc

is_empty : (ssid : List ℕ) → length ssid ≡ 0 → ssid ≡ []
is_empty [] e = refl
is_empty (x ∷ ssid) e = cc

module _ (conf : Conf) where
  asks_any : (ssid : List ℕ) → ((length ssid == 0) && is_open conf.ignore_broadcast_ssid) ≡ true → AsksFor conf ssid
  asks_any ssid e =
      let parts = and_parts (length ssid == 0) (is_open conf.ignore_broadcast_ssid) e in
      inr (is_empty ssid (eqb-true (length ssid) 0 parts.0), opens conf.ignore_broadcast_ssid parts.1)

  asks_one : (ssid : List ℕ) (t : Bool) → bytes_eq ssid conf.ssid ≡ t → (t || ((length ssid == 0) && is_open conf.ignore_broadcast_ssid)) ≡ true → AsksFor conf ssid
  asks_one ssid true same e = inl ((bytes_eq-Decides ssid conf.ssid).0 same)
  asks_one ssid false same e = asks_any ssid e

  asks : (o : Option (List ℕ)) → is_asked conf o ≡ true → IsSomeAnd o (AsksFor conf)
  asks None e = cc
  asks (Some ssid) e = asks_one ssid (bytes_eq ssid conf.ssid) refl e

  is_asked_for : (ssid : List ℕ) → AsksFor conf ssid → is_asked conf (Some ssid) ≡ true
  is_asked_for ssid (inl same) = ap (λ t. t || ((length ssid == 0) && is_open conf.ignore_broadcast_ssid)) ((bytes_eq-Decides ssid conf.ssid).1 same)
  is_asked_for ssid (inr any) =
      second_true (bytes_eq ssid conf.ssid) ((length ssid == 0) && is_open conf.ignore_broadcast_ssid)
      (both_true (length ssid == 0) (is_open conf.ignore_broadcast_ssid) (ap (λ f. length f == 0) any.0) (ap is_open any.1))

  is_asked_by : (o : Option (List ℕ)) → IsSomeAnd o (AsksFor conf) → is_asked conf o ≡ true
  is_asked_by None h = absurd h
  is_asked_by (Some ssid) h = is_asked_for ssid h

  module _ (elements : List ℕ) (bytes : AreBytes elements) where
    for_it : is_answered conf elements ≡ true → IsProbeFor conf elements
    for_it e =
        let parts = and_parts (well_formed elements) (is_asked conf (first_with SSID elements)) e in
        (is_well_formed elements (all_bytes elements bytes) parts.0, asks (first_with SSID elements) parts.1)

    answers : IsProbeFor conf elements → is_answered conf elements ≡ true
    answers is = both_true (well_formed elements) (is_asked conf (first_with SSID elements)) (well_formed_is elements is.0) (is_asked_by (first_with SSID elements) is.1)

pub probed : (s : State) (conf : Conf) (b : Bssid) (request : ProbeRequest) → AreBytes request.elements → IsProbed s conf b request (probe_verdict s conf b request)
probed s conf b request bytes =
    let response = reply_out (probe_response conf b request.sender) ∷ [] in
    record {
      answered = λ is. ap (λ t. cond t response []) (answers conf request.elements bytes is);
      silent = λ none. ap (λ t. cond t response []) (false_from_ne_true (is_answered conf request.elements) (λ e. none (for_it conf request.elements bytes e)));
      stays = refl;
    }

same_code : (status : Status) → status_code status ≡ code_of status
same_code Success = refl
same_code RefusedReasonUnspecified = refl
same_code NotSupportedAuthAlgorithm = refl
same_code TransactionSequenceError = refl
same_code DeniedNoMoreStas = refl
same_code DeniedListenIntervalTooLarge = refl

-- ---- authentication
pub authentication_answered : (s : State) (conf : Conf) (b : Bssid) (request : Authentication) → IsAuthenticationAnswered s conf b request (auth_verdict s conf b request)
authentication_answered s conf b request =
    let told = auth_told s conf b request in
    record {
      status = told.status;
      deserved = told.deserved;
      frame = told.answer ∙ ap (λ code. authentication_response b request code ∷ []) (same_code told.status);
    }

-- ---- association
abbrev pub subtype_of : Kind → ℕ
subtype_of Association = 1
subtype_of Reassociation = 3

same_rates : (mode : HwMode) → octets_of (rates_element (rates_in mode) ∷ []) ≡ rates_octets mode
same_rates A = refl
same_rates B = refl
same_rates G = refl

module _ (conf : Conf) (b : Bssid) (a : Addr) (status : Status) (aid : Option Aid) where
  abbrev with_rates : Kind → List ℕ → Recipient × Out
  with_rates kind rates = management_frame (subtype_of kind) b a ((1 ∷ 0 ∷ []) ++ to_le_bytes w16 (status_code status) ++ to_le_bytes w16 (aid_field aid) ++ rates)

  same_rated : (kind : Kind) → reply_out (rule.association_response conf b kind a status aid) ≡ with_rates kind (rates_octets conf.hw_mode)
  same_rated Association = ap (with_rates Association) (same_rates conf.hw_mode)
  same_rated Reassociation = ap (with_rates Reassociation) (same_rates conf.hw_mode)

  pub same_response : (kind : Kind) → reply_out (rule.association_response conf b kind a status aid) ≡ association_response (subtype_of kind) conf b a (code_of status) (aid_field aid)
  same_response kind = same_rated kind ∙ ap (λ code. association_response (subtype_of kind) conf b a code (aid_field aid)) (same_code status)

identified : (s : State) (b : Bssid) (request : AssociationRequest) (o : Option Aid) → IsSomeAnd o (IsMember s b request) → (n : ℕ) × (aid_field o ≡ 32768 + 16384 + n) × (aid_at s b request.sender ≡ Some n)
identified s b request None h = absurd h
identified s b request (Some aid) h = (aid.number, refl, ap aid_of h.row)

module _ (s : State) (confs : List Conf) (conf : Conf) (b : Bssid) (kind : Kind) (request : AssociationRequest) where
  pub association_answered : Sound s → IsSome (station_at s b request.sender) → IsAssociationAnswered (subtype_of kind) s conf b request (association_verdict s confs conf b kind request)
  association_answered sound known =
      let told = association_told s confs conf b kind request sound known in
      record {
        status = told.status;
        deserved = told.deserved;
        aid_field = aid_field told.aid;
        before = told.before;
        frame = told.answer ∙ ap (λ frame. told.before ++ frame ∷ []) (same_response conf b request.sender told.status told.aid kind);
        accepted = λ good. identified (association_verdict s confs conf b kind request).state b request told.aid (told.success good);
        refused = λ bad. ap aid_field (told.refused bad).1;
      }

-- ---- a probe response
abbrev offered : Conf → Bssid → Addr → HwMode → Recipient × Out
offered conf b a mode =
    management_frame 5 b a (
    to_le_bytes w64 0 ++ to_le_bytes w16 conf.beacon_int ++ (1 ∷ 0 ∷ [])
    ++ ((0 ∷ length conf.ssid ∷ conf.ssid) ++ (rates_octets mode ++ channel_octets mode conf.channel)))

same_offer : (conf : Conf) (b : Bssid) (a : Addr) (mode : HwMode) →
    reply_out (record { to = a; bssid = b; body = Probe conf.beacon_int conf.ssid (rates_in mode) (channel_in mode conf.channel) }) ≡ offered conf b a mode
same_offer conf b a A = refl
same_offer conf b a B = refl
same_offer conf b a G = refl

pub probe_answered : (s : State) (conf : Conf) (b : Bssid) (request : ProbeRequest) → AreBytes request.elements → IsProbeFor conf request.elements → (probe_verdict s conf b request).outs ≡ response_frame conf b request.sender ∷ []
probe_answered s conf b request bytes is = (probed s conf b request bytes).answered is ∙ ap (λ frame. frame ∷ []) (same_offer conf b request.sender conf.hw_mode)
