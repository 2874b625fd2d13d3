-- What an association or a reassociation response tells its station, and what leaves at each radio.
use Rattle.std.proofs.Common.{◌≡◌, ◌≢◌, ℕ, Bool, true, false, cond, not, ◌&&◌, [], ◌++◌, List, Option, Some, None, inl, inr, refl, sym, ap, subst, ◌∙◌, IsSome, ◌||◌, ◌∷◌, append-nil}
use Rattle.apd_mlme.proofs.Words.{Addr, Aid, AllByRecursion, Associated, AssociationRequest, Authenticated, Bssid, Conf, DeniedListenIntervalTooLarge, DeniedNoMoreStas, FinMap, Install, IsAnsweredTruly, IsDeserved, IsForNetwork, IsJoined, IsMember, IsNextFree, IsOfEnd, Kind, NotSupportedAuthAlgorithm, Out, Radio, Recipient, RefusedReasonUnspecified, Remove, SSID, Sound, State, Station, StationNumber, Status, Success, TransactionSequenceError, UNSPECIFIED, Verdict, acceptance, acceptance_of, addr_cmp, addr_exact, addr_total, aid_at, aid_of, apart, association_of, association_refusals, association_response, association_status, association_verdict, both_true, bssid_cmp, bssid_exact, bssid_total, bssids_elsewhere, bytes_eq-Decides, conf_at, cursor_at, differ, disassociation, disassociation_frame, either, eq_by_cmp, first_false, first_with, get_insert_other, get_inserted, identifier_for, installation, is_named, is_same, is_some, is_success, last_given, ltb-false, ltb-true, none_is, not_false, not_yes, number_or_0, one_or_apart, only_reply, option_map, outs_elsewhere, outs_of_end, outs_to, remaining_row, reply_out, row_of, same_bssid, second_false, station_at, tied, well_formed}
use Rattle.std.specs.FinMap as map
use Rattle.apd_frame.specs.declared.element.TheConstants.{SUPPORTED_RATES}
use Rattle.apd_mlme.specs.rules.Identifiers.{number_of}
use Rattle.apd_mlme.proofs.AssociationLemmas.{others, cleared, cleared_station, cleared_here, cleared_elsewhere, own_or_free, own_kept, associated_station, not_here}
use Rattle.apd_mlme.proofs.ElsewhereLemmas.{is_bssid_among, among_elsewhere, among-filter}
use Rattle.apd_mlme.proofs.IdentifierLemmas.{is_next_free, identifier_is_there}
use Rattle.apd_mlme.proofs.RefusalLemmas.{by_lines, status_success, not_less}
use Rattle.apd_mlme.proofs.RowLemmas.{turned_not}
use Rattle.std.specs.Prelude.{map as list_map, filter}
use Rattle.std.specs.List.{flat_map}
use Rattle.apd_mlme.proofs.OutsLemmas.{outs_to-append}
use Rattle.apd_mlme.proofs.RisingLemmas.{Apart}

-- ---- what is asked
named_so : (conf : Conf) (o : Option (List ℕ)) → is_named conf o ≡ true → o ≡ Some conf.ssid
named_so conf None e = cc
named_so conf (Some ssid) e = ap Some ((bytes_eq-Decides ssid conf.ssid).0 e)

module _ (conf : Conf) (request : AssociationRequest) where
  -- the reasons to refuse, in the order in which they are looked for
  abbrev whole : Bool
  whole = well_formed request.elements

  abbrev named : Bool
  named = is_named conf (first_with SSID request.elements)

  abbrev rated : Bool
  rated = is_some (first_with SUPPORTED_RATES request.elements)

  -- what each status says of the request
  abbrev Deserves : Status → Type 0
  Deserves = IsDeserved conf request

  pub status_deserved : Deserves (association_status conf request)
  status_deserved =
      by_lines Deserves (association_refusals conf request) (
        λ cut may. differ whole (not_yes whole cut) may.whole,
        λ is_whole. (
          λ other may. differ named (not_yes named other) (ap (is_named conf) may.named ∙ (bytes_eq-Decides conf.ssid conf.ssid).1 refl),
          λ is_named_so. (
            λ none may. differ rated (not_yes rated none) may.rated,
            λ is_rated.
                let may : IsForNetwork conf request = record {
                  whole = not_false whole is_whole;
                  named = named_so conf (first_with SSID request.elements) (not_false named is_named_so);
                  rated = not_false rated is_rated;
                } in (
                  λ e. (may, ltb-true conf.max_listen_interval request.listen_interval e),
                  λ e. (may, ltb-false conf.max_listen_interval request.listen_interval e),
                ),
          ),
        ),
      )

-- ---- a station's rows at the other BSSIDs
module _ (s : State) (b : Bssid) (a : Addr) where
  cleared_as : Sound s → (c : Bssid) → eq_by_cmp bssid_cmp b c ≡ false → (o : Option Station) → station_at s c a ≡ o →
      option_map (λ x. cond (is_bssid_among c (others s b a) && eq_by_cmp addr_cmp a a) Authenticated x) o ≡ remaining_row o
  cleared_as sound c other None at = refl
  cleared_as sound c other (Some Authenticated) at = ap Some (either (is_bssid_among c (others s b a) && eq_by_cmp addr_cmp a a) Authenticated)
  cleared_as sound c other (Some (Associated x)) at =
      let known : is_some (aid_at s c a) ≡ true = ap (λ o. is_some (aid_of o)) at in
      let policy = sound.stations_have_policy c a (ap is_some at) in
      let among : is_bssid_among c (others s b a) ≡ true = among_elsewhere s b a c ∙ (λ i. (not (other i) && known i) && policy i) in
      ap (λ t. Some (cond t Authenticated (Associated x))) (both_true (is_bssid_among c (others s b a)) (eq_by_cmp addr_cmp a a) among (tied addr_total addr_exact a))

  pub cleared_row : Sound s → (c : Bssid) → eq_by_cmp bssid_cmp b c ≡ false → station_at (cleared s b a) c a ≡ remaining_row (station_at s c a)
  cleared_row sound c other = cleared_station s b a c a ∙ cleared_as sound c other (station_at s c a) refl

  pub cleared_others : (c : Bssid) (d : Addr) → d ≢ a → station_at (cleared s b a) c d ≡ station_at s c d
  cleared_others c d ne = cleared_station s b a c d ∙ turned_not _ (station_at s c d) (second_false (is_bssid_among c (others s b a)) (eq_by_cmp addr_cmp d a) (apart addr_total addr_exact d a ne))

-- ---- a request that is accepted
module _ (s : State) (confs : List Conf) (conf : Conf) (b : Bssid) (kind : Kind) (request : AssociationRequest) (sound : Sound s) (aid : Aid) (own : identifier_for s b (station_at s b request.sender) ≡ Some aid) where
  abbrev a : Addr
  a = request.sender

  abbrev answered : Verdict
  answered = acceptance s confs conf b kind request aid

  pub row_here : station_at answered.state b a ≡ Some (row_of request aid)
  row_here =
      associated_station s confs conf b kind request aid b a
      ∙ ap (λ t. cond t (Some (row_of request aid)) (station_at (cleared s b a) b a)) (both_true (eq_by_cmp bssid_cmp b b) (eq_by_cmp addr_cmp a a) (tied bssid_total bssid_exact b) (tied addr_total addr_exact a))

  pub row_elsewhere : (c : Bssid) → eq_by_cmp bssid_cmp c b ≡ false → (d : Addr) → station_at answered.state c d ≡ station_at (cleared s b a) c d
  row_elsewhere c other d =
      associated_station s confs conf b kind request aid c d
      ∙ ap (λ t. cond t (Some (row_of request aid)) (station_at (cleared s b a) c d)) (first_false (eq_by_cmp bssid_cmp c b) (eq_by_cmp addr_cmp d a) other)

  row_of_another : (c : Bssid) (d : Addr) → eq_by_cmp addr_cmp d a ≡ false → station_at answered.state c d ≡ station_at (cleared s b a) c d
  row_of_another c d other =
      associated_station s confs conf b kind request aid c d
      ∙ ap (λ t. cond t (Some (row_of request aid)) (station_at (cleared s b a) c d)) (second_false (eq_by_cmp bssid_cmp c b) (eq_by_cmp addr_cmp d a) other)

  member : IsMember answered.state b request aid
  member = record {
    row = row_here;
    nobody_else = λ d h. elim (one_or_apart addr_total addr_exact d a) [
      | inl same ↦ same
      | inr other ↦ sym (own_or_free s b a sound aid (station_at s b a) refl own d (sym (ap aid_of (row_of_another b d other ∙ cleared_here s b a d)) ∙ h))
    ];
    nowhere_else = λ c h. elim (one_or_apart bssid_total bssid_exact c b) [
      | inl same ↦ same
      | inr other ↦ none_is (aid_at answered.state c a) (ap aid_of (row_elsewhere c other a) ∙ cleared_elsewhere s b a sound c (apart bssid_total bssid_exact b c (λ e. differ (eq_by_cmp bssid_cmp c b) other (ap (λ x. eq_by_cmp bssid_cmp x b) (sym e) ∙ tied bssid_total bssid_exact b)))) h
    ];
  }

  pub next_told : aid_at s b a ≡ None → (o : Option Station) → station_at s b a ≡ o → identifier_for s b o ≡ Some aid → IsNextFree s b aid.number
  next_told none None at is = is_next_free s b aid is
  next_told none (Some Authenticated) at is = is_next_free s b aid is
  next_told none (Some (Associated x)) at is = none_is (aid_at s b a) none (ap (λ o. is_some (aid_of o)) at)

  -- the identifier that was given last
  abbrev cursors_by : Bool → FinMap bssid_cmp StationNumber
  cursors_by t = cond t s.cursors (map.insert s.cursors b (number_of aid))

  pub last_told : aid_at s b a ≡ None → last_given answered.state b ≡ aid.number
  last_told none =
      ap (λ o. number_or_0 (map.get (cursors_by (is_some o)) b)) none
      ∙ ap number_or_0 (get_inserted bssid_total bssid_exact s.cursors b (number_of aid))

  pub cursors_kept : IsSome (aid_at s b a) → answered.state.cursors ≡ s.cursors
  cursors_kept known = ap cursors_by known

  pub cursor_elsewhere : (c : Bssid) → eq_by_cmp bssid_cmp c b ≡ false → cursor_at answered.state c ≡ cursor_at s c
  cursor_elsewhere c other =
      elim (is_some (aid_at s b a)) as (λ t. map.get (cursors_by t) c ≡ cursor_at s c) [
        | true ↦ refl
        | false ↦ get_insert_other bssid_total bssid_exact s.cursors b (number_of aid) c other
      ]

  pub told_accepted : association_status conf request ≡ Success → IsAnsweredTruly s conf b kind request answered
  told_accepted good = record {
    status = Success;
    aid = Some aid;
    before = outs_elsewhere confs a (bssids_elsewhere s b a) ++ installation s b a aid;
    answer = refl;
    success = λ _. member;
    deserved = subst (IsDeserved conf request) good (status_deserved conf request);
    kept = λ _ known. ap aid_of row_here ∙ sym (own_kept s b a aid (station_at s b a) refl own known);
    next = λ _ none. next_told none (station_at s b a) refl own;
    elsewhere = λ _ c ne. row_elsewhere c (apart bssid_total bssid_exact c b ne) a ∙ cleared_row s b a sound c (apart bssid_total bssid_exact b c (λ e. ne (sym e)));
    refused = λ bad. absurd (bad refl);
    others = λ c d ne. row_of_another c d (apart addr_total addr_exact d a ne) ∙ cleared_others s b a c d ne;
    lists = refl;
    policies = refl;
    given = λ _ none. last_told none;
    not_given = λ known. cursors_kept known;
    other_cursors = λ c ne. cursor_elsewhere c (apart bssid_total bssid_exact c b ne);
  }

-- ---- any request of a station with a row
pub refuses : (status : Status) → is_success status ≡ false → status ≡ Success → ⊥
refuses status e h = success_is_not (is_success status) e (ap is_success h)
  where
    success_is_not : (t : Bool) → t ≡ false → t ≡ true → ⊥
    success_is_not t f h = cc

module _ (s : State) (confs : List Conf) (conf : Conf) (b : Bssid) (kind : Kind) (request : AssociationRequest) (sound : Sound s) where
  told_refused : is_success (association_status conf request) ≡ false → IsAnsweredTruly s conf b kind request (only_reply s (association_response conf b kind request.sender (association_status conf request) None))
  told_refused bad = record {
    status = association_status conf request;
    aid = None;
    before = [];
    answer = refl;
    success = λ good. absurd (refuses (association_status conf request) bad good);
    deserved = status_deserved conf request;
    kept = λ good. absurd (refuses (association_status conf request) bad good);
    next = λ good. absurd (refuses (association_status conf request) bad good);
    elsewhere = λ good. absurd (refuses (association_status conf request) bad good);
    refused = λ _. (refl, refl, refl);
    others = λ c d ne. refl;
    lists = refl;
    policies = refl;
    given = λ good. absurd (refuses (association_status conf request) bad good);
    not_given = λ _. refl;
    other_cursors = λ c ne. refl;
  }

  told_known : association_status conf request ≡ Success → (o : Option Aid) → identifier_for s b (station_at s b request.sender) ≡ o → IsSome o → IsAnsweredTruly s conf b kind request (acceptance_of s confs conf b kind request o)
  told_known good None is known = cc
  told_known good (Some aid) is known = told_accepted s confs conf b kind request sound aid is good

  told_row : (o : Option Station) → station_at s b request.sender ≡ o → IsSome o → IsAnsweredTruly s conf b kind request (association_of s confs conf b kind request o)
  told_row None at known = cc
  told_row (Some row) at known =
      elim (is_success (association_status conf request)) as (λ t. is_success (association_status conf request) ≡ t → IsAnsweredTruly s conf b kind request (cond t (acceptance_of s confs conf b kind request (identifier_for s b (Some row))) (only_reply s (association_response conf b kind request.sender (association_status conf request) None)))) [
        | true ↦ λ e. told_known (status_success (association_status conf request) e) (identifier_for s b (Some row)) (ap (identifier_for s b) at) (identifier_is_there s b sound request.sender (Some row) at refl)
        | false ↦ λ e. told_refused e
      ] refl

  pub association_told : IsSome (station_at s b request.sender) → IsAnsweredTruly s conf b kind request (association_verdict s confs conf b kind request)
  association_told known = told_row (station_at s b request.sender) refl known

-- ---- the ends of an association at some BSSIDs, at one radio
module _ (c : Bssid) (a : Addr) where
  abbrev end_at : Bssid → List (Recipient × Out)
  end_at x = outs_of_end x a UNSPECIFIED

  -- those of the outs that are for the radio, where one is for it or not
  abbrev with_end : Bssid → List Bssid → Bool → List Out
  with_end x bssids t =
      let rest = filter (λ z. is_same (Radio c) z.0) (flat_map end_at bssids) in
      let told = cond t (reply_out (disassociation x a UNSPECIFIED) ∷ rest) rest in
      list_map (λ (z : Recipient × Out). z.1) (cond t ((Radio x, Remove a) ∷ told) told)

  no_end : (bssids : List Bssid) → is_bssid_among c bssids ≡ false → outs_to (Radio c) (flat_map end_at bssids) ≡ []
  no_end [] e = refl
  no_end (x ∷ bssids) e =
      elim (eq_by_cmp bssid_cmp c x) as (λ t. (t || is_bssid_among c bssids) ≡ false → with_end x bssids t ≡ []) [
        | true ↦ λ e. cc
        | false ↦ λ e. no_end bssids e
      ] e

  -- where none is there twice
  pub ends_at : (bssids : List Bssid) → Apart bssids → outs_to (Radio c) (flat_map end_at bssids) ≡ cond (is_bssid_among c bssids) (Remove a ∷ (reply_out (disassociation c a UNSPECIFIED)).1 ∷ []) []
  ends_at [] apart = refl
  ends_at (x ∷ bssids) apart =
      elim (eq_by_cmp bssid_cmp c x) as (λ t. eq_by_cmp bssid_cmp c x ≡ t → with_end x bssids t ≡ cond (t || is_bssid_among c bssids) (Remove a ∷ (reply_out (disassociation c a UNSPECIFIED)).1 ∷ []) []) [
        | true ↦ λ e.
            let same = same_bssid x c e in
            (λ i. Remove a ∷ (reply_out (disassociation (sym same i) a UNSPECIFIED)).1 ∷ no_end bssids (ap (λ y. is_bssid_among y bssids) same ∙ apart.0) i)
        | false ↦ λ e. ends_at bssids apart.1
      ] refl

  ends_alone : (bssids : List Bssid) → AllByRecursion (IsOfEnd c a) (outs_to (Radio c) (flat_map end_at bssids))
  ends_alone [] = tt
  ends_alone (x ∷ bssids) =
      elim (eq_by_cmp bssid_cmp c x) as (λ t. eq_by_cmp bssid_cmp c x ≡ t → AllByRecursion (IsOfEnd c a) (with_end x bssids t)) [
        | true ↦ λ e. (inl refl, (inr (ap (λ y. (disassociation_frame y a 1).1) (sym (same_bssid x c e))), ends_alone bssids))
        | false ↦ λ e. ends_alone bssids
      ] refl

-- ---- one out of another radio, or of this one
module _ (b : Bssid) (out : Out) where
  here : outs_to (Radio b) ((Radio b, out) ∷ []) ≡ out ∷ []
  here = ap (λ t. list_map (λ (z : Recipient × Out). z.1) (cond t ((Radio b, out) ∷ []) [])) (tied bssid_total bssid_exact b)

  not_there : (c : Bssid) → eq_by_cmp bssid_cmp c b ≡ false → outs_to (Radio c) ((Radio b, out) ∷ []) ≡ []
  not_there c other = ap (λ t. list_map (λ (z : Recipient × Out). z.1) (cond t ((Radio b, out) ∷ []) [])) other

module _ (s : State) (confs : List Conf) (conf : Conf) (b : Bssid) (kind : Kind) (request : AssociationRequest) (sound : Sound s) where
  abbrev asker : Addr
  asker = request.sender

  module _ (aid : Aid) (own : identifier_for s b (station_at s b asker) ≡ Some aid) where
    abbrev ends : List (Recipient × Out)
    ends = outs_elsewhere confs asker (bssids_elsewhere s b asker)

    abbrev taken_in : List (Recipient × Out)
    taken_in = installation s b asker aid

    abbrev response : Recipient × Out
    response = reply_out (association_response conf b kind asker Success (Some aid))

    at_radio : (r : Recipient) → outs_to r (acceptance s confs conf b kind request aid).outs ≡ (outs_to r ends ++ outs_to r taken_in) ++ outs_to r (response ∷ [])
    at_radio r = outs_to-append r (ends ++ taken_in) (response ∷ []) ∙ ap (λ zs. zs ++ outs_to r (response ∷ [])) (outs_to-append r ends taken_in)

    -- the station's own BSSID is none of the others
    no_end_here : outs_to (Radio b) ends ≡ []
    no_end_here =
        no_end b asker (filter (λ x. is_some (conf_at confs x)) (bssids_elsewhere s b asker))
        (among-filter (λ x. is_some (conf_at confs x)) b (bssids_elsewhere s b asker) ∙ second_false (is_some (conf_at confs b)) (is_bssid_among b (bssids_elsewhere s b asker)) (not_here s b asker))

    at_this : (zs : List Out) → outs_to (Radio b) taken_in ≡ zs → outs_to (Radio b) (acceptance s confs conf b kind request aid).outs ≡ zs ++ response.1 ∷ []
    at_this zs taken =
        at_radio (Radio b)
        ∙ ap (λ ys. (ys ++ outs_to (Radio b) taken_in) ++ outs_to (Radio b) (response ∷ [])) no_end_here
        ∙ ap (λ ys. ys ++ outs_to (Radio b) (response ∷ [])) taken
        ∙ ap (λ ys. zs ++ ys) (here b response.1)

    pub at_anew : aid_at s b asker ≡ None → outs_to (Radio b) (acceptance s confs conf b kind request aid).outs ≡ Install asker aid ∷ response.1 ∷ []
    at_anew none = at_this (Install asker aid ∷ []) (ap (λ o. outs_to (Radio b) (cond (is_some o) [] ((Radio b, Install asker aid) ∷ []))) none ∙ here b (Install asker aid))

    pub at_again : IsSome (aid_at s b asker) → outs_to (Radio b) (acceptance s confs conf b kind request aid).outs ≡ response.1 ∷ []
    at_again known = at_this [] (ap (λ t. outs_to (Radio b) (cond t [] ((Radio b, Install asker aid) ∷ []))) known)

    pub at_other : (c : Bssid) → eq_by_cmp bssid_cmp c b ≡ false → outs_to (Radio c) (acceptance s confs conf b kind request aid).outs ≡ outs_to (Radio c) ends
    at_other c other =
        let none_taken : outs_to (Radio c) taken_in ≡ [] =
        elim (is_some (aid_at s b asker)) as (λ t. outs_to (Radio c) (cond t [] ((Radio b, Install asker aid) ∷ [])) ≡ []) [ true ↦ refl | false ↦ not_there b (Install asker aid) c other ] in
        at_radio (Radio c)
        ∙ ap (λ ys. (outs_to (Radio c) ends ++ ys) ++ outs_to (Radio c) (response ∷ [])) none_taken
        ∙ ap (λ ys. (outs_to (Radio c) ends ++ []) ++ ys) (not_there b response.1 c other)
        ∙ append-nil (outs_to (Radio c) ends ++ [])
        ∙ append-nil (outs_to (Radio c) ends)

    joined : IsJoined s b asker request.capability request.listen_interval (acceptance s confs conf b kind request aid)
    joined = record {
      aid = aid;
      response = response.1;
      row = row_here s confs conf b kind request sound aid own;
      anew = at_anew;
      again = at_again;
      elsewhere = λ c ne. subst (AllByRecursion (IsOfEnd c asker)) (sym (at_other c (apart bssid_total bssid_exact c b ne))) (ends_alone c asker (filter (λ x. is_some (conf_at confs x)) (bssids_elsewhere s b asker)));
    }

  -- ---- any request that deserves success
  one_status : (status : Status) → IsDeserved conf request status → IsDeserved conf request Success → status ≡ Success
  one_status Success so good = refl
  one_status RefusedReasonUnspecified so good = absurd (so good.0)
  one_status DeniedListenIntervalTooLarge so good = absurd (not_less conf.max_listen_interval request.listen_interval so.1 good.1)
  one_status NotSupportedAuthAlgorithm so good = absurd so
  one_status TransactionSequenceError so good = absurd so
  one_status DeniedNoMoreStas so good = absurd so

  joined_as : (o : Option Aid) → identifier_for s b (station_at s b asker) ≡ o → IsSome o → IsJoined s b asker request.capability request.listen_interval (acceptance_of s confs conf b kind request o)
  joined_as None is known = cc
  joined_as (Some aid) is known = joined aid is

  joined_row : association_status conf request ≡ Success → (o : Option Station) → station_at s b asker ≡ o → IsSome o → IsJoined s b asker request.capability request.listen_interval (association_of s confs conf b kind request o)
  joined_row good None at known = cc
  joined_row good (Some row) at known =
      subst (λ t. IsJoined s b asker request.capability request.listen_interval (cond t (acceptance_of s confs conf b kind request (identifier_for s b (Some row))) (only_reply s (association_response conf b kind asker (association_status conf request) None))))
      (sym (ap is_success good))
      (joined_as (identifier_for s b (Some row)) (ap (identifier_for s b) at) (identifier_is_there s b sound asker (Some row) at refl))

  pub association_joined : IsSome (station_at s b asker) → IsDeserved conf request Success → IsJoined s b asker request.capability request.listen_interval (association_verdict s confs conf b kind request)
  association_joined known good = joined_row (one_status (association_status conf request) (status_deserved conf request) good) (station_at s b asker) refl known
