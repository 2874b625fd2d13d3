-- The shapes that a verdict has, taken apart once: what is so of each of them is so of every verdict.
use Rattle.std.proofs.Common.{◌≡◌, ◌≢◌, ◌≤◌, arith, length, ℕ, Bool, true, false, cond, [], ◌∷◌, List, Option, Some, None, ◌⊎◌, inl, inr, refl, sym, ap, subst, ◌∙◌, IsSome, IsSomeAnd}
use Rattle.apd_mlme.proofs.Words.{Add, Addr, Aid, Answer, Associated, Associates, Association, AssociationRequest, Authenticated, Authentication, BROADCAST, BodyIsTrue, Bssid, Change, Clear, Conf, Configure, Contents, Done, Edit, Expire, FinMap, Happening, HasLeft, Heard, INACTIVITY, INVALID_AUTHENTICATION, INVALID_CLASS2_FRAME, INVALID_CLASS3_FRAME, IsAlwaysMade, IsChange, IsDeparture, IsDeserved, IsToAll, Kick, Kind, ListEdit, Names, NoneIsBroadcast, ProbeRequest, Put, Radio, Reason, Reassociation, Refused, Remove, Reply, SetOf, Sound, State, Station, StationRow, StaySound, Success, Verdict, Which, Writes, acceptance_of, addr_cmp, addr_exact, addr_total, aid_at, aid_of, association_of, association_request, association_response, association_status, auth_response, auth_status, auth_verdict, authentication, bssid_cmp, bssid_of, change_of, conf_at, configure_verdict, contains, data_of, deauthentication_of, differ, disassociation_of, eq_by_cmp, first_start, get_inserted, get_removed, heard_verdict, identifier_for, inactivity_of, is_admitted, is_answered, is_some, is_success, kick_by_deauthentication_of, kick_by_disassociation_of, kick_of_all, later_start, list_cmp, list_exact, list_total, meaning, nothing, only_reply, outs_of_drop, outs_of_end, policy_at, policy_length, policy_of, probe_request, probe_response, probe_verdict, put_back, put_station, reassociation_request, record_of, removal, reply_out, sender_of, station_at, station_cmp, tied, unanswered_edit_under, unanswered_kick, uplink, verdict, verdict_under, with_answer, without_current_ap}
use Rattle.std.specs.FinMap as map
use Rattle.apd_base.specs.declared.station.Policy.{Policy as BssPolicy}
use Rattle.apd_frame.specs.Contents.{disassociation, deauthentication}
use Rattle.apd_record.specs.declared.change.Change.TheVariants.{Policy}
use Rattle.apd_event.specs.declared.event.Edit.TheVariants.{Remove as TakeOut}
use Rattle.apd_mlme.specs.rules.Association as rule
use Rattle.apd_mlme.specs.laws.NothingElse as always
use Rattle.apd_mlme.specs.rules.Leaving as leaving
use Rattle.apd_mlme.proofs.AssociationResponseLemmas.{refuses, status_deserved}
use Rattle.apd_mlme.proofs.AuthenticationLemmas.{known_already}
use Rattle.apd_mlme.proofs.CommandLemmas.{by_kick, by_edit, IsMade, new, change_with, edited_sound, edit_length}
use Rattle.apd_mlme.proofs.EnforcementLemmas.{Makes, v}
use Rattle.apd_mlme.proofs.RefusalLemmas.{status_success}
use Rattle.apd_mlme.proofs.StartLemmas.{later_makes, later_sound}

-- no station left by itself, and not all are sent away at once
abbrev pub IsOthers : Happening → Type 0
IsOthers h = ((c : Bssid) (d : Addr) → ¬ (HasLeft h c d)) × ¬ (IsToAll h)

-- a frame of a station, with which it does not leave
abbrev pub IsAsked : Happening → Bssid → Addr → Type 0
IsAsked h b a = (f : Contents) × (h ≡ Heard b f) × (sender_of f ≡ a) × ((d : Addr) → ¬ (IsDeparture f d))

-- a change is of no station's row, and is always made, or changes a state that has the same but for station rows
abbrev pub IsNeeded : State → List Conf → Happening → Change → Type 0
IsNeeded s confs h change =
    ((c : Bssid) (d : Addr) → ¬ (Writes change (StationRow c d)))
    × ((k : FinMap station_cmp Station) → let t = record s { stations = k } in IsAlwaysMade s confs h change ⊎ (meaning change t ≢ t))

-- what an event brings about, but for the answer to a command, and what is known where it does
pub data Shape (s : State) (confs : List Conf) (h : Happening) : Verdict → Type 0 where
  silent : Shape s confs h (nothing s)
  -- one frame, which is so
  told : (reply : Reply) → IsSome (conf_at confs reply.bssid) → BodyIsTrue s reply.bssid reply.to reply.body → (NoneIsBroadcast s h → reply.to ≢ BROADCAST) → Names h reply.bssid reply.to → Shape s confs h (only_reply s reply)
  -- a new station
  admitted : (conf : Conf) (b : Bssid) (request : Authentication) → IsSome (conf_at confs b) → h ≡ Heard b (authentication request) → is_admitted s conf b request ≡ true
      → Shape s confs h (record { state = put_station b request.sender Authenticated s; changes = Put b request.sender Authenticated ∷ []; outs = reply_out (auth_response b request (auth_status s conf b request)) ∷ [] })
  -- a station disassociates, or deauthenticates
  left : (b : Bssid) (a : Addr) → IsSome (conf_at confs b) → HasLeft h b a → IsSome (aid_at s b a) → Shape s confs h (put_back s b a ((Radio b, Remove a) ∷ []))
  gone : (b : Bssid) (a : Addr) → IsSome (conf_at confs b) → HasLeft h b a → IsSome (station_at s b a) → Shape s confs h (leaving.row_drop s b a (removal s b a))
  -- or the access point ends its association, or drops it
  ended : (b : Bssid) (a : Addr) (reason : Reason) → IsSome (conf_at confs b) → IsSome (aid_at s b a) → IsOthers h → Shape s confs h (put_back s b a (outs_of_end b a reason))
  dropped : (b : Bssid) (a : Addr) (reason : Reason) → IsSome (conf_at confs b) → IsSome (station_at s b a) → IsOthers h → Shape s confs h (leaving.row_drop s b a (outs_of_drop s b a reason))
  -- a station with a row associates
  associated : (conf : Conf) (b : Bssid) (kind : Kind) (request : AssociationRequest) (aid : Aid) → IsSome (conf_at confs b) → IsSome (station_at s b request.sender) → identifier_for s b (station_at s b request.sender) ≡ Some aid
      → (asked : IsAsked h b request.sender) → Associates s confs b asked.0 → Shape s confs h (rule.acceptance s confs conf b kind request aid)
  -- all are sent away, or those that an edit or a start denies
  emptied : (b : Bssid) (reason : Reason) (deauth : Bool) → IsSome (conf_at confs b) → IsToAll h × Names h b BROADCAST → Shape s confs h (kick_of_all s b reason deauth)
  enforced : (b : Bssid) (p : BssPolicy) (change : Change) (l : SetOf list_cmp) (q : FinMap bssid_cmp BssPolicy) → IsSome (conf_at confs b) → Makes s b p change l q → (Sound s → StaySound (v s b p change l q).changes s)
      → (IsChange change → length (record_of change) ≤ 14) → IsOthers h → IsNeeded s confs h change → Shape s confs h (v s b p change l q)
  started : (conf : Conf) (b : Bssid) (accept deny : List Addr) → h ≡ Configure b accept deny → is_some (policy_at s b) ≡ false → Shape s confs h (first_start s conf b accept deny)

-- a frame that is not a broadcast is one station's
pub one_station : {A : Type 0} (to : Addr) → eq_by_cmp addr_cmp to BROADCAST ≡ false → to ≡ BROADCAST → A
one_station to e all = differ _ e (ap (λ x. eq_by_cmp addr_cmp x BROADCAST) all ∙ tied addr_total addr_exact BROADCAST)

module _ (s : State) (confs : List Conf) (b : Bssid) (there : IsSome (conf_at confs b)) where
  disassociation_shape : (a : Addr) (reason : Reason) (o : Option Station) → station_at s b a ≡ o → Shape s confs (Heard b (disassociation a reason)) (disassociation_of s b a o)
  disassociation_shape a reason None at = told (leaving.deauthentication b a INVALID_CLASS2_FRAME) there at (λ nobody. nobody.sender) (refl, refl)
  disassociation_shape a reason (Some Authenticated) at = silent
  disassociation_shape a reason (Some (Associated x)) at = left b a there (refl, refl) (ap (λ o. is_some (aid_of o)) at)

  deauthentication_shape : (a : Addr) (reason : Reason) (o : Option Station) → station_at s b a ≡ o → Shape s confs (Heard b (deauthentication a reason)) (deauthentication_of s b a o)
  deauthentication_shape a reason None at = silent
  deauthentication_shape a reason (Some row) at = gone b a there (refl, refl) (ap is_some at)

  data_shape : (a : Addr) (o : Option Station) → station_at s b a ≡ o → Shape s confs (Heard b (uplink a)) (data_of s b a o)
  data_shape a None at = told (leaving.deauthentication b a INVALID_CLASS3_FRAME) there at (λ nobody. nobody.sender) (refl, refl)
  data_shape a (Some Authenticated) at = told (leaving.disassociation b a INVALID_CLASS3_FRAME) there (ap aid_of at) (λ nobody. nobody.sender) (refl, refl)
  data_shape a (Some (Associated x)) at = silent

  pub inactivity_shape : (a : Addr) (o : Option Station) → station_at s b a ≡ o → Shape s confs (Expire b a) (inactivity_of s b a o)
  inactivity_shape a None at = silent
  inactivity_shape a (Some Authenticated) at = dropped b a INVALID_AUTHENTICATION there (ap is_some at) (λ c d own. own, λ all. all)
  inactivity_shape a (Some (Associated x)) at = ended b a INACTIVITY there (ap (λ o. is_some (aid_of o)) at) (λ c d own. own, λ all. all)

  module _ (conf : Conf) where
    auth_shape : (request : Authentication) → Shape s confs (Heard b (authentication request)) (auth_verdict s conf b request)
    auth_shape request =
        let status = auth_status s conf b request in
        let answer = reply_out (auth_response b request status) ∷ [] in
        elim (is_admitted s conf b request) as (λ t. is_admitted s conf b request ≡ t
        → Shape s confs (Heard b (authentication request)) (record { state = cond t (put_station b request.sender Authenticated s) s; changes = cond t (Put b request.sender Authenticated ∷ []) []; outs = answer })) [
          | true ↦ λ e. admitted conf b request there refl e
          | false ↦ λ e. told (auth_response b request status) there (known_already s conf b request e) (λ nobody. nobody.sender) (refl, refl)
        ] refl

    probe_shape : (request : ProbeRequest) → Shape s confs (Heard b (probe_request request)) (probe_verdict s conf b request)
    probe_shape request = elim (is_answered conf request.elements) as (λ t. Shape s confs (Heard b (probe_request request)) (record { state = s; changes = []; outs = cond t (reply_out (probe_response conf b request.sender) ∷ []) [] })) [
      | true ↦ told (probe_response conf b request.sender) there tt (λ nobody. nobody.sender) (refl, refl)
      | false ↦ silent
    ]

    -- an association or a reassociation request
    module _ (h : Happening) (kind : Kind) (request : AssociationRequest) (one : NoneIsBroadcast s h → request.sender ≢ BROADCAST) (asked : IsAsked h b request.sender)
        (accepts : IsSome (station_at s b request.sender) → IsDeserved conf request Success → Associates s confs b asked.0) where
      accepted_shape : IsSome (station_at s b request.sender) → IsDeserved conf request Success → (o : Option Aid) → identifier_for s b (station_at s b request.sender) ≡ o → Shape s confs h (acceptance_of s confs conf b kind request o)
      accepted_shape known good None is = silent
      accepted_shape known good (Some aid) is = associated conf b kind request aid there known is asked (accepts known good)

      named : Names h b request.sender
      named = subst (λ x. Names x b request.sender) (sym asked.1) (refl, asked.2)

      refused_so : (k : Kind) → is_success (association_status conf request) ≡ false → let reply = association_response conf b k request.sender (association_status conf request) None in BodyIsTrue s b request.sender reply.body
      refused_so Association bad = λ good. absurd (refuses (association_status conf request) bad good)
      refused_so Reassociation bad = λ good. absurd (refuses (association_status conf request) bad good)

      association_shape : (o : Option Station) → station_at s b request.sender ≡ o → Shape s confs h (association_of s confs conf b kind request o)
      association_shape None at = told (leaving.deauthentication b request.sender INVALID_CLASS2_FRAME) there at one named
      association_shape (Some row) at =
          let refusal = association_response conf b kind request.sender (association_status conf request) None in
          elim (is_success (association_status conf request)) as (λ t. is_success (association_status conf request) ≡ t → Shape s confs h (cond t (acceptance_of s confs conf b kind request (identifier_for s b (Some row))) (only_reply s refusal))) [
            | true ↦ λ e.
                let good = subst (IsDeserved conf request) (status_success (association_status conf request) e) (status_deserved conf request) in
                accepted_shape (ap is_some at) good (identifier_for s b (Some row)) (ap (identifier_for s b) at)
            | false ↦ λ e. told refusal there (refused_so kind e) one named
          ] refl

    pub heard_shape : conf_at confs b ≡ Some conf → (f : Contents) → Shape s confs (Heard b f) (heard_verdict s confs conf b f)
    heard_shape is (authentication request) = auth_shape request
    heard_shape is (association_request request) =
        association_shape (Heard b (association_request request)) Association request (λ nobody. nobody.sender) (association_request request, refl, refl, λ d own. own)
        (λ known good. (known, subst (λ o. IsSomeAnd o (λ x. IsDeserved x request Success)) (sym is) good)) (station_at s b request.sender) refl
    heard_shape is (reassociation_request request) =
        association_shape (Heard b (reassociation_request request)) Reassociation (without_current_ap request) (λ nobody. nobody.sender) (reassociation_request request, refl, refl, λ d own. own)
        (λ known good. (known, subst (λ o. IsSomeAnd o (λ x. IsDeserved x (without_current_ap request) Success)) (sym is) good)) (station_at s b request.sender) refl
    heard_shape is (probe_request request) = probe_shape request
    heard_shape is (disassociation a reason) = disassociation_shape a reason (station_at s b a) refl
    heard_shape is (deauthentication a reason) = deauthentication_shape a reason (station_at s b a) refl
    heard_shape is (uplink a) = data_shape a (station_at s b a) refl

    pub configure_shape : (accept deny : List Addr) → Shape s confs (Configure b accept deny) (configure_verdict s conf b accept deny)
    configure_shape accept deny =
        elim (is_some (policy_at s b)) as (λ t. is_some (policy_at s b) ≡ t → Shape s confs (Configure b accept deny) (cond t (later_start s conf b) (first_start s conf b accept deny))) [
          | true ↦ λ e. enforced b (policy_of conf) (Policy b (policy_of conf)) s.lists (map.insert s.policies b (policy_of conf)) there (later_makes s conf b e) (later_sound s conf b e) (λ known. omega (arith, policy_length b (policy_of conf) known)) (λ c d own. own, λ all. all)
              (λ c d its. elim its [ inl e ↦ cc | inr e ↦ cc ], λ k. inl (always.started b accept deny (policy_of conf)))
          | false ↦ λ e. started conf b accept deny refl e
        ] refl

  -- ---- control commands, but for their answers
  -- stations are sent away
  module _ (to : Addr) (reason : Reason) (tag : ℕ) where
    abbrev kick : Bool → Happening
    kick t = Kick b to reason t tag

    deauthenticated_shape : to ≢ BROADCAST → (o : Option Station) → station_at s b to ≡ o → Shape s confs (kick true) (kick_by_deauthentication_of s b to reason o)
    deauthenticated_shape one None at = told (leaving.deauthentication b to reason) there at (λ _. one) (refl, refl)
    deauthenticated_shape one (Some row) at = dropped b to reason there (ap is_some at) (λ c d own. own, one)

    disassociated_shape : to ≢ BROADCAST → (o : Option Station) → station_at s b to ≡ o → Shape s confs (kick false) (kick_by_disassociation_of s b to reason o)
    disassociated_shape one None at = told (leaving.disassociation b to reason) there (ap aid_of at) (λ _. one) (refl, refl)
    disassociated_shape one (Some Authenticated) at = told (leaving.disassociation b to reason) there (ap aid_of at) (λ _. one) (refl, refl)
    disassociated_shape one (Some (Associated x)) at = ended b to reason there (ap (λ o. is_some (aid_of o)) at) (λ c d own. own, one)

    pub kicked_shape : (t : Bool) → Shape s confs (kick t) (unanswered_kick s b to reason t)
    kicked_shape =
        by_kick s b to reason (λ t v. Shape s confs (kick t) v) (λ t all. emptied b reason t there (all, (refl, all)))
        (λ e. deauthenticated_shape (λ all. one_station to e all) (station_at s b to) refl) (λ e. disassociated_shape (λ all. one_station to e all) (station_at s b to) refl)

  -- an edit that is made
  module _ (w : Which) (tag : ℕ) where
    edit_needed : (edit : Edit) → IsMade s b w edit → IsNeeded s confs (ListEdit b w edit tag) (change_of b w edit)
    edit_needed (Add a) made = (λ c d e. cc, λ k. inr (λ same. differ (contains s.lists (b, w, a)) made.0 (sym (ap (λ x. contains x.lists (b, w, a)) same) ∙ ap is_some (get_inserted list_total list_exact s.lists (b, w, a) tt))))
    edit_needed (TakeOut a) made = (λ c d e. cc, λ k. inr (λ same. differ (contains s.lists (b, w, a)) (sym (ap (λ x. contains x.lists (b, w, a)) same) ∙ ap is_some (get_removed list_total list_exact s.lists (b, w, a))) made))
    edit_needed Clear made = (λ c d its. (let e = its.1 in cc), λ k. inl (always.cleared b w tag))

    pub edited_shape : (edit : Edit) → IsMade s b w edit → (o : Option BssPolicy) → policy_at s b ≡ o → Shape s confs (ListEdit b w edit tag) (unanswered_edit_under s b w edit o)
    edited_shape edit made None at = silent
    edited_shape edit made (Some p) at =
        enforced b p (change_of b w edit) (new s b w edit).lists s.policies there (change_with s b w p edit) (edited_sound s b w p edit at made) (edit_length b w edit)
        (λ c d own. own, λ all. all) (edit_needed edit made)

-- ---- any event
module _ (s : State) (confs : List Conf) (P : Verdict → Type 0) (more : (tag : ℕ) (answer : Answer) (v : Verdict) → P v → P (with_answer tag answer v)) where
  under_shape : (h : Happening) (o : Option Conf) → conf_at confs (bssid_of h) ≡ o → ((v : Verdict) → Shape s confs h v → P v) → P (verdict_under s confs o h)
  under_shape h None at all = all (nothing s) silent
  under_shape (Heard b f) (Some conf) at all = all _ (heard_shape s confs b (ap is_some at) conf at f)
  under_shape (Kick b to reason deauth tag) (Some conf) at all = more tag Done _ (all _ (kicked_shape s confs b (ap is_some at) to reason tag deauth))
  under_shape (ListEdit b w edit tag) (Some conf) at all =
      by_edit s b w tag P edit (λ _. more tag Done _ (all _ silent)) (λ _. more tag Refused _ (all _ silent))
      (λ made. more tag Done _ (all _ (edited_shape s confs b (ap is_some at) w tag edit made (policy_at s b) refl)))
  under_shape (Expire b a) (Some conf) at all = all _ (inactivity_shape s confs b (ap is_some at) a (station_at s b a) refl)
  under_shape (Configure b accept deny) (Some conf) at all = all _ (configure_shape s confs b (ap is_some at) conf accept deny)

  -- what is so of each shape, and of an answer behind it, is so of the verdict
  pub by_shape : (h : Happening) → ((v : Verdict) → Shape s confs h v → P v) → P (verdict s confs h)
  by_shape h = under_shape h (conf_at confs (bssid_of h)) refl
