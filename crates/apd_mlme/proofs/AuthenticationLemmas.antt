-- What an authentication request leaves.
use Rattle.std.proofs.Common.{◌≡◌, ◌≢◌, ◌⊎◌, ℕ, ◌<◌, ◌≤◌, Bool, true, false, cond, not, ◌&&◌, eqb, [], ◌∷◌, Option, Some, None, inl, inr, refl, sym, ap, subst, ◌∙◌, IsSome, arith}
use Rattle.apd_mlme.proofs.Words.{Addr, Authenticated, Authentication, Bssid, CanPut, Conf, DeniedListenIntervalTooLarge, DeniedNoMoreStas, IsAllowed, IsFirst, IsOpenSystem, IsRoomKept, IsToldTruly, NotSupportedAuthAlgorithm, Policy, Put, RefusedReasonUnspecified, Sound, State, Status, StaySound, Success, TransactionSequenceError, Verdict, aid_at, aid_of, allowed, and_parts, apart, auth_response, auth_status, auth_verdict, both_true, count, differ, eq-eqb, eqb-false, eqb-true, get_insert_other, get_inserted, is_admitted, is_full, is_known, is_some, is_success, leb-false, leb-true, no_value, none_is, not_false, not_yes, one_or_apart, policy_at, put_station, refusals, reply_out, sound_put, station_at, station_exact, station_limit, station_total}
use Rattle.std.specs.FinMap as map
use Rattle.apd_conf.specs.Auth.{allows_open}
use Rattle.apd_mlme.specs.laws.Authentication.{IsDeserved}
use Rattle.apd_mlme.proofs.RefusalLemmas.{by_lines, not_and, not_less, status_success}

room : (o : Option Policy) (n : ℕ) → n < station_limit o → n < 2007
room None n few = absurd (omega arith)
room (Some p) n few = let high = p.max.in_range in omega arith

module _ (s : State) (conf : Conf) (b : Bssid) (request : Authentication) where
  abbrev admitted : Bool
  admitted = is_admitted s conf b request

  abbrev new : State
  new = put_station b request.sender Authenticated s

  -- what each status says of the request
  abbrev Deserves : Status → Type 0
  Deserves = IsDeserved s conf b request

  -- no room is no reason for a station that is known
  with_room : (known : Bool) → is_known s b request ≡ known → (not known && is_full s b) ≡ false → IsSome (station_at s b request.sender) ⊎ (count s b < station_limit (policy_at s b))
  with_room true e f = inl e
  with_room false e f = inr (leb-false (station_limit (policy_at s b)) (count s b) f)

  told_deserved : Deserves (auth_status s conf b request)
  told_deserved =
      let zero = eqb request.algorithm 0 in
      let may = allows_open conf.auth_algs in
      by_lines Deserves (refusals s conf b request) (
        λ e is. differ (zero && may) (not_yes (zero && may) e) (both_true zero may (eq-eqb request.algorithm 0 is.0) is.1),
        λ opens.
            let parts = and_parts zero may (not_false (zero && may) opens) in
            let system : IsOpenSystem conf request = (eqb-true request.algorithm 0 parts.0, parts.1) in (
              λ e. (system, eqb-false request.transaction 1 (not_yes (eqb request.transaction 1) e)),
              λ e.
                  let first : IsFirst conf request = (system, eqb-true request.transaction 1 (not_false (eqb request.transaction 1) e)) in (
                    λ denied. (first, λ is. differ (allowed s b request.sender) (not_yes (allowed s b request.sender) denied) is),
                    λ let_in.
                        let asks : IsAllowed s conf b request = (first, not_false (allowed s b request.sender) let_in) in (
                          λ full.
                              let new_and_full = and_parts (not (is_known s b request)) (is_full s b) full in
                              (asks, no_value (station_at s b request.sender) (not_yes (is_known s b request) new_and_full.0), leb-true (station_limit (policy_at s b)) (count s b) new_and_full.1),
                          λ e. (asks, with_room (is_known s b request) refl e),
                        ),
                  ),
            ),
      )

  can_put : IsSome (policy_at s b) → admitted ≡ true → CanPut s b request.sender Authenticated
  can_put policy e =
      let parts = and_parts (is_success (auth_status s conf b request)) (not (is_known s b request)) e in
      let good : Deserves Success = subst Deserves (status_success (auth_status s conf b request) parts.0) told_deserved in
      record {
        identified = tt;
        allowed = (policy, good.0.1);
        room = elim good.1 [ inl known ↦ inl known | inr few ↦ inr (room (policy_at s b) (count s b) few) ];
      }

  pub admitted_sound : IsSome (policy_at s b) → admitted ≡ true → Sound s → StaySound (Put b request.sender Authenticated ∷ []) s
  admitted_sound policy e sound = (sound, sound_put s b request.sender Authenticated sound (can_put policy e))

  -- a station that is admitted had no identifier, and has none
  pub admitted_aid : admitted ≡ true → (c : Bssid) (d : Addr) → aid_at new c d ≡ aid_at s c d
  admitted_aid e c d =
      let parts = and_parts (is_success (auth_status s conf b request)) (not (is_known s b request)) e in
      let key : Bssid × Addr = (b, request.sender) in
      elim (one_or_apart station_total station_exact (c, d) key) [
        | inl same ↦ ap (λ k. aid_of (map.get new.stations k)) same ∙ ap aid_of (get_inserted station_total station_exact s.stations key Authenticated)
            ∙ sym (ap aid_of (no_value (station_at s b request.sender) (not_yes (is_known s b request) parts.1))) ∙ ap (λ k. aid_of (map.get s.stations k)) (sym same)
        | inr apart ↦ ap aid_of (get_insert_other station_total station_exact s.stations key Authenticated (c, d) apart)
      ]

  -- one that is not admitted, and is told success, was known before
  pub known_already : admitted ≡ false → auth_status s conf b request ≡ Success → IsSome (station_at s b request.sender)
  known_already e good = not_false (is_known s b request) (not_and (is_success (auth_status s conf b request)) (not (is_known s b request)) (ap is_success good) e)

  abbrev decided : Bool → Verdict
  decided t = record { state = cond t new s; changes = cond t (Put b request.sender Authenticated ∷ []) []; outs = reply_out (auth_response b request (auth_status s conf b request)) ∷ [] }

  pub auth_told : IsToldTruly s conf b request (auth_verdict s conf b request)
  auth_told = elim admitted as (λ t. admitted ≡ t → IsToldTruly s conf b request (decided t)) [
    | true ↦ λ e.
        let parts = and_parts (is_success (auth_status s conf b request)) (not (is_known s b request)) e in
        record {
          status = auth_status s conf b request;
          answer = refl;
          deserved = told_deserved;
          success = λ _. ap is_some (get_inserted station_total station_exact s.stations (b, request.sender) Authenticated);
          refused = λ bad. absurd (bad (status_success (auth_status s conf b request) parts.0));
          stays = λ known. differ (is_known s b request) (not_yes (is_known s b request) parts.1) known;
          others = λ c d other. get_insert_other station_total station_exact s.stations (b, request.sender) Authenticated (c, d)
              (apart station_total station_exact (c, d) (b, request.sender) (λ same. other (ap (λ k. k.0) same, ap (λ k. k.1) same)));
          lists = refl;
          policies = refl;
          cursors = refl;
        }
    | false ↦ λ e. record {
      status = auth_status s conf b request;
      answer = refl;
      deserved = told_deserved;
      success = known_already e;
      refused = λ bad. refl;
      stays = λ known. refl;
      others = λ c d other. refl;
      lists = refl;
      policies = refl;
      cursors = refl;
    }
  ] refl

  -- ---- room
  -- whoever asks as it must, is allowed and finds room deserves success alone
  one_status : (status : Status) → Deserves status → IsAllowed s conf b request → count s b < station_limit (policy_at s b) → status ≡ Success
  one_status Success so may few = refl
  one_status NotSupportedAuthAlgorithm so may few = absurd (so may.0.0)
  one_status TransactionSequenceError so may few = absurd (so.1 may.0.1)
  one_status RefusedReasonUnspecified so may few = absurd (so.1 may.1)
  one_status DeniedNoMoreStas so may few = absurd (not_less (count s b) (station_limit (policy_at s b)) few so.2)
  one_status DeniedListenIntervalTooLarge so may few = absurd so

  -- a new station that finds none doesn't deserve it
  no_success : station_limit (policy_at s b) ≤ count s b → station_at s b request.sender ≡ None → (status : Status) → Deserves status → status ≢ Success
  no_success many none status so good = elim (subst Deserves good so).1 [
    | inl known ↦ none_is (station_at s b request.sender) none known
    | inr few ↦ not_less (count s b) (station_limit (policy_at s b)) few many
  ]

  pub room_kept : (policy : Policy) → policy_at s b ≡ Some policy → IsRoomKept s conf b policy request (auth_verdict s conf b request)
  room_kept policy is = record {
    full = λ many none. auth_told.refused (no_success (subst (λ o. station_limit o ≤ count s b) (sym is) many) none auth_told.status auth_told.deserved);
    room = λ few may. auth_told.success (one_status auth_told.status auth_told.deserved may (subst (λ o. count s b < station_limit o) (sym is) few));
  }
