-- An authentication request (IEEE Std 802.11-2016, 11.3.4.3 and 12.3.3.2.3): what the destination of
-- an Open System authentication decides.
use Rattle.std.specs.Prelude.{ℕ, ◌+◌, ◌%◌, Bool, not, ◌&&◌, ◌==◌, nat_le, List, [], ◌∷◌, Option, None, Some, is_some, if◌then◌else◌}
use Rattle.std.specs.FinMap as map
use Rattle.apd_base.specs.declared.address.Bssid.{Bssid}
use Rattle.apd_base.specs.declared.station.Policy.{Policy}
use Rattle.apd_base.specs.declared.station.Station.TheVariants.{Authenticated}
use Rattle.apd_base.specs.State.{State, station_at, policy_at, count}
use Rattle.apd_frame.specs.declared.received.Authentication.{Authentication}
use Rattle.apd_frame.specs.declared.codes.Status.{Status}
use Rattle.apd_frame.specs.declared.codes.Status.TheVariants.{RefusedReasonUnspecified, NotSupportedAuthAlgorithm, TransactionSequenceError, DeniedNoMoreStas}
use Rattle.apd_frame.specs.declared.replies.Reply.{Reply}
use Rattle.apd_frame.specs.declared.replies.ReplyBody.TheVariants.{Auth}
use Rattle.apd_conf.specs.declared.conf.Conf.{Conf}
use Rattle.apd_conf.specs.Auth.{allows_open}
use Rattle.apd_record.specs.declared.change.Change.TheVariants.{Put}
use Rattle.apd_table.specs.Allowed.{allowed}
use Rattle.apd_mlme.specs.Outs.{reply_out}
use Rattle.apd_mlme.specs.rules.Refusals.{first_status, is_success}
use Rattle.apd_mlme.specs.Verdict.{Verdict}

-- whether the sender has a row at the BSSID
abbrev pub is_known : State → Bssid → Authentication → Bool
is_known s b request = is_some (station_at s b request.sender)

-- the greatest number of stations that the BSSID's policy lets authenticate
abbrev pub station_limit : Option Policy → ℕ
station_limit None = 0
station_limit (Some policy) = policy.max.number

-- whether the BSSID has as many rows as its policy lets authenticate, or more
abbrev pub is_full : State → Bssid → Bool
is_full s b = nat_le (station_limit (policy_at s b)) (count s b)

-- the reasons to refuse, in the order in which they are looked for (own), with their status codes
abbrev pub refusals : State → Conf → Bssid → Authentication → List (Bool × Status)
refusals s conf b request =
    -- the algorithm is not Open System (0), or that is not configured
    (not ((request.algorithm == 0) && allows_open conf.auth_algs), NotSupportedAuthAlgorithm)
    -- not the first frame of the exchange
    ∷ (not (request.transaction == 1), TransactionSequenceError)
    -- the policy denies the sender
    ∷ (not (allowed s b request.sender), RefusedReasonUnspecified)
    -- a new station, and no room
    ∷ (not (is_known s b request) && is_full s b, DeniedNoMoreStas)
    ∷ []

abbrev pub auth_status : State → Conf → Bssid → Authentication → Status
auth_status s conf b request = first_status (refusals s conf b request)

-- the response: the algorithm of the request, the next number of the exchange, and the status
abbrev pub auth_response : Bssid → Authentication → Status → Reply
auth_response b request status =
    record { to = request.sender; bssid = b; body = Auth request.algorithm ((request.transaction + 1) % 65536) status }

-- a station that is accepted and not in the table gets a row, as authenticated, and every other row is kept; else every
-- row is kept (own: a station in the table stays as it is)
abbrev pub is_admitted : State → Conf → Bssid → Authentication → Bool
is_admitted s conf b request = is_success (auth_status s conf b request) && not (is_known s b request)

abbrev pub auth_verdict : State → Conf → Bssid → Authentication → Verdict
auth_verdict s conf b request = record {
  state =
      if is_admitted s conf b request
      then record s { stations = map.insert s.stations (b, request.sender) Authenticated }
      else s;
  changes = if is_admitted s conf b request then Put b request.sender Authenticated ∷ [] else [];
  outs = reply_out (auth_response b request (auth_status s conf b request)) ∷ [];
}
