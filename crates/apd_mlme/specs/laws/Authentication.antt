-- What an authentication response tells its station, and how many stations a BSSID lets authenticate (own).
use Rattle.std.specs.Prelude.{◌≡◌, ◌≢◌, ◌<◌, ◌≤◌, ◌⊎◌, [], ◌∷◌, None, IsSome, IsTrue}
use Rattle.apd_base.specs.declared.address.Addr.{Addr}
use Rattle.apd_base.specs.declared.address.Bssid.{Bssid}
use Rattle.apd_base.specs.State.{State, station_at, policy_at, count}
use Rattle.apd_conf.specs.declared.conf.Conf.{Conf}
use Rattle.apd_conf.specs.Auth.{allows_open}
use Rattle.apd_frame.specs.declared.received.Authentication.{Authentication}
use Rattle.apd_frame.specs.declared.codes.Status.{Status}
use Rattle.apd_frame.specs.declared.codes.Status.TheVariants.{Success, RefusedReasonUnspecified, NotSupportedAuthAlgorithm, TransactionSequenceError, DeniedNoMoreStas, DeniedListenIntervalTooLarge}
use Rattle.apd_table.specs.Allowed.{allowed}
use Rattle.apd_mlme.specs.rules.Authentication.{auth_response, station_limit}
use Rattle.apd_mlme.specs.Outs.{reply_out}
use Rattle.apd_mlme.specs.Verdict.{Verdict}
use Rattle.apd_base.specs.declared.station.Policy.{Policy}

-- a request for Open System (0), which is configured
abbrev pub IsOpenSystem : Conf → Authentication → Type 0
IsOpenSystem conf request = (request.algorithm ≡ 0) × IsTrue (allows_open conf.auth_algs)

-- the first frame of its exchange
abbrev pub IsFirst : Conf → Authentication → Type 0
IsFirst conf request = IsOpenSystem conf request × (request.transaction ≡ 1)

-- and from a station that the policy allows
abbrev pub IsAllowed : State → Conf → Bssid → Authentication → Type 0
IsAllowed s conf b request = IsFirst conf request × IsTrue (allowed s b request.sender)

-- what a status says of the request; none is told for two reasons
abbrev pub IsDeserved : State → Conf → Bssid → Authentication → Status → Type 0
IsDeserved s conf b request NotSupportedAuthAlgorithm = ¬ (IsOpenSystem conf request)
IsDeserved s conf b request TransactionSequenceError = IsOpenSystem conf request × (request.transaction ≢ 1)
IsDeserved s conf b request RefusedReasonUnspecified = IsFirst conf request × ¬ (IsTrue (allowed s b request.sender))
-- the station is new, and as many have rows as the policy lets authenticate, or more
IsDeserved s conf b request DeniedNoMoreStas =
    IsAllowed s conf b request × (station_at s b request.sender ≡ None) × (station_limit (policy_at s b) ≤ count s b)
-- it is not, or there is room
IsDeserved s conf b request Success =
    IsAllowed s conf b request × (IsSome (station_at s b request.sender) ⊎ (count s b < station_limit (policy_at s b)))
-- the request has no listen interval
IsDeserved s conf b request DeniedListenIntervalTooLarge = ⊥

-- one frame leaves, the response to the sender, and it says how the sender stands
pub record IsToldTruly (s : State) (conf : Conf) (b : Bssid) (request : Authentication) (v : Verdict) : Type 0 where
  pub status : Status
  pub answer : v.outs ≡ reply_out (auth_response b request status) ∷ []
  -- what it says of the request is so: each status has its reason, and success is told where none of them holds
  pub deserved : IsDeserved s conf b request status
  -- success is told to a station that is in the table then
  pub success : status ≡ Success → IsSome (station_at v.state b request.sender)
  -- anything else leaves every row as it was
  pub refused : status ≢ Success → v.state ≡ s
  -- a station in the table stays as it is, and so does every other
  pub stays : IsSome (station_at s b request.sender) → v.state ≡ s
  pub others : (c : Bssid) (d : Addr) → ¬ ((c ≡ b) × (d ≡ request.sender)) → station_at v.state c d ≡ station_at s c d
  pub lists : v.state.lists ≡ s.lists
  pub policies : v.state.policies ≡ s.policies
  pub cursors : v.state.cursors ≡ s.cursors

pub record IsRoomKept (s : State) (conf : Conf) (b : Bssid) (policy : Policy) (request : Authentication)
    (v : Verdict) : Type 0 where
  -- where so many have rows no other station gets one
  pub full : policy.max.number ≤ count s b → station_at s b request.sender ≡ None → v.state ≡ s
  -- where fewer have, whoever asks as it must, and is allowed, has one then
  pub room : count s b < policy.max.number → IsAllowed s conf b request → IsSome (station_at v.state b request.sender)
