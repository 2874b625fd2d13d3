-- What an association or a reassociation response tells its station, its row, and what leaves at each radio (IEEE Std
-- 802.11-2016, 11.3.5.3, 11.3.5.5 and 4.5.3.3).
use Rattle.std.specs.Prelude.{◌≡◌, ◌≢◌, ◌<◌, ◌≤◌, List, [], ◌∷◌, ◌++◌, Option, Some, None, IsSome, IsTrue, IfSome, IsSomeAnd, ◌⊎◌, ℕ}
use Rattle.apd_base.specs.declared.address.Addr.{Addr}
use Rattle.apd_base.specs.declared.address.Bssid.{Bssid}
use Rattle.apd_base.specs.declared.station.Aid.{Aid}
use Rattle.apd_base.specs.declared.station.Station.{Station}
use Rattle.apd_base.specs.declared.station.Station.TheVariants.{Authenticated, Associated}
use Rattle.apd_base.specs.State.{State, station_at, aid_at, cursor_at}
use Rattle.apd_conf.specs.declared.conf.Conf.{Conf}
use Rattle.apd_frame.specs.Contents.{AssociationRequest}
use Rattle.apd_frame.specs.Elements.{well_formed, first_with}
use Rattle.apd_frame.specs.declared.codes.Status.{Status}
use Rattle.apd_frame.specs.declared.codes.Status.TheVariants.{Success, RefusedReasonUnspecified, NotSupportedAuthAlgorithm, TransactionSequenceError, DeniedNoMoreStas, DeniedListenIntervalTooLarge}
use Rattle.apd_frame.specs.declared.element.TheConstants.{SSID, SUPPORTED_RATES}
use Rattle.apd_table.specs.LeastFree.{IsNextFree, last_given}
use Rattle.apd_mlme.specs.declared.association.Kind.{Kind}
use Rattle.apd_mlme.specs.declared.decision.Recipient.{Recipient}
use Rattle.apd_mlme.specs.declared.decision.Out.{Out}
use Rattle.apd_mlme.specs.rules.Association.{association_response, row_of}
use Rattle.apd_mlme.specs.Outs.{reply_out, outs_to}
use Rattle.apd_mlme.specs.Verdict.{Verdict}
use Rattle.std.specs.List.{AllByRecursion}
use Rattle.apd_mlme.specs.declared.decision.Recipient.TheVariants.{Radio}
use Rattle.apd_mlme.specs.declared.decision.Out.TheVariants.{Install, Remove}
use Rattle.apd_mlme.specs.laws.ManagementFrame.{disassociation_frame}

-- the station is associated at the BSSID, with this identifier and with what it asked; no other station of the BSSID
-- has the identifier, and the station is associated nowhere else
pub record IsMember (s : State) (b : Bssid) (request : AssociationRequest) (aid : Aid) : Type 0 where
  pub row : station_at s b request.sender ≡ Some (row_of request aid)
  pub nobody_else : (d : Addr) → aid_at s b d ≡ Some aid.number → d ≡ request.sender
  pub nowhere_else : (c : Bssid) → IsSome (aid_at s c request.sender) → c ≡ b

-- what a request carries for this network: whole elements, its name first among the SSIDs, and some rates
pub record IsForNetwork (conf : Conf) (request : AssociationRequest) : Type 0 where
  pub whole : IsTrue (well_formed request.elements)
  pub named : first_with SSID request.elements ≡ Some conf.ssid
  pub rated : IsSome (first_with SUPPORTED_RATES request.elements)

-- what a status code (IEEE Std 802.11-2016, 9.4.1.9) says of the request (11.3.5.3 and 11.3.5.5); none is told for two
-- reasons
abbrev pub IsDeserved : Conf → AssociationRequest → Status → Type 0
IsDeserved conf request RefusedReasonUnspecified = ¬ (IsForNetwork conf request)
-- the station would listen too seldom
IsDeserved conf request DeniedListenIntervalTooLarge =
    IsForNetwork conf request × (conf.max_listen_interval < request.listen_interval)
IsDeserved conf request Success = IsForNetwork conf request × (request.listen_interval ≤ conf.max_listen_interval)
-- these are said of an authentication alone
IsDeserved conf request NotSupportedAuthAlgorithm = ⊥
IsDeserved conf request TransactionSequenceError = ⊥
IsDeserved conf request DeniedNoMoreStas = ⊥

-- a row that is left to a station which associates with another BSSID
abbrev pub remaining_row : Option Station → Option Station
remaining_row None = None
remaining_row (Some row) = Some Authenticated

-- the last out is the response to the sender, and it says how the sender stands
pub record IsAnsweredTruly (s : State) (conf : Conf) (b : Bssid) (kind : Kind) (request : AssociationRequest)
    (v : Verdict) : Type 0 where
  pub status : Status
  pub aid : Option Aid
  pub before : List (Recipient × Out)
  pub answer : v.outs ≡ before ++ reply_out (association_response conf b kind request.sender status aid) ∷ []
  -- what it says of the request is so: each status has its reason, and success is told where none of them holds
  pub deserved : IsDeserved conf request status
  -- success is told to a member, and with its identifier
  pub success : status ≡ Success → IsSomeAnd aid (IsMember v.state b request)
  -- a station that was associated here keeps its identifier, and any other is given the next one
  pub kept : status ≡ Success → IsSome (aid_at s b request.sender)
      → aid_at v.state b request.sender ≡ aid_at s b request.sender
  pub next : status ≡ Success → aid_at s b request.sender ≡ None → IfSome aid (λ x. IsNextFree s b x.number)
  -- at every other BSSID it is authenticated at most, where it has a row
  pub elsewhere : status ≡ Success → (c : Bssid) → c ≢ b
      → station_at v.state c request.sender ≡ remaining_row (station_at s c request.sender)
  -- anything else is told alone, without an identifier, and leaves every row as it was
  pub refused : status ≢ Success → (v.state ≡ s) × (aid ≡ None) × (before ≡ [])
  -- every other station stays as it is
  pub others : (c : Bssid) (d : Addr) → d ≢ request.sender → station_at v.state c d ≡ station_at s c d
  pub lists : v.state.lists ≡ s.lists
  pub policies : v.state.policies ≡ s.policies
  -- the one that is given is the one that this BSSID gave last, and without one that stays; so it does at every other
  pub given : status ≡ Success → aid_at s b request.sender ≡ None
      → IfSome aid (λ x. last_given v.state b ≡ x.number)
  pub not_given : IsSome (aid_at s b request.sender) → v.state.cursors ≡ s.cursors
  pub other_cursors : (c : Bssid) → c ≢ b → cursor_at v.state c ≡ cursor_at s c

-- a driver lets a station go, or the station is told a disassociation with reason 1 (unspecified, 9.4.1.7)
abbrev pub IsOfEnd : Bssid → Addr → Out → Type 0
IsOfEnd c a out = (out ≡ Remove a) ⊎ (out ≡ (disassociation_frame c a 1).1)

pub record IsJoined (s : State) (b : Bssid) (a : Addr) (capability listen_interval : ℕ) (v : Verdict) : Type 0 where
  pub aid : Aid
  pub response : Out
  -- its row is what it asked for
  pub row : station_at v.state b a
      ≡ Some (Associated (record { aid = aid; capability = capability; listen_interval = listen_interval }))
  -- the driver takes it in, but where it was associated at this radio before; then it gets the response; and nothing
  -- else leaves
  pub anew : aid_at s b a ≡ None → outs_to (Radio b) v.outs ≡ Install a aid ∷ response ∷ []
  pub again : IsSome (aid_at s b a) → outs_to (Radio b) v.outs ≡ response ∷ []
  -- at every other radio nothing leaves but the end of its association there
  pub elsewhere : (c : Bssid) → c ≢ b → AllByRecursion (IsOfEnd c a) (outs_to (Radio c) v.outs)
