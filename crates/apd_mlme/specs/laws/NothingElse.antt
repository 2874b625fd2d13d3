-- Nothing else leaves, and nothing else changes: whom drivers let go or take in, who is told of an end, which other
-- frame leaves, and which changes are made (own).
use Rattle.std.specs.Prelude.{◌≡◌, ◌≢◌, ◌≤◌, ◌↔◌, ◌⊎◌, ℕ, List, [], ◌∷◌, ◌++◌, Some, None, IsSome, IsSomeAnd, AllPairs, length}
use Rattle.std.specs.List.{Contains}
use Rattle.std.specs.declared.cmp.Ordering.TheVariants.{Less}
use Rattle.apd_base.specs.declared.address.Addr.{Addr}
use Rattle.apd_base.specs.declared.address.Bssid.{Bssid}
use Rattle.apd_base.specs.declared.address.TheConstants.{BROADCAST}
use Rattle.apd_base.specs.declared.station.Association.{Association}
use Rattle.apd_base.specs.declared.station.Policy.{Policy as BssPolicy}
use Rattle.apd_base.specs.declared.station.Station.TheVariants.{Associated}
use Rattle.apd_base.specs.declared.station.StationNumber.{StationNumber}
use Rattle.apd_base.specs.declared.station.Which.{Which}
use Rattle.apd_base.specs.Addr.{addr_cmp}
use Rattle.apd_base.specs.State.{State, station_at, aid_at}
use Rattle.apd_conf.specs.declared.conf.Conf.{Conf}
use Rattle.apd_conf.specs.Confs.{conf_at}
use Rattle.apd_frame.specs.Contents.{Contents, association_request, reassociation_request, sender_of}
use Rattle.apd_frame.specs.declared.codes.Reason.{Reason}
use Rattle.apd_frame.specs.declared.codes.Status.TheVariants.{Success}
use Rattle.apd_frame.specs.declared.replies.Reply.{Reply}
use Rattle.apd_frame.specs.Wire.{wire}
use Rattle.apd_record.specs.declared.change.Change.{Change}
use Rattle.apd_record.specs.declared.change.Change.TheVariants.{Put, Drop, ListAdd, ListDel, ListClear, Policy, Cursor}
use Rattle.apd_record.specs.Meaning.{meaning}
use Rattle.apd_mlme.specs.declared.decision.Recipient.TheVariants.{Radio}
use Rattle.apd_mlme.specs.declared.decision.Out.{Out}
use Rattle.apd_mlme.specs.declared.decision.Out.TheVariants.{Install, Remove, Frame, Text}
use Rattle.apd_event.specs.declared.event.Edit.TheVariants.{Clear}
use Rattle.apd_event.specs.Happening.{Happening, Heard, Kick, ListEdit, Expire, Configure}
use Rattle.apd_mlme.specs.laws.Association.{IsDeserved}
use Rattle.apd_mlme.specs.laws.AssociationEnd.{HasLeft}
use Rattle.apd_mlme.specs.Outs.{outs_to}
use Rattle.apd_mlme.specs.rules.Association.{without_current_ap}
use Rattle.apd_mlme.specs.rules.Leaving.{disassociation, deauthentication}
use Rattle.apd_mlme.specs.Verdict.{Verdict}

-- they rise, so none is there twice
abbrev pub Rise : List Addr → Type 0
Rise addresses = AllPairs (λ a b. addr_cmp a b ≡ Less) addresses

-- ---- whom drivers let go

-- the stations that a driver lets go, in order
abbrev pub stations_let_go : List Out → List Addr
stations_let_go [] = []
stations_let_go (Remove a ∷ outs) = a ∷ stations_let_go outs
stations_let_go (Install a aid ∷ outs) = stations_let_go outs
stations_let_go (Frame bytes ∷ outs) = stations_let_go outs
stations_let_go (Text tag bytes ∷ outs) = stations_let_go outs

-- a station was associated with the BSSID, and is so no more
abbrev pub HasCeased : State → State → Bssid → Addr → Type 0
HasCeased old new b a = IsSome (aid_at old b a) × (aid_at new b a ≡ None)

-- the driver of the BSSID's radio lets go whoever has ceased to be associated, each once and in address order, and nobody
-- else
pub record AreLetGo (old : State) (b : Bssid) (v : Verdict) : Type 0 where
  pub once : Rise (stations_let_go (outs_to (Radio b) v.outs))
  pub those : (a : Addr) → Contains (stations_let_go (outs_to (Radio b) v.outs)) a ↔ HasCeased old v.state b a

-- ---- whom drivers take in

-- the stations that a driver takes in, with their identifiers, in order
abbrev pub stations_taken_in : List Out → List (Addr × ℕ)
stations_taken_in [] = []
stations_taken_in (Install a aid ∷ outs) = (a, aid.number) ∷ stations_taken_in outs
stations_taken_in (Remove a ∷ outs) = stations_taken_in outs
stations_taken_in (Frame bytes ∷ outs) = stations_taken_in outs
stations_taken_in (Text tag bytes ∷ outs) = stations_taken_in outs

-- a station was not associated with the BSSID, and is so now, under this identifier
abbrev pub HasBegun : State → State → Bssid → Addr → ℕ → Type 0
HasBegun old new b a i = (aid_at old b a ≡ None) × (aid_at new b a ≡ Some i)

-- the driver of the BSSID's radio takes in whoever was not associated and is so now, under its identifier, and nobody
-- else: one station at most
pub record AreTakenIn (old : State) (b : Bssid) (v : Verdict) : Type 0 where
  pub once : length (stations_taken_in (outs_to (Radio b) v.outs)) ≤ 1
  pub those : (a : Addr) (i : ℕ)
      → Contains (stations_taken_in (outs_to (Radio b) v.outs)) (a, i) ↔ HasBegun old v.state b a i

-- ---- which frames leave

-- the frames that a radio sends, in order
abbrev pub frames : List Out → List (List ℕ)
frames [] = []
frames (Frame bytes ∷ outs) = bytes ∷ frames outs
frames (Install a aid ∷ outs) = frames outs
frames (Remove a ∷ outs) = frames outs
frames (Text tag bytes ∷ outs) = frames outs

-- a station's association with the BSSID came to an end, or its authentication
abbrev pub HasLost : State → State → Bssid → Addr → Type 0
HasLost old new b a = HasCeased old new b a ⊎ (IsSome (station_at old b a) × (station_at new b a ≡ None))

-- all are sent away, by one frame
abbrev pub IsToAll : Happening → Type 0
IsToAll (Kick b to reason deauth tag) = to ≡ BROADCAST
IsToAll (Heard b frame) = ⊥
IsToAll (ListEdit b which edit tag) = ⊥
IsToAll (Expire b a) = ⊥
IsToAll (Configure b accept deny) = ⊥

-- whom an event names at a BSSID: the sender of a frame, or the address of a command that sends stations away
abbrev pub Names : Happening → Bssid → Addr → Type 0
Names (Heard c frame) b a = (c ≡ b) × (sender_of frame ≡ a)
Names (Kick c to reason deauth tag) b a = (c ≡ b) × (to ≡ a)
Names (ListEdit c which edit tag) b a = ⊥
Names (Expire c d) b a = ⊥
Names (Configure c accept deny) b a = ⊥

-- a disassociation or a deauthentication of the station
abbrev pub IsNotice : Bssid → Addr → List ℕ → Type 0
IsNotice b a bytes =
    (reason : Reason) × ((bytes ≡ wire (disassociation b a reason)) ⊎ (bytes ≡ wire (deauthentication b a reason)))

-- one for each station, in order
abbrev pub AreNotices : Bssid → List Addr → List (List ℕ) → Type 0
AreNotices b [] [] = Unit {0}
AreNotices b (a ∷ told) (bytes ∷ notices) = IsNotice b a bytes × AreNotices b told notices
AreNotices b [] (bytes ∷ notices) = ⊥
AreNotices b (a ∷ told) [] = ⊥

-- one frame at most, to whom the event names
abbrev pub IsAnswer : Happening → Bssid → List Addr → List (List ℕ) → Type 0
IsAnswer h b told answer =
    (answer ≡ []) ⊎ ((reply : Reply) × (answer ≡ wire reply ∷ []) × (reply.bssid ≡ b) × Names h b reply.to
    × ¬ (Contains told reply.to))

-- the frames of a BSSID's radio tell whoever's association or authentication came to an end, each by one of them and in
-- address order, but for who ended it itself, and where one tells all. Beside these there is at most one, to somebody else
-- whom the event names
pub record AreFramesDue (old : State) (h : Happening) (b : Bssid) (v : Verdict) : Type 0 where
  pub told : List Addr
  pub notices : List (List ℕ)
  pub answer : List (List ℕ)
  pub all : frames (outs_to (Radio b) v.outs) ≡ notices ++ answer
  pub are_notices : AreNotices b told notices
  pub once : Rise told
  pub those : (a : Addr) → Contains told a ↔ (HasLost old v.state b a × ¬ (HasLeft h b a) × ¬ (IsToAll h))
  pub is_answer : IsAnswer h b told answer

-- ---- which changes are made

-- a row of a state
pub data Row : Type 0 where
  StationRow : Bssid → Addr → Row
  ListRow : Bssid → Which → Addr → Row
  PolicyRow : Bssid → Row
  CursorRow : Bssid → Row

-- the rows that a change puts there or takes out; a first policy brings a cursor
abbrev pub Writes : Change → Row → Type 0
Writes (Put b a station) row = row ≡ StationRow b a
Writes (Drop b a) row = row ≡ StationRow b a
Writes (ListAdd b w a) row = row ≡ ListRow b w a
Writes (ListDel b w a) row = row ≡ ListRow b w a
Writes (ListClear b w) row = (a : Addr) × (row ≡ ListRow b w a)
Writes (Policy b policy) row = (row ≡ PolicyRow b) ⊎ (row ≡ CursorRow b)
Writes (Cursor b last) row = row ≡ CursorRow b

-- no row is written twice
abbrev pub AreApart : List Change → Type 0
AreApart changes = AllPairs (λ x y. (row : Row) → Writes x row → ¬ (Writes y row)) changes

-- a frame asks to associate its sender, or to reassociate it, and deserves success
abbrev pub IsAccepted : Conf → Contents → Type 0
IsAccepted conf (association_request request) = IsDeserved conf request Success
IsAccepted conf (reassociation_request request) = IsDeserved conf (without_current_ap request) Success
IsAccepted conf other = ⊥

-- so it associates its sender, where this has a row
abbrev pub Associates : State → List Conf → Bssid → Contents → Type 0
Associates s confs b frame =
    IsSome (station_at s b (sender_of frame)) × IsSomeAnd (conf_at confs b) (λ conf. IsAccepted conf frame)

-- the changes that are always made, though they may change nothing: the row of a station that associates and, where it
-- was not associated here before, the identifier that it is given; the clearing of a list; and the policy of a start
pub data IsAlwaysMade (s : State) (confs : List Conf) : Happening → Change → Type 0 where
  row : (b : Bssid) (frame : Contents) (x : Association) → Associates s confs b frame
      → IsAlwaysMade s confs (Heard b frame) (Put b (sender_of frame) (Associated x))
  given : (b : Bssid) (frame : Contents) (last : StationNumber) → Associates s confs b frame
      → aid_at s b (sender_of frame) ≡ None → IsAlwaysMade s confs (Heard b frame) (Cursor b last)
  cleared : (b : Bssid) (w : Which) (tag : ℕ) → IsAlwaysMade s confs (ListEdit b w Clear tag) (ListClear b w)
  started : (b : Bssid) (accept deny : List Addr) (policy : BssPolicy)
      → IsAlwaysMade s confs (Configure b accept deny) (Policy b policy)

-- each of the others changes the state that it is made in
abbrev pub AreNeeded : (Change → Type 0) → List Change → State → Type 0
AreNeeded always [] s = Unit {0}
AreNeeded always (change ∷ changes) s =
    (always change ⊎ (meaning change s ≢ s)) × AreNeeded always changes (meaning change s)
