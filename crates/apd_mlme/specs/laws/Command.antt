-- What the answer to a control command says, and what the command leaves.
use Rattle.std.specs.Prelude.{◌≡◌, ◌≢◌, ◌↔◌, ℕ, Bool, true, false, List, [], ◌∷◌, ◌++◌, map, None, IsSome, ◌⊎◌, if◌then◌else◌}
use Rattle.std.specs.List.{Contains}
use Rattle.apd_base.specs.declared.address.Addr.{Addr}
use Rattle.apd_base.specs.declared.address.Bssid.{Bssid}
use Rattle.apd_base.specs.declared.limits.TheConstants.{MAX_LISTED}
use Rattle.apd_base.specs.declared.station.Which.{Which}
use Rattle.apd_base.specs.Sets.{contains}
use Rattle.apd_base.specs.State.{State, station_at, aid_at, list_count, IsListed}
use Rattle.apd_frame.specs.declared.codes.Reason.{Reason}
use Rattle.apd_frame.specs.declared.codes.TheConstants.Reason.{UNSPECIFIED}
use Rattle.apd_table.specs.Allowed.{allowed}
use Rattle.apd_mlme.specs.declared.command_answer.Answer.{Answer}
use Rattle.apd_mlme.specs.declared.command_answer.Answer.TheVariants.{Done, Refused}
use Rattle.apd_mlme.specs.declared.decision.Recipient.{Recipient}
use Rattle.apd_mlme.specs.declared.decision.Recipient.TheVariants.{Radio, Control}
use Rattle.apd_mlme.specs.declared.decision.Out.{Out}
use Rattle.apd_mlme.specs.declared.decision.Out.TheVariants as out
use Rattle.apd_event.specs.declared.event.Edit.{Edit}
use Rattle.apd_event.specs.declared.event.Edit.TheVariants.{Add, Remove, Clear}
use Rattle.apd_base.specs.declared.address.TheConstants.{BROADCAST}
use Rattle.apd_mlme.specs.laws.Association.{remaining_row}
use Rattle.apd_mlme.specs.rules.Commands.{text, farewell}
use Rattle.apd_mlme.specs.laws.AssociationEnd.{IsMeant}
use Rattle.apd_event.specs.Happening.{Happening, Heard, Kick, ListEdit, Expire, Configure}
use Rattle.apd_mlme.specs.rules.Leaving.{deauthentication}
use Rattle.apd_mlme.specs.Outs.{outs_to, reply_out}
use Rattle.apd_mlme.specs.Verdict.{Verdict}

-- the answer is the last out, and the only one that is not a radio's
pub record IsAnswered (tag : ℕ) (answer : Answer) (v : Verdict) : Type 0 where
  pub before : List (Recipient × Out)
  pub last : v.outs ≡ before ++ text tag answer ∷ []
  pub alone : outs_to Control before ≡ []

-- stations were sent away
pub record IsKicked (s : State) (b : Bssid) (to : Addr) (reason : Reason) (deauth : Bool) (tag : ℕ)
    (v : Verdict) : Type 0 where
  -- the driver lets stations go, then one frame leaves, and then the answer
  pub removed : List Addr
  pub told : v.outs ≡ map (λ a. (Radio b, out.Remove a)) removed ++ reply_out (farewell b to reason deauth)
      ∷ text tag Done ∷ []
  -- whom the frame is meant for has no row after a deauthentication, and is not associated after a disassociation
  pub deauthenticated : deauth ≡ true → (a : Addr) → IsMeant to a → station_at v.state b a ≡ None
  pub disassociated : (a : Addr) → IsMeant to a → aid_at v.state b a ≡ None
  -- and after a broadcast frame of either kind nobody has a row
  pub everyone : to ≡ BROADCAST → (a : Addr) → station_at v.state b a ≡ None
  -- after a disassociation of one station it has a row where it had one
  pub kept : deauth ≡ false → to ≢ BROADCAST → station_at v.state b to ≡ remaining_row (station_at s b to)
  -- every other row is as it was
  pub others : (c : Bssid) (a : Addr) → ¬ ((c ≡ b) × IsMeant to a) → station_at v.state c a ≡ station_at s c a
  pub lists : v.state.lists ≡ s.lists
  pub policies : v.state.policies ≡ s.policies
  pub cursors : v.state.cursors ≡ s.cursors

-- who is on a list after an edit of it
abbrev pub IsOnAfter : State → Bssid → Which → Edit → Addr → Type 0
IsOnAfter s b w (Add a) d = (d ≡ a) ⊎ IsListed s b w d
IsOnAfter s b w (Remove a) d = (d ≢ a) × IsListed s b w d
IsOnAfter s b w Clear d = ⊥

-- a list was edited
pub record IsEdited (s : State) (b : Bssid) (w : Which) (edit : Edit) (v : Verdict) : Type 0 where
  pub list : (d : Addr) → IsListed v.state b w d ↔ IsOnAfter s b w edit d
  -- a station that is not allowed from now on has no row, and any other is as it was
  pub stations : (d : Addr) → station_at v.state b d ≡ (if allowed v.state b d then station_at s b d else None)
  -- who had one is told so
  pub told : (d : Addr) → IsSome (station_at s b d) → station_at v.state b d ≡ None
      → Contains v.outs (reply_out (deauthentication b d UNSPECIFIED))
  -- nothing else changes
  pub other_lists : (c : Bssid) (x : Which) → ¬ ((c ≡ b) × (x ≡ w)) → (d : Addr)
      → contains v.state.lists (c, x, d) ≡ contains s.lists (c, x, d)
  pub other_stations : (c : Bssid) → c ≢ b → (d : Addr) → station_at v.state c d ≡ station_at s c d
  pub policies : v.state.policies ≡ s.policies
  pub cursors : v.state.cursors ≡ s.cursors

-- a new address came to a full list
pub record IsFull (s : State) (b : Bssid) (w : Which) (edit : Edit) (tag : ℕ) (v : Verdict) : Type 0 where
  pub new : Addr
  pub added : edit ≡ Add new
  pub unlisted : ¬ (IsListed s b w new)
  pub full : list_count s b w ≡ MAX_LISTED
  -- nothing changes, and nothing but the answer leaves
  pub unchanged : v.state ≡ s
  pub changes : v.changes ≡ []
  pub outs : v.outs ≡ text tag Refused ∷ []

-- each command has one answer, and it says what was done; nothing else is answered
abbrev pub IsAnsweredTo : State → Happening → Verdict → Type 0
IsAnsweredTo s (Kick b to reason deauth tag) v = IsAnswered tag Done v × IsKicked s b to reason deauth tag v
IsAnsweredTo s (ListEdit b w edit tag) v =
    (IsAnswered tag Done v × IsEdited s b w edit v) ⊎ (IsAnswered tag Refused v × IsFull s b w edit tag v)
IsAnsweredTo s (Heard b frame) v = outs_to Control v.outs ≡ []
IsAnsweredTo s (Expire b a) v = outs_to Control v.outs ≡ []
IsAnsweredTo s (Configure b accept deny) v = outs_to Control v.outs ≡ []
