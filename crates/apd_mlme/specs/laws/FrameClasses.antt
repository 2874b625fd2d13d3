-- Frames of a class that their sender may not send (IEEE Std 802.11-2016, 11.3.3).
use Rattle.std.specs.Prelude.{◌≡◌, ℕ, [], ◌∷◌, None, Some, IsSome}
use Rattle.apd_base.specs.declared.address.Bssid.{Bssid}
use Rattle.apd_base.specs.declared.station.Station.TheVariants.{Authenticated}
use Rattle.apd_base.specs.State.{State, station_at, aid_at}
use Rattle.apd_frame.specs.Contents.{Contents, authentication, association_request, reassociation_request, probe_request, disassociation, deauthentication, uplink, sender_of}
use Rattle.apd_mlme.specs.declared.decision.Recipient.{Recipient}
use Rattle.apd_mlme.specs.declared.decision.Out.{Out}
use Rattle.apd_mlme.specs.laws.ManagementFrame.{disassociation_frame, deauthentication_frame}
use Rattle.apd_mlme.specs.Verdict.{Verdict}

-- the class of a frame
abbrev pub class_of : Contents → ℕ
class_of (authentication request) = 1
class_of (probe_request request) = 1
class_of (deauthentication a reason) = 1
class_of (association_request request) = 2
class_of (reassociation_request request) = 2
class_of (disassociation a reason) = 2
class_of (uplink a) = 3

-- this out leaves and no other, and nothing changes
pub record IsOnlyAnswered (s : State) (out : Recipient × Out) (v : Verdict) : Type 0 where
  pub outs : v.outs ≡ out ∷ []
  pub changes : v.changes ≡ []
  pub state : v.state ≡ s

-- a frame of class 2 is for who is authenticated, and one of class 3 for who is associated: any other sender is told
-- that it isn't, by the reason code of the class (9.4.1.7, Table 9-45)
pub record AreClassesKept (s : State) (b : Bssid) (frame : Contents) (v : Verdict) : Type 0 where
  pub class2_unauthenticated : class_of frame ≡ 2 → station_at s b (sender_of frame) ≡ None
      → IsOnlyAnswered s (deauthentication_frame b (sender_of frame) 6) v
  pub class3_unauthenticated : class_of frame ≡ 3 → station_at s b (sender_of frame) ≡ None
      → IsOnlyAnswered s (deauthentication_frame b (sender_of frame) 7) v
  pub class3_unassociated : class_of frame ≡ 3 → station_at s b (sender_of frame) ≡ Some Authenticated
      → IsOnlyAnswered s (disassociation_frame b (sender_of frame) 7) v
  -- data from a member are not answered
  pub class3_associated : class_of frame ≡ 3 → IsSome (aid_at s b (sender_of frame)) → (v.outs ≡ []) × (v.state ≡ s)
