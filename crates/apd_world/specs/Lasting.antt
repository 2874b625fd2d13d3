-- What of a history's was so, and how long it stays so.
use Rattle.std.specs.Prelude.{◌≡◌, ◌⊎◌, ◌≤◌, ◌<◌, ◌+◌, ℕ, List, Some, IsSome, IsSomeAnd}
use Rattle.std.specs.List.{Contains, slice_get}
use Rattle.apd_base.specs.declared.station.Which.{Which}
use Rattle.apd_base.specs.State.{station_at, IsListed}
use Rattle.apd_frame.specs.declared.codes.Status.{Status}
use Rattle.apd_frame.specs.declared.codes.Status.TheVariants.{Success}
use Rattle.apd_frame.specs.declared.replies.AssociationResponse.{AssociationResponse}
use Rattle.apd_frame.specs.declared.replies.Reply.{Reply}
use Rattle.apd_frame.specs.declared.replies.ReplyBody.{ReplyBody}
use Rattle.apd_frame.specs.declared.replies.ReplyBody.TheVariants.{Auth, Assoc, Reassoc}
use Rattle.apd_frame.specs.Wire.{wire}
use Rattle.apd_event.specs.Happening.{ListEdit}
use Rattle.apd_mlme.specs.declared.command_answer.Answer.TheVariants.{Done}
use Rattle.apd_mlme.specs.declared.decision.Out.TheVariants.{Install, Frame}
use Rattle.apd_event.specs.declared.event.Edit.{Edit}
use Rattle.apd_mlme.specs.laws.Outs.{OutIsTrue}
use Rattle.apd_mlme.specs.rules.Commands.{text}
use Rattle.apd_world.specs.Words.{Addr, Bssid, Out, Recipient, Shows, State, aid_at, verdict}
use Rattle.apd_world.specs.History.{History, after}

-- what an out says is so after one of the durable happenings
pub record OutWasTrue (h : History) (r : Recipient) (out : Out) : Type 0 where
  pub place : ℕ
  pub durable : place < h.durable
  pub so : OutIsTrue (after h (place + 1)) (r, out)

-- a control command that edits a list is one of the durable happenings, and was answered OK
pub record WasEdited (h : History) (place : ℕ) (b : Bssid) (w : Which) (edit : Edit) : Type 0 where
  pub tag : ℕ
  pub durable : place < h.durable
  pub happened : slice_get h.happened place ≡ Some (ListEdit b w edit tag)
  pub answered : Contains (verdict (after h place) h.confs (ListEdit b w edit tag)).outs (text tag Done)

-- ---- how long it stays so
-- what is said of a state
pub data Fact : Type 0 where
  -- a station is associated with this identifier
  HasAid : Bssid → Addr → ℕ → Fact
  -- a station is authenticated or associated: it has a row
  HasRow : Bssid → Addr → Fact
  -- an address is on a list
  IsOn : Bssid → Which → Addr → Fact
  -- an address is not on it
  IsOff : Bssid → Which → Addr → Fact

abbrev pub Holds : Fact → State → Type 0
Holds (HasAid b a aid) s = aid_at s b a ≡ Some aid
Holds (HasRow b a) s = IsSome (station_at s b a)
Holds (IsOn b w a) s = IsListed s b w a
Holds (IsOff b w a) s = ¬ IsListed s b w a

-- Of the first so many happenings, one behind so many says otherwise: it holds before that one, and not after it.
pub record SaysOtherwise (h : History) (behind front : ℕ) (fact : Fact) : Type 0 where
  pub place : ℕ
  pub later : behind ≤ place
  pub within : place < front
  pub was : Holds fact (after h place)
  pub ended : ¬ Holds fact (after h (place + 1))

-- It held behind that many. A stop left the state after the first so many; it holds there, or one of these says
-- otherwise.
pub record Lasts (h : History) (image : List ℕ) (front behind : ℕ) (fact : Fact) : Type 0 where
  pub was : Holds fact (after h behind)
  pub shows : Shows image (after h front)
  pub still : Holds fact (after h front) ⊎ SaysOtherwise h behind front fact

-- ---- what was told
module _ (h : History) (image : List ℕ) (front behind : ℕ) (b : Bssid) where
  -- where a response tells a station that it is authenticated, that lasts
  abbrev pub RowLastsAsTold : Addr → Status → Type 0
  RowLastsAsTold a status = status ≡ Success → Lasts h image front behind (HasRow b a)

  -- and that it is associated, with the identifier that the response carries
  abbrev pub AidLastsAsTold : Addr → AssociationResponse → Type 0
  AidLastsAsTold a response = response.status ≡ Success
      → IsSomeAnd response.aid (λ aid. Lasts h image front behind (HasAid b a aid.number))

  -- the same of the frame of a reply
  abbrev pub BodyLasts : Addr → ReplyBody → Type 0
  BodyLasts a (Auth algorithm transaction status) = RowLastsAsTold a status
  BodyLasts a (Assoc response) = AidLastsAsTold a response
  BodyLasts a (Reassoc response) = AidLastsAsTold a response
  BodyLasts a body = Unit {0}

  -- and of what a radio was given: a driver, that it takes a station in
  abbrev pub OutLasts : Out → Type 0
  OutLasts (Install a aid) = Lasts h image front behind (HasAid b a aid.number)
  OutLasts (Frame bytes) = (reply : Reply) × (reply.bssid ≡ b) × (bytes ≡ wire reply) × BodyLasts reply.to reply.body
  OutLasts out = Unit {0}
