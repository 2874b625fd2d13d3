-- What an event brings about: the state after it, the changes that lead there, in order, and the outs, in order.
use Rattle.std.specs.Prelude.{List, [], ◌∷◌, Bool, length, ◌==◌, ◌&&◌}
use Rattle.apd_base.specs.State.{State}
use Rattle.apd_frame.specs.declared.replies.Reply.{Reply}
use Rattle.apd_record.specs.declared.change.Change.{Change}
use Rattle.apd_mlme.specs.declared.decision.Recipient.{Recipient}
use Rattle.apd_mlme.specs.declared.decision.Out.{Out}
use Rattle.apd_mlme.specs.Outs.{reply_out}

pub record Verdict : Type 0 where
  pub state : State
  pub changes : List Change
  pub outs : List (Recipient × Out)

-- nothing changes and nothing leaves
abbrev pub nothing : State → Verdict
nothing s = record { state = s; changes = []; outs = [] }

-- nothing changes, and one frame leaves
abbrev pub only_reply : State → Reply → Verdict
only_reply s reply = record { state = s; changes = []; outs = reply_out reply ∷ [] }

-- whether nothing changes and nothing leaves
abbrev pub is_nothing : Verdict → Bool
is_nothing v = (length v.changes == 0) && (length v.outs == 0)
