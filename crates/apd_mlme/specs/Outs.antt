-- Outs, and those of one recipient.
use Rattle.std.specs.Prelude.{Bool, true, false, List, map, filter}
use Rattle.std.specs.Ordering.{eq_by_cmp}
use Rattle.apd_base.specs.Addr.{bssid_cmp}
use Rattle.apd_frame.specs.declared.replies.Reply.{Reply}
use Rattle.apd_frame.specs.Wire.{wire}
use Rattle.apd_mlme.specs.declared.decision.Recipient.{Recipient}
use Rattle.apd_mlme.specs.declared.decision.Recipient.TheVariants.{Radio, Control}
use Rattle.apd_mlme.specs.declared.decision.Out.{Out}
use Rattle.apd_mlme.specs.declared.decision.Out.TheVariants.{Frame}

-- a frame that the radio of its BSSID sends
abbrev pub reply_out : Reply → Recipient × Out
reply_out reply = (Radio reply.bssid, Frame (wire reply))

-- whether two recipients are one
abbrev pub is_same : Recipient → Recipient → Bool
is_same (Radio b) (Radio c) = eq_by_cmp bssid_cmp b c
is_same (Radio b) Control = false
is_same Control (Radio c) = false
is_same Control Control = true

-- the outs to a recipient, in order
abbrev pub outs_to : Recipient → List (Recipient × Out) → List Out
outs_to r outs = map (λ x. x.1) (filter (λ x. is_same r x.0) outs)
