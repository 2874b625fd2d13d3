use Rattle.std.proofs.Common.{◌∙◌}
use Rattle.apd_core.specs.declared.input.Input.TheVariants.{Received}
use Rattle.apd_steps.proofs.ServingLemmas.{polled}
use Rattle.apd_desk.proofs.Serving.{frame_told, none_received, not_received, received}
use Rattle.apd_desk.proofs.receiving.Parts.receive.Goals as goal

pub returns-in-Ok-Some : goal.returns-in-Ok-Some
returns-in-Ok-Some g c =
    let radio = g.R.Radio.model in
    let frames = g.R.Radio.frames in
    let p = c.poll.ensures in
    let is = polled radio frames (λ frame. frame.items) _ _ c.poll.result p.next p.unknown p.installed p.stays p.short p.device p.sent p.same in
    received radio frames g.A.Asks.made c.in-Ok-Some.frame.items _ _ (Received c.bssid.result c.as_slice.result) _ _ c.args.self.now.slot _ _
    (frame_told radio frames (λ frame. frame.items) c.poll.result _ _ _ _ c.in-Ok-Some.is c.in-Ok-Some.field-0-is is)
    c.submit-answer.ensures (c.bssid.ensures ∙ p.same.bssid, c.as_slice.ensures.value)

pub returns-in-Ok-None : goal.returns-in-Ok-None
returns-in-Ok-None g c =
    let radio = g.R.Radio.model in
    let frames = g.R.Radio.frames in
    let p = c.poll.ensures in
    let is = polled radio frames (λ frame. frame.items) _ _ c.poll.result p.next p.unknown p.installed p.stays p.short p.device p.sent p.same in
    none_received radio frames g.A.Asks.made (λ frame. frame.items) c.poll.result _ _ _ _ _ c.in-Ok-None.is c.in-Ok-None.field-0-is is

pub returns-in-Err : goal.returns-in-Err
returns-in-Err g c =
    let radio = g.R.Radio.model in
    let frames = g.R.Radio.frames in
    let p = c.poll.ensures in
    let is = polled radio frames (λ frame. frame.items) _ _ c.poll.result p.next p.unknown p.installed p.stays p.short p.device p.sent p.same in
    not_received radio frames g.A.Asks.made (λ frame. frame.items) c.poll.result _ _ _ _ _ c.in-Err.is is
