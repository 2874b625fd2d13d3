use Rattle.std.proofs.Common.{◌≡◌, rules}
use Rattle.apd_flusher.specs.Outside.{phase_of}
use Rattle.apd_flusher.specs.declared.phase.Phase.TheVariants.{Busy}
use Rattle.apd_flusher.proofs.Turns.{turned_none, turned_more, on_fault}
use Rattle.apd_flusher.proofs.flusher.Flusher.make_calls.Goals as goal

pub loop-self-init : goal.loop-self-init
loop-self-init g c = turned_none g.D.Disk.model c.args.self.now c.requires

pub loop-self-preserved : goal.loop-self-preserved
loop-self-preserved g c =
    let busy : phase_of c.loop-self.self ≡ Busy = search rules in
    let t = c.turn.ensures.turn in
    let turned = c.in_ok-turn.ensures.turned in
    turned_more g.D.Disk.model c.args.self.now c.loop-self.self c.turn.new.self c.loop-self.invariant busy
    (λ state after h. (c.in_ok-turn.ensures.between state after).on h) t.batch_is t.inside t.stays_honest t.one_call (turned.step busy) turned.no_fault (turned.busy busy)

pub returns-in_err-turn-clause-stuck : goal.returns-in_err-turn-clause-stuck
returns-in_err-turn-clause-stuck g c = λ state after h flushing.
    let kept = c.loop-self.invariant in
    on_fault c.from_residual.result _ ((c.in_err-turn.ensures.between state after).stuck (kept.stays.0 h) (kept.flushing state after h flushing))

pub returns-in_err-turn-clause-honest : goal.returns-in_err-turn-clause-honest
returns-in_err-turn-clause-honest g c =
    let kept = c.loop-self.invariant.stays in
    let turned = c.turn.ensures.turn.stays_honest in
    (λ h. turned.0 (kept.0 h), λ h. kept.1 (turned.1 h))

pub returns-clause-honest : goal.returns-clause-honest
returns-clause-honest g c = c.loop-self.invariant.stays
