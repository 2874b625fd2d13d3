use Rattle.std.proofs.Common.{subst}
use Rattle.std.specs.Prelude.{◌≡◌}
use Rattle.apd_radio.proofs.boxed.BoxDynRadioSendRadio.take_down.Goals as goal

pub returns-clause-kept : goal.returns-clause-kept
returns-clause-kept g c =
    subst (λ p. (g.dyn-1.0.entry c.deref_box_mut-1.result.now.0).1.frames c.take_down.new.self ≡ (g.dyn-1.0.entry p.0).1.frames p.1) c.deref_box_mut-1.ensures.value.1 c.take_down.ensures.1.0

pub returns-clause-stays : goal.returns-clause-stays
returns-clause-stays g c =
    subst (λ p. (g.dyn-1.0.entry c.deref_box_mut-1.result.now.0).1.model.faults c.take_down.new.self ≡ (g.dyn-1.0.entry p.0).1.model.faults p.1) c.deref_box_mut-1.ensures.value.1 c.take_down.ensures.1.1.0

pub returns-clause-sent : goal.returns-clause-sent
returns-clause-sent g c =
    subst (λ p. (g.dyn-1.0.entry c.deref_box_mut-1.result.now.0).1.model.sent c.take_down.new.self ≡ (g.dyn-1.0.entry p.0).1.model.sent p.1) c.deref_box_mut-1.ensures.value.1 c.take_down.ensures.1.1.1
