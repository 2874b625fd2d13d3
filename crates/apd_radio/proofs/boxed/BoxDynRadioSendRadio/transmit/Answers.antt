use Rattle.std.proofs.Common.{subst}
use Rattle.std.specs.Prelude.{◌≡◌, ◌≤◌, OnOk, OnErr, Err}
use Rattle.apd_base.specs.Failures.{HasRisen}
use Rattle.apd_radio.specs.Frames.{and_then}
use Rattle.apd_radio.specs.declared.radio.RadioFault.TheVariants.{Device, NoMemory}
use Rattle.apd_radio.proofs.boxed.BoxDynRadioSendRadio.transmit.Goals as goal

pub returns-clause-same : goal.returns-clause-same
returns-clause-same g c =
    subst (λ p. (g.dyn-1.0.entry c.deref_box_mut-1.result.now.0).1.model.stations c.transmit.new.self ≡ (g.dyn-1.0.entry p.0).1.model.stations p.1) c.deref_box_mut-1.ensures.value.1 c.transmit.ensures.0

pub returns-clause-kept : goal.returns-clause-kept
returns-clause-kept g c =
    subst (λ p. (g.dyn-1.0.entry c.deref_box_mut-1.result.now.0).1.frames c.transmit.new.self ≡ (g.dyn-1.0.entry p.0).1.frames p.1) c.deref_box_mut-1.ensures.value.1 c.transmit.ensures.1.0

pub returns-clause-stays : goal.returns-clause-stays
returns-clause-stays g c =
    subst (λ p. OnOk c.transmit.result ((g.dyn-1.0.entry c.deref_box_mut-1.result.now.0).1.model.faults c.transmit.new.self ≡ (g.dyn-1.0.entry p.0).1.model.faults p.1)) c.deref_box_mut-1.ensures.value.1 c.transmit.ensures.1.1.0

pub returns-clause-memory : goal.returns-clause-memory
returns-clause-memory g c =
    subst (λ p. c.transmit.result ≡ Err NoMemory → (g.dyn-1.0.entry c.deref_box_mut-1.result.now.0).1.model.faults c.transmit.new.self ≡ (g.dyn-1.0.entry p.0).1.model.faults p.1) c.deref_box_mut-1.ensures.value.1 c.transmit.ensures.1.1.1.0

pub returns-clause-device : goal.returns-clause-device
returns-clause-device g c =
    subst (λ p. c.transmit.result ≡ Err Device → HasRisen ((g.dyn-1.0.entry p.0).1.model.faults p.1) ((g.dyn-1.0.entry c.deref_box_mut-1.result.now.0).1.model.faults c.transmit.new.self)) c.deref_box_mut-1.ensures.value.1 c.transmit.ensures.1.1.1.1.0

pub returns-clause-count : goal.returns-clause-count
returns-clause-count g c =
    subst (λ p. (g.dyn-1.0.entry p.0).1.model.faults p.1 ≤ (g.dyn-1.0.entry c.deref_box_mut-1.result.now.0).1.model.faults c.transmit.new.self) c.deref_box_mut-1.ensures.value.1 c.transmit.ensures.1.1.1.1.1.0

pub returns-clause-sent : goal.returns-clause-sent
returns-clause-sent g c =
    subst (λ p. OnOk c.transmit.result ((g.dyn-1.0.entry c.deref_box_mut-1.result.now.0).1.model.sent c.transmit.new.self ≡ and_then ((g.dyn-1.0.entry p.0).1.model.sent p.1) c.args.frame.now)) c.deref_box_mut-1.ensures.value.1 c.transmit.ensures.1.1.1.1.1.1.0

pub returns-clause-unsent : goal.returns-clause-unsent
returns-clause-unsent g c =
    subst (λ p. OnErr c.transmit.result ((g.dyn-1.0.entry c.deref_box_mut-1.result.now.0).1.model.sent c.transmit.new.self ≡ (g.dyn-1.0.entry p.0).1.model.sent p.1)) c.deref_box_mut-1.ensures.value.1 c.transmit.ensures.1.1.1.1.1.1.1
