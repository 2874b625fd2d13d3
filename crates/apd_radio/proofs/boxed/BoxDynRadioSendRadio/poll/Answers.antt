use Rattle.std.proofs.Common.{subst}
use Rattle.std.specs.Prelude.{◌≡◌, ◌≤◌, IfOk, OnOk, OnErr, None, Err}
use Rattle.std.specs.Option.{option_map}
use Rattle.apd_base.specs.Failures.{HasRisen}
use Rattle.apd_radio.specs.Frames.{Polls}
use Rattle.apd_radio.specs.declared.radio.RadioFault.TheVariants.{Device, NoMemory}
use Rattle.apd_radio.proofs.boxed.BoxDynRadioSendRadio.poll.Goals as goal

pub returns-clause-next : goal.returns-clause-next
returns-clause-next g c =
    subst (λ p. IfOk c.poll.result (λ got. Polls ((g.dyn-1.0.entry p.0).1.frames p.1) (option_map (λ (frame : _). frame.items) got) ((g.dyn-1.0.entry c.deref_box_mut-1.result.now.0).1.frames c.poll.new.self))) c.deref_box_mut-1.ensures.value.1 c.poll.ensures.0

pub returns-clause-unknown : goal.returns-clause-unknown
returns-clause-unknown g c =
    subst (λ p. OnErr c.poll.result (((g.dyn-1.0.entry p.0).1.frames p.1 ≡ None) × ((g.dyn-1.0.entry c.deref_box_mut-1.result.now.0).1.frames c.poll.new.self ≡ None))) c.deref_box_mut-1.ensures.value.1 c.poll.ensures.1.0

pub returns-clause-same : goal.returns-clause-same
returns-clause-same g c =
    subst (λ p. (g.dyn-1.0.entry c.deref_box_mut-1.result.now.0).1.model.stations c.poll.new.self ≡ (g.dyn-1.0.entry p.0).1.model.stations p.1) c.deref_box_mut-1.ensures.value.1 c.poll.ensures.1.1.0

pub returns-clause-stays : goal.returns-clause-stays
returns-clause-stays g c =
    subst (λ p. OnOk c.poll.result ((g.dyn-1.0.entry c.deref_box_mut-1.result.now.0).1.model.faults c.poll.new.self ≡ (g.dyn-1.0.entry p.0).1.model.faults p.1)) c.deref_box_mut-1.ensures.value.1 c.poll.ensures.1.1.1.0

pub returns-clause-memory : goal.returns-clause-memory
returns-clause-memory g c =
    subst (λ p. c.poll.result ≡ Err NoMemory → (g.dyn-1.0.entry c.deref_box_mut-1.result.now.0).1.model.faults c.poll.new.self ≡ (g.dyn-1.0.entry p.0).1.model.faults p.1) c.deref_box_mut-1.ensures.value.1 c.poll.ensures.1.1.1.1.0

pub returns-clause-device : goal.returns-clause-device
returns-clause-device g c =
    subst (λ p. c.poll.result ≡ Err Device → HasRisen ((g.dyn-1.0.entry p.0).1.model.faults p.1) ((g.dyn-1.0.entry c.deref_box_mut-1.result.now.0).1.model.faults c.poll.new.self)) c.deref_box_mut-1.ensures.value.1 c.poll.ensures.1.1.1.1.1.0

pub returns-clause-count : goal.returns-clause-count
returns-clause-count g c =
    subst (λ p. (g.dyn-1.0.entry p.0).1.model.faults p.1 ≤ (g.dyn-1.0.entry c.deref_box_mut-1.result.now.0).1.model.faults c.poll.new.self) c.deref_box_mut-1.ensures.value.1 c.poll.ensures.1.1.1.1.1.1.0

pub returns-clause-sent : goal.returns-clause-sent
returns-clause-sent g c =
    subst (λ p. (g.dyn-1.0.entry c.deref_box_mut-1.result.now.0).1.model.sent c.poll.new.self ≡ (g.dyn-1.0.entry p.0).1.model.sent p.1) c.deref_box_mut-1.ensures.value.1 c.poll.ensures.1.1.1.1.1.1.1
