use Rattle.std.proofs.Common.{subst}
use Rattle.std.specs.Prelude.{◌≡◌, ◌≤◌, OnOk, OnErr, Err}
use Rattle.std.specs.FinMap as map
use Rattle.apd_base.specs.Failures.{HasRisen}
use Rattle.apd_radio.specs.declared.radio.RadioFault.TheVariants.{Device, NoMemory}
use Rattle.apd_radio.proofs.boxed.BoxDynRadioSendRadio.install.Goals as goal

pub returns-clause-ok : goal.returns-clause-ok
returns-clause-ok g c =
    subst (λ p. OnOk c.install.result ((g.dyn-1.0.entry c.deref_box_mut-1.result.now.0).1.model.stations c.install.new.self ≡ map.insert ((g.dyn-1.0.entry p.0).1.model.stations p.1) c.args.addr c.args.aid)) c.deref_box_mut-1.ensures.value.1 c.install.ensures.0

pub returns-clause-err : goal.returns-clause-err
returns-clause-err g c =
    subst (λ p. OnErr c.install.result ((g.dyn-1.0.entry c.deref_box_mut-1.result.now.0).1.model.stations c.install.new.self ≡ (g.dyn-1.0.entry p.0).1.model.stations p.1)) c.deref_box_mut-1.ensures.value.1 c.install.ensures.1.0

pub returns-clause-kept : goal.returns-clause-kept
returns-clause-kept g c =
    subst (λ p. (g.dyn-1.0.entry c.deref_box_mut-1.result.now.0).1.frames c.install.new.self ≡ (g.dyn-1.0.entry p.0).1.frames p.1) c.deref_box_mut-1.ensures.value.1 c.install.ensures.1.1.0

pub returns-clause-stays : goal.returns-clause-stays
returns-clause-stays g c =
    subst (λ p. OnOk c.install.result ((g.dyn-1.0.entry c.deref_box_mut-1.result.now.0).1.model.faults c.install.new.self ≡ (g.dyn-1.0.entry p.0).1.model.faults p.1)) c.deref_box_mut-1.ensures.value.1 c.install.ensures.1.1.1.0

pub returns-clause-memory : goal.returns-clause-memory
returns-clause-memory g c =
    subst (λ p. c.install.result ≡ Err NoMemory → (g.dyn-1.0.entry c.deref_box_mut-1.result.now.0).1.model.faults c.install.new.self ≡ (g.dyn-1.0.entry p.0).1.model.faults p.1) c.deref_box_mut-1.ensures.value.1 c.install.ensures.1.1.1.1.0

pub returns-clause-device : goal.returns-clause-device
returns-clause-device g c =
    subst (λ p. c.install.result ≡ Err Device → HasRisen ((g.dyn-1.0.entry p.0).1.model.faults p.1) ((g.dyn-1.0.entry c.deref_box_mut-1.result.now.0).1.model.faults c.install.new.self)) c.deref_box_mut-1.ensures.value.1 c.install.ensures.1.1.1.1.1.0

pub returns-clause-count : goal.returns-clause-count
returns-clause-count g c =
    subst (λ p. (g.dyn-1.0.entry p.0).1.model.faults p.1 ≤ (g.dyn-1.0.entry c.deref_box_mut-1.result.now.0).1.model.faults c.install.new.self) c.deref_box_mut-1.ensures.value.1 c.install.ensures.1.1.1.1.1.1.0

pub returns-clause-sent : goal.returns-clause-sent
returns-clause-sent g c =
    subst (λ p. (g.dyn-1.0.entry c.deref_box_mut-1.result.now.0).1.model.sent c.install.new.self ≡ (g.dyn-1.0.entry p.0).1.model.sent p.1) c.deref_box_mut-1.ensures.value.1 c.install.ensures.1.1.1.1.1.1.1
