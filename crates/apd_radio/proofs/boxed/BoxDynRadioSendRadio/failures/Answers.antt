use Rattle.std.proofs.Common.{subst}
use Rattle.std.specs.Prelude.{◌≡◌}
use Rattle.apd_radio.proofs.boxed.BoxDynRadioSendRadio.failures.Goals as goal

pub returns : goal.returns
returns g c = subst (λ p. c.failures.result ≡ (g.dyn-1.0.entry p.0).1.model.faults p.1) c.deref_box-1.ensures.1 c.failures.ensures
