use Rattle.std.proofs.Common.{subst}
use Rattle.std.specs.Prelude.{◌≡◌}
use Rattle.std.specs.FinMap as map
use Rattle.apd_radio.proofs.boxed.BoxDynRadioSendRadio.installed.Goals as goal

pub returns : goal.returns
returns g c = subst (λ p. c.installed.result ≡ map.get ((g.dyn-1.0.entry p.0).1.model.stations p.1) c.args.addr) c.deref_box-1.ensures.1 c.installed.ensures
