use Rattle.std.proofs.Common.{ap, ◌∙◌}
use Rattle.apd_flusher.specs.Outside as flusher
use Rattle.apd_script.proofs.script.stopping.device_of.Goals as goal

pub returns : goal.returns
returns g c = c.into_device.ensures ∙ ap flusher.flusher_device c.into_parts-flusher.ensures.flusher
