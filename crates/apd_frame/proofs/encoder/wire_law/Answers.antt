use Rattle.apd_frame.proofs.Fields.{carried}
use Rattle.apd_frame.proofs.encoder.wire_law.Goals as goal

pub returns : goal.returns
returns c = carried
