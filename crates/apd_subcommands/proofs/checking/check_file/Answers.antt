use Rattle.std.proofs.Common.{ap}
use Rattle.apd_disk.specs.SystemFile.{FileDisk}
use Rattle.apd_subcommands.proofs.checking.check_file.Goals as goal

pub returns-in-Ok : goal.returns-in-Ok
returns-in-Ok g c = (
  c.knowing.result,
  ap (λ (d : FileDisk). d.known) c.knowing.ensures,
  c.in-Ok.ensures.printed,
)
