use Rattle.std.proofs.Common.{ap}
use Rattle.apd_disk.specs.SystemFile.{FileDisk}
use Rattle.apd_subcommands.proofs.formatting.format_file.Goals as goal

pub returns-in-Ok-clause-made : goal.returns-in-Ok-clause-made
returns-in-Ok-clause-made g c = (
  c.knowing.result,
  ap (λ (d : FileDisk). d.known) c.knowing.ensures,
  c.in-Ok.ensures.made,
)
