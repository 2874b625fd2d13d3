use Rattle.apd_honest.proofs.Outright.{formatted, not_formatted}
use Rattle.apd_honest.proofs.stores.a_format_of_an_honest_disk_is_right.Goals as goal

pub returns-clause-made : goal.returns-clause-made
returns-clause-made g c = formatted g.D.Disk.model g.met.D.HonestDisk.always_honest

pub returns-clause-none : goal.returns-clause-none
returns-clause-none g c = not_formatted g.D.Disk.model g.met.D.HonestDisk.always_honest
