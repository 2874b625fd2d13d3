use Rattle.apd_honest.proofs.Outright.{not_upgraded, upgraded}
use Rattle.apd_honest.proofs.stores.a_copy_of_an_honest_disk_is_right.Goals as goal

pub returns-clause-made : goal.returns-clause-made
returns-clause-made g c = λ old left new store made only_read.
    upgraded g.O.Disk.model g.N.Disk.model g.met.O.HonestDisk.always_honest g.met.N.HonestDisk.always_honest old left only_read new store made

pub returns-clause-none : goal.returns-clause-none
returns-clause-none g c = λ old left new new_left fault none only_read.
    not_upgraded g.O.Disk.model g.N.Disk.model g.met.O.HonestDisk.always_honest g.met.N.HonestDisk.always_honest old left only_read new new_left fault none
