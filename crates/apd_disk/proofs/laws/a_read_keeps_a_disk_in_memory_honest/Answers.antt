use Rattle.apd_disk.proofs.laws.a_read_keeps_a_disk_in_memory_honest.Goals as goal

pub returns-clause-stays_honest : goal.returns-clause-stays_honest
returns-clause-stays_honest g c =
    λ old new. (λ h. g.met.D.HonestDisk.always_honest new, λ h. g.met.D.HonestDisk.always_honest old)

pub returns-clause-bytes : goal.returns-clause-bytes
returns-clause-bytes g c =
    λ old new result at before after read. read.bytes (g.met.D.HonestDisk.always_honest new)
