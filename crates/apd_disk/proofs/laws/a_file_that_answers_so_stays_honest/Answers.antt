use Rattle.std.proofs.Common.{refl}
use Rattle.apd_disk.specs.for_proofs.FileLaws.{honest_read}
use Rattle.apd_disk.proofs.laws.a_file_that_answers_so_stays_honest.Goals as goal

pub returns-clause-opened : goal.returns-clause-opened
returns-clause-opened c = λ held. refl

pub returns-clause-read : goal.returns-clause-read
returns-clause-read c = λ n at m held calls fits h. honest_read n held calls at m fits h

pub returns-clause-write : goal.returns-clause-write
returns-clause-write c = λ n at bytes held calls fits h. (h, fits)

pub returns-clause-failed_write : goal.returns-clause-failed_write
returns-clause-failed_write c = λ n at m held left calls fits h. (h, fits)

pub returns-clause-sync : goal.returns-clause-sync
returns-clause-sync c = λ n held calls h. h

pub returns-clause-failed_read : goal.returns-clause-failed_read
returns-clause-failed_read c = λ n held calls h. h

pub returns-clause-failed_sync : goal.returns-clause-failed_sync
returns-clause-failed_sync c = λ n held left calls h. h
