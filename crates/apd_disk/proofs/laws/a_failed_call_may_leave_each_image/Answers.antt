use Rattle.apd_disk.specs.for_proofs.FileLaws.{any_torn, any_lost}
use Rattle.apd_disk.proofs.laws.a_failed_call_may_leave_each_image.Goals as goal

pub returns-clause-write : goal.returns-clause-write
returns-clause-write c = λ n at m held image calls fits h torn. any_torn n held calls at m image fits h torn

pub returns-clause-sync : goal.returns-clause-sync
returns-clause-sync c = λ n held image calls h left. any_lost n held calls image h left
