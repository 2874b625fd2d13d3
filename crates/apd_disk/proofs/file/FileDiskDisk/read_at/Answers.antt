use Rattle.std.proofs.Common.{◌≡◌, length, refl, rules}
use Rattle.apd_disk.proofs.FileCall.{gave_is_read, missed_is_read}
use Rattle.apd_disk.proofs.file.FileDiskDisk.read_at.Goals as goal

pub returns-in-Ok-clause-call : goal.returns-in-Ok-clause-call
returns-in-Ok-clause-call g c =
    let size : length c.read_exact_at.new.buf ≡ length c.args.buf.now = search rules in
    gave_is_read c.args.self.now _ refl c.args.at c.args.buf.now c.read_exact_at.new.buf tt size c.note.ensures

pub returns-in-Err-clause-call : goal.returns-in-Err-clause-call
returns-in-Err-clause-call g c =
    missed_is_read c.args.self.now _ refl c.args.at c.args.buf.now c.read_exact_at.new.buf c.fail.result c.fail.ensures.failed c.note-in-Err.ensures
