use Rattle.std.proofs.Common.{refl}
use Rattle.apd_disk.proofs.FileCall.{no_write, tore_is_written, wrote_is_written}
use Rattle.apd_disk.proofs.file.FileDiskDisk.write_at.Goals as goal

pub returns-then-not-self-clause-call : goal.returns-then-not-self-clause-call
returns-then-not-self-clause-call g c =
    no_write c.args.self.now _ refl c.args.at c.args.bytes.now c.fail.result c.fail.ensures.failed refl

pub returns-in-Ok-clause-call : goal.returns-in-Ok-clause-call
returns-in-Ok-clause-call g c =
    wrote_is_written c.args.self.now _ refl c.args.at c.args.bytes.now tt c.requires c.note.ensures

pub returns-in-Err-clause-call : goal.returns-in-Err-clause-call
returns-in-Err-clause-call g c =
    tore_is_written c.args.self.now _ refl c.args.at c.args.bytes.now c.fail-in-Err.result c.fail-in-Err.ensures.failed c.requires c.note-in-Err.ensures
