use Rattle.std.proofs.Common.{refl, ap, ◌∙◌}
use Rattle.apd_disk.proofs.FileCall.{lost_is_synced, no_sync, synced_is_synced}
use Rattle.apd_disk.specs.declared.file.FileDisk.{FileDisk}
use Rattle.apd_disk.proofs.file.FileDiskDisk.sync.Goals as goal

pub returns-then-self-clause-call : goal.returns-then-self-clause-call
returns-then-self-clause-call g c = no_sync c.args.self.now _ refl c.fail.result c.fail.ensures.failed refl

pub returns-then-is_err-clause-call : goal.returns-then-is_err-clause-call
returns-then-is_err-clause-call g c =
    lost_is_synced c.args.self.now _ refl c.fail-then-is_err.result c.fail-then-is_err.ensures.failed c.note.ensures

pub returns-clause-call : goal.returns-clause-call
returns-clause-call g c =
    synced_is_synced c.args.self.now _ (ap (λ (d : FileDisk _). d.len) c.drop_pages_once.ensures.others) tt
    (ap (λ (d : FileDisk _). d.known) c.drop_pages_once.ensures.others ∙ c.note-2.ensures)
