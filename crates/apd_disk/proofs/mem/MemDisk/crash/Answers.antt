use Rattle.std.proofs.Common.{arith}
use Rattle.std.proofs.lemmas.Grind.{common_steps}
use Rattle.apd_disk.specs.for_proofs.MemLaws.{length-reads}
use Rattle.apd_disk.proofs.mem.MemDisk.crash.Goals as goal

pub copy_from_slice-requires : goal.copy_from_slice-requires
copy_from_slice-requires c =
    let d = c.args.self in
    grind (arith, common_steps, length-reads d.initial.items d.calls.items d.bytes.items d.stands d.fit, c.stop.ensures.size, c.deref-2.ensures.value, c.deref-2.ensures.len)
