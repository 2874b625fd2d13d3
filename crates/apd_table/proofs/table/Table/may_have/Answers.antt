use Rattle.std.proofs.Common.{◌<◌, arith}
use Rattle.apd_base.proofs.Cases.{differ}
use Rattle.apd_table.proofs.Clashes.{free_iff}
use Rattle.apd_table.proofs.table.Table.may_have.Goals as goal

pub returns-then-is_free : goal.returns-then-is_free
returns-then-is_free c =
    let fits : c.args.aid < 2048 = omega arith in
    let free = rw c.requires.old at (c.is_free.ensures.0 c.if-is_free.true) in (
      λ h. record {
        free = (free_iff c.args.self.now c.sound.ensures c.args.bssid c.args.addr c.args.aid fits c.args.members.now c.requires.members).0 free;
        alone = c.is_alone.ensures.0 h;
      },
      λ may. c.is_alone.ensures.1 may.alone,
    )

pub returns-else-is_free : goal.returns-else-is_free
returns-else-is_free c =
    let fits : c.args.aid < 2048 = omega arith in
    let free = free_iff c.args.self.now c.sound.ensures c.args.bssid c.args.addr c.args.aid fits c.args.members.now c.requires.members in
    (λ h. cc, λ may. differ _ c.if-is_free.false (c.is_free.ensures.1 (rw c.requires.old (free.1 may.free))))
