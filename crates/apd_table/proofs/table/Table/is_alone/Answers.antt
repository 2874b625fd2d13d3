use Rattle.std.proofs.Common.{sym, ap, ◌∙◌}
use Rattle.apd_table.proofs.Words.{aid_of, is_some}
use Rattle.apd_table.proofs.Clashes.{alone_iff}
use Rattle.apd_table.proofs.table.Table.is_alone.Goals as goal

pub returns-then-is_associated : goal.returns-then-is_associated
returns-then-is_associated c =
    let here = ap (λ row. is_some (aid_of row)) (sym c.requires) ∙ sym c.is_associated.ensures ∙ c.if-is_associated.true in
    (λ h d apart. c.sound.ensures.one_association c.args.bssid d c.args.addr here apart, λ alone. c.if-is_associated.true)

pub returns-else-is_associated : goal.returns-else-is_associated
returns-else-is_associated c = alone_iff c.args.self.now c.sound.ensures c.args.bssid c.args.addr c.is_elsewhere.result c.is_elsewhere.ensures
