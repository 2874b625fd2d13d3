use Rattle.std.proofs.Common.{sym}
use Rattle.apd_table.proofs.table.Table.words.Goals as goal

pub returns-clause-words : goal.returns-clause-words
returns-clause-words c =
    rw (← c.self.view_is) (c.self.invariant.members c.args.bssid c.in_ok-get.field-0.now.members (sym c.in_ok-get.ensures.members)).words
