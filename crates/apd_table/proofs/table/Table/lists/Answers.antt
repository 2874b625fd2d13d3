use Rattle.std.proofs.Common.{sym}
use Rattle.apd_table.proofs.Words.{list_of, state_of}
use Rattle.apd_table.proofs.ListCounts.{list_count-is}
use Rattle.apd_table.proofs.table.Table.lists.Goals as goal

pub returns-clause-counts : goal.returns-clause-counts
returns-clause-counts c w =
    let s = state_of c.self.inside in
    rw (← c.self.view_is) (sym (list_count-is c.args.bssid w s.lists (list_of c.in_ok-get.field-0.now.lists w) (λ a. c.in_ok-get.ensures.lists w a)))
