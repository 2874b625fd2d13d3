use Rattle.std.proofs.Common.{not, is_some, sym, ap, ◌∙◌}
use Rattle.apd_core.proofs.Words.{Addr, Bssid}
use Rattle.apd_core.proofs.Laying.{tidied_kept, tidied_removed}
use Rattle.apd_core.proofs.last_heard.LastHeard.tidy_row.Goals as goal

pub returns-then-is_none : goal.returns-then-is_none
returns-then-is_none c k =
    let key : Bssid × Addr = (c.args.bssid, c.args.addr) in
    tidied_removed k key c.args.table.now c.args.self.now c.remove.new.self c.remove.ensures (ap is_some (sym c.get.ensures) ∙ c.is_none.ensures ∙ ap not c.if-is_none.true)

pub returns-else-is_none : goal.returns-else-is_none
returns-else-is_none c k =
    let key : Bssid × Addr = (c.args.bssid, c.args.addr) in
    tidied_kept k key c.args.table.now c.args.self.now (ap is_some (sym c.get.ensures) ∙ c.is_none.ensures ∙ ap not c.if-is_none.false)
