use Rattle.std.proofs.Common.{sym, ap, ◌∙◌}
use Rattle.apd_table.proofs.Words.{State, denials_by, state_of}
use Rattle.apd_table.proofs.DeniedRows.{none_denied_by}
use Rattle.apd_table.proofs.table.Table.denials_by.Goals as goal

pub returns-in-None : goal.returns-in-None
returns-in-None c =
    c.new.ensures.items ∙ sym (none_denied_by (state_of c.self.inside) c.args.bssid c.args.mode c.self.invariant.sound c.in-None.ensures.policy)
    ∙ ap (λ (s : State). denials_by s c.args.bssid c.args.mode) c.self.view_is
