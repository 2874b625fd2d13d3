use Rattle.std.proofs.Common.{sym, ap, ◌∙◌}
use Rattle.std.specs.FinMap as map
use Rattle.apd_table.proofs.Words.{BssState, policy_of}
use Rattle.apd_table.proofs.BssLemmas.{len-parts_of}
use Rattle.apd_table.proofs.bss_rows.BssRows.len.Goals as goal

pub returns : goal.returns
returns c =
    c.len.ensures ∙ c.self.inside.rows.ok.0 ∙ sym (len-parts_of policy_of c.self.inside.rows.items c.self.invariant) ∙ ap (λ (s : BssState). map.len s.policies) c.self.view_is
