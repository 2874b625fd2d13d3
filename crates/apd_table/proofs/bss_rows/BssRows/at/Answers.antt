use Rattle.std.proofs.Common.{sym, ap, ◌∙◌}
use Rattle.apd_table.proofs.Words.{Bss, BssState, Bssid, option_map, slice_get}
use Rattle.std.specs.FinMap as map
use Rattle.apd_table.proofs.BssLemmas.{keys-policy_rows}
use Rattle.apd_table.proofs.bss_rows.BssRows.at.Goals as goal

pub returns : goal.returns
returns c =
    c.bssid_at.ensures ∙ ap (λ rows. option_map (λ (row : Bssid × Bss). row.0) (slice_get rows c.args.place)) c.deref.ensures.value
    ∙ sym (keys-policy_rows c.self.inside.rows.items c.self.invariant c.args.place) ∙ ap (λ (s : BssState). slice_get (map.keys s.policies) c.args.place) c.self.view_is
