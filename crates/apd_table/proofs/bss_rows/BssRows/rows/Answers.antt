use Rattle.std.proofs.Common.{map as list_map, sym, ap, ◌∙◌}
use Rattle.std.specs.FinMap as map
use Rattle.apd_table.proofs.Words.{Bss, BssState, Bssid, bssid_cmp, entries-from_sorted, members_of, parts_of}
use Rattle.apd_table.proofs.BssLemmas.{keys_are, sorted-parts_of}
use Rattle.apd_table.proofs.bss_rows.BssRows.rows.Goals as goal

pub returns-clause-keys : goal.returns-clause-keys
returns-clause-keys c = ap (list_map (λ (row : Bssid × Bss). row.0)) c.deref.ensures.value ∙ keys_are c.self.inside.rows.items c.self.invariant ∙ ap (λ (s : BssState). map.keys s.policies) c.self.view_is

pub returns-clause-members : goal.returns-clause-members
returns-clause-members c =
    let rows = c.self.inside.rows.items in
    ap (parts_of members_of) c.deref.ensures.value ∙ sym (entries-from_sorted bssid_cmp (parts_of members_of rows) (sorted-parts_of members_of rows c.self.invariant)) ∙ ap (λ (s : BssState). map.entries s.members) c.self.view_is
