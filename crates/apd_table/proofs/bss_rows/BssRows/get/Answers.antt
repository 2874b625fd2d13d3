use Rattle.std.proofs.Common.{sym, ap, ◌∙◌}
use Rattle.apd_table.proofs.Words.{BssState, bssid_cmp, contains, cursor_of, is_listed_in, members_of, option_map, policy_of, valued}
use Rattle.std.specs.FinMap as map
use Rattle.apd_table.proofs.BssLemmas.{get-parts_of, contains-list_rows}
use Rattle.apd_table.proofs.bss_rows.BssRows.get.Goals as goal

pub returns-clause-policy : goal.returns-clause-policy
returns-clause-policy c =
    ap (option_map policy_of) (valued bssid_cmp c.args.bssid c.self.inside.rows.items _ c.deref.ensures.value c.self.invariant _ c.value.ensures)
    ∙ sym (get-parts_of policy_of c.self.inside.rows.items c.self.invariant c.args.bssid) ∙ ap (λ (s : BssState). map.get s.policies c.args.bssid) c.self.view_is

pub returns-clause-lists : goal.returns-clause-lists
returns-clause-lists c w a =
    ap (λ r. is_listed_in r w a) (valued bssid_cmp c.args.bssid c.self.inside.rows.items _ c.deref.ensures.value c.self.invariant _ c.value.ensures)
    ∙ sym (contains-list_rows c.self.inside.rows.items c.args.bssid w a c.self.invariant) ∙ ap (λ (s : BssState). contains s.lists (c.args.bssid, w, a)) c.self.view_is

pub returns-clause-members : goal.returns-clause-members
returns-clause-members c =
    ap (option_map members_of) (valued bssid_cmp c.args.bssid c.self.inside.rows.items _ c.deref.ensures.value c.self.invariant _ c.value.ensures)
    ∙ sym (get-parts_of members_of c.self.inside.rows.items c.self.invariant c.args.bssid) ∙ ap (λ (s : BssState). map.get s.members c.args.bssid) c.self.view_is

pub returns-clause-cursor : goal.returns-clause-cursor
returns-clause-cursor c =
    ap (option_map cursor_of) (valued bssid_cmp c.args.bssid c.self.inside.rows.items _ c.deref.ensures.value c.self.invariant _ c.value.ensures)
    ∙ sym (get-parts_of cursor_of c.self.inside.rows.items c.self.invariant c.args.bssid) ∙ ap (λ (s : BssState). map.get s.cursors c.args.bssid) c.self.view_is
