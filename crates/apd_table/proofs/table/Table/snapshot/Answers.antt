use Rattle.std.proofs.Common.{◌≤◌, ◌++◌, List, length, append_assoc, map as list_map, sym, subst, ap, ◌∙◌}
use Rattle.std.specs.FinMap as map
use Rattle.apd_table.proofs.Words.{AreChanges, Change, StaySound, canonical, cursor_changes, empty_state, list_changes, meaning_of, policy_changes, records_of, station_change}
use Rattle.apd_table.proofs.Replays.{canonical_leads}
use Rattle.apd_table.proofs.SnapshotSize.{canonical_size}
use Rattle.apd_table.proofs.table.Table.snapshot.Goals as goal

pub returns-clause-canonical : goal.returns-clause-canonical
returns-clause-canonical c =
    let inside = c.self.inside in
    let policies = policy_changes inside.bss.policies in
    let cursors = cursor_changes inside.bss.cursors in
    let lists = list_changes inside.bss.lists in
    let stations = list_map station_change (map.entries inside.stations) in
    c.into_vec.ensures.items ∙ c.in_ok-add_changes-2.ensures
    ∙ ap (λ (l : List Change). l ++ stations) (c.in_ok-add_changes.ensures ∙ ap (λ (l : List Change). l ++ (policies ++ (cursors ++ lists))) c.new-changes.ensures)
    ∙ append_assoc policies (cursors ++ lists) stations ∙ ap (λ (l : List Change). policies ++ l) (append_assoc cursors lists stations)
    ∙ ap canonical c.self.view_is

pub returns-clause-sound : goal.returns-clause-sound
returns-clause-sound c = subst (λ (l : List Change). StaySound l empty_state) (sym (returns-clause-canonical c)) (canonical_leads c.args.self.now c.sound.ensures).sound

pub returns-clause-leads : goal.returns-clause-leads
returns-clause-leads c = ap (λ (l : List Change). meaning_of l empty_state) (returns-clause-canonical c) ∙ (canonical_leads c.args.self.now c.sound.ensures).meaning

pub returns-clause-size : goal.returns-clause-size
returns-clause-size c =
    let is = returns-clause-canonical c in
    let are : AreChanges (canonical c.args.self.now) = subst AreChanges (sym c.into_vec.ensures.items ∙ is) c.into_vec.ensures.known in
    subst (λ (l : List Change). length (records_of l) ≤ 550648) (sym is) (canonical_size c.args.self.now c.sound.ensures are)
