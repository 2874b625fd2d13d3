use Rattle.std.proofs.Common.{sym, ap, ◌∙◌}
use Rattle.std.specs.FinMap as map
use Rattle.std.specs.List.{find}
use Rattle.apd_core.proofs.Words.{Addr, Bssid, LastHeard, Moment, due_row, is_due, option_map, station_cmp}
use Rattle.apd_core.proofs.last_heard.LastHeard.due_row.Goals as goal

pub returns : goal.returns
returns c =
    let confs = c.args.confs.now in
    c.first_due_row.ensures
    ∙ ap (λ rows. option_map (λ (row : (Bssid × Addr) × Moment). row.0) (find (is_due confs c.args.now) rows)) (sym (map.entries-from_sorted station_cmp c.self.inside.rows.entries c.self.invariant))
    ∙ ap (λ (heard : LastHeard). due_row confs c.args.now heard) c.self.view_is
