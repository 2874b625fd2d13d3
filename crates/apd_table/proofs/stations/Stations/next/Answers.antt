use Rattle.apd_table.proofs.Words.{Addr, Bssid, deref_pair, option_map}
use Rattle.apd_table.proofs.Firsts.{Above, next_is_least, next_is_row, next_is_none}
use Rattle.apd_table.proofs.StationRows.{above_of}
use Rattle.apd_table.proofs.stations.Stations.next.Goals as goal

above : (c : goal.After-if_row_of) → Above c.args.bssid c.args.addr c.self.inside.rows.entries c.self.invariant.0 (option_map deref_pair c.next.result)
above c =
    let key : Bssid × Addr = (c.args.bssid, c.args.addr) in
    let part = c.range.ensures.in_range tt in
    above_of key c.self.inside.rows.entries c.range.result part.1 part.2 part.5 c.next.new.self c.next.result c.next.ensures.steps

pub returns-clause-least : goal.returns-clause-least
returns-clause-least c = rw (← c.self.view_is) (next_is_least c.args.bssid c.args.addr c.self.inside.rows.entries c.self.invariant.0 (option_map deref_pair c.next.result) (above c) c.if_row_of.result c.if_row_of.ensures)

pub returns-clause-row : goal.returns-clause-row
returns-clause-row c = rw (← c.self.view_is) (next_is_row c.args.bssid c.args.addr c.self.inside.rows.entries c.self.invariant.0 (option_map deref_pair c.next.result) (above c) c.if_row_of.result c.if_row_of.ensures)

pub returns-clause-none : goal.returns-clause-none
returns-clause-none c = rw (← c.self.view_is) (next_is_none c.args.bssid c.args.addr c.self.inside.rows.entries c.self.invariant.0 (option_map deref_pair c.next.result) (above c) c.if_row_of.result c.if_row_of.ensures)
