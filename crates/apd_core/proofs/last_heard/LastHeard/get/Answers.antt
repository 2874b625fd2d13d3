use Rattle.std.proofs.Common.{ap, ◌∙◌}
use Rattle.std.specs.FinMap as map
use Rattle.apd_core.proofs.Words.{Addr, Bssid, get_lookup, station_cmp}
use Rattle.apd_core.proofs.last_heard.LastHeard.get.Goals as goal

pub returns : goal.returns
returns c =
    let key : Bssid × Addr = (c.args.bssid, c.args.addr) in
    c.copied.ensures ∙ c.get.ensures.value ∙ get_lookup station_cmp c.self.inside.rows.entries c.self.invariant key ∙ ap (λ m. map.get m key) c.self.view_is
