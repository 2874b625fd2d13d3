use Rattle.std.proofs.Common.{IsOk, Some, cond, sym, ap, ◌∙◌}
use Rattle.std.specs.FinMap as map
use Rattle.apd_core.proofs.Words.{Addr, Bssid, LastHeard, is_put_of, station_exact, station_total, tied}
use Rattle.apd_core.proofs.Laying.{on_ok}
use Rattle.apd_core.proofs.last_heard.LastHeard.stamp.Goals as goal

pub unwrap-requires : goal.unwrap-requires
unwrap-requires c =
    let key : Bssid × Addr = (c.in-Put.bssid, c.in-Put.addr) in
    c.put.ensures.over (c.requires key (ap (is_put_of key) c.in-Put.is ∙ tied station_total station_exact key))

pub returns-in-Put : goal.returns-in-Put
returns-in-Put c k =
    let key : Bssid × Addr = (c.in-Put.bssid, c.in-Put.addr) in
    let old = c.args.self.now in
    let ok : IsOk c.put.result = c.put.ensures.over (c.requires key (ap (is_put_of key) c.in-Put.is ∙ tied station_total station_exact key)) in
    ap (λ (heard : LastHeard). map.get heard k) (on_ok c.put.result ok c.put.ensures.ok) ∙ map.get-insert station_total old key c.args.moment k
    ∙ sym (ap (λ change. cond (is_put_of k change) (Some c.args.moment) (map.get old k)) c.in-Put.is)
