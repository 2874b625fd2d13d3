use Rattle.std.proofs.Common.{◌≡◌, None, sym, subst, ◌∙◌}
use Rattle.apd_table.proofs.Words.{get_inserted, meaning, put_station, station_at, station_exact, station_total}
use Rattle.apd_table.proofs.InTurn.{put_back}
use Rattle.apd_table.proofs.table.Table.putting_back.Goals as goal

pub returns-clause-back : goal.returns-clause-back
returns-clause-back c =
    subst (λ change. put_station c.in-Put.bssid c.in-Put.addr c.in_ok-station.station (meaning change c.args.self.now) ≡ c.args.self.now) (sym c.in-Put.is)
    (put_back c.args.self.now c.in-Put.bssid c.in-Put.addr c.in_ok-station.station c.in-Put.station (sym c.get.ensures ∙ c.in_ok-station.was))

pub returns-clause-memory : goal.returns-clause-memory
returns-clause-memory c none =
    let there = subst (λ change. station_at (meaning change c.args.self.now) c.in-Put.bssid c.in-Put.addr ≡ None) c.in-Put.is none in
    let put = sym (get_inserted station_total station_exact c.args.self.now.stations (c.in-Put.bssid, c.in-Put.addr) c.in-Put.station) ∙ there in
    cc put
