-- What `==` says of stations' rows, and that a row which is there is not put again.
use Rattle.std.proofs.Common.{◌≡◌, ◌&&◌, true, Option, Some, None, inl, inr, refl, sym, ap, ◌∙◌}
use Rattle.apd_table.proofs.Words.{Addr, Associated, Authenticated, Bssid, State, Station, and_parts, false≢true, get_insert_other, get_inserted, one_or_apart, option_eq, put_station, same_map, station_at, station_exact, station_total}
use Rattle.std.specs.Prelude.{◌==◌}
use Rattle.std.specs.FinMap as map
use Rattle.std.proofs.lemmas.Bool.Decides.{Decides-eqb}
use Rattle.apd_base.specs.contracts.station.StationPartialEq.TheImpl as station
use Rattle.apd_base.proofs.StationLemmas.{same_aid}

pub same_station : (s t : Station) → (station.eq-value).it s t ≡ true → s ≡ t
same_station Authenticated Authenticated e = refl
same_station (Associated x) (Associated y) e =
    let first = and_parts (x.aid.number == y.aid.number) ((x.capability == y.capability) && (x.listen_interval == y.listen_interval)) e in
    let behind = and_parts (x.capability == y.capability) (x.listen_interval == y.listen_interval) first.1 in
    let aids = same_aid x.aid y.aid ((Decides-eqb x.aid.number y.aid.number).0 first.0) in
    (λ i. Associated (record { aid = aids i; capability = (Decides-eqb x.capability y.capability).0 behind.0 i; listen_interval = (Decides-eqb x.listen_interval y.listen_interval).0 behind.1 i }))
same_station s t e = absurd (false≢true e)

pub same_row : (old : Option Station) (v : Station) → option_eq (station.eq-value).it old (Some v) ≡ true → old ≡ Some v
same_row None v e = absurd (false≢true e)
same_row (Some s) v e = ap Some (same_station s v e)

-- a row that is there, put again
pub put_there : (s : State) (b : Bssid) (a : Addr) (v : Station) → station_at s b a ≡ Some v → put_station b a v s ≡ s
put_there s b a v there =
    ap (λ stations. record s { stations = stations })
    (same_map station_total station_exact (map.insert s.stations (b, a) v) s.stations (λ q.
    elim (one_or_apart station_total station_exact q (b, a)) [
      | inl e ↦ ap (map.get (map.insert s.stations (b, a) v)) e ∙ get_inserted station_total station_exact s.stations (b, a) v ∙ sym there ∙ sym (ap (map.get s.stations) e)
      | inr ne ↦ get_insert_other station_total station_exact s.stations (b, a) v q ne
    ]))
