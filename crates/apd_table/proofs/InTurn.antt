-- Changes that are made one after another.
use Rattle.std.proofs.Common.{◌≡◌, ℕ, ◌+◌, ◌<◌, List, [], ◌∷◌, Some, inl, inr, length, drop, get_or, refl, sym, ap, ◌∙◌, add-one}
use Rattle.std.proofs.Math.Seq.{drop-cons}
use Rattle.std.specs.FinMap as map
use Rattle.apd_record.specs.declared.change.Change.TheVariants.{Policy}
use Rattle.apd_table.specs.InPlace.{IsDrop}
use Rattle.apd_table.proofs.Words.{Addr, Bssid, Change, Cursor, Drop, ListAdd, ListClear, ListDel, Put, Sound, State, Station, StaySound, get_insert_other, get_inserted, one_or_apart, put_station, same_map, station_at, station_exact, station_total}

pub stay_first : (changes : List Change) (s : State) → StaySound changes s → Sound s
stay_first [] s h = h
stay_first (change ∷ changes) s h = h.0

-- what is left of a list at one of its items
pub next : (changes : List Change) (i : ℕ) (change : Change) → i < length changes → change ≡ get_or changes i change → drop i changes ≡ change ∷ drop (i + 1) changes
next changes i change lt is = drop-cons changes i change lt ∙ (λ j. sym is j ∷ drop (sym (add-one i) j) changes)

-- what holds of each drop holds where the change is one
pub dropped : {Q : Type 0} (change : Change) → ((b : Bssid) (a : Addr) → change ≡ Drop b a → Q) → IsDrop change → Q
dropped (Drop b a) each is = each b a refl
dropped (Put b a station) each is = absurd is
dropped (ListAdd b w a) each is = absurd is
dropped (ListDel b w a) each is = absurd is
dropped (ListClear b w) each is = absurd is
dropped (Policy b policy) each is = absurd is
dropped (Cursor b last) each is = absurd is

-- a row put over an old one, and the old one put back
pub put_back : (s : State) (b : Bssid) (a : Addr) (old new : Station) → station_at s b a ≡ Some old → put_station b a old (put_station b a new s) ≡ s
put_back s b a old new there =
    let m = map.insert s.stations (b, a) new in
    ap (λ stations. record s { stations = stations })
    (same_map station_total station_exact (map.insert m (b, a) old) s.stations (λ q.
    elim (one_or_apart station_total station_exact q (b, a)) [
      | inl e ↦ ap (map.get (map.insert m (b, a) old)) e ∙ get_inserted station_total station_exact m (b, a) old ∙ sym there ∙ sym (ap (map.get s.stations) e)
      | inr ne ↦ get_insert_other station_total station_exact m (b, a) old q ne ∙ get_insert_other station_total station_exact s.stations (b, a) new q ne
    ]))
