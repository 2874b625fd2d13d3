-- Which rows of stations changes put or drop (own).
use Rattle.std.specs.Prelude.{Bool, false, List}
use Rattle.std.specs.List.{list_any}
use Rattle.std.specs.Ordering.{eq_by_cmp}
use Rattle.apd_base.specs.Addr.{station_cmp}
use Rattle.apd_base.specs.declared.address.Addr.{Addr}
use Rattle.apd_base.specs.declared.address.Bssid.{Bssid}
use Rattle.apd_record.specs.declared.change.Change.{Change}
use Rattle.apd_record.specs.declared.change.Change.TheVariants.{Put, Drop}

-- whether a change puts the row of a station
abbrev pub is_put_of : Bssid × Addr → Change → Bool
is_put_of k (Put b a station) = eq_by_cmp station_cmp k (b, a)
is_put_of k other = false

-- whether it puts or drops it
abbrev pub is_of : Bssid × Addr → Change → Bool
is_of k (Put b a station) = eq_by_cmp station_cmp k (b, a)
is_of k (Drop b a) = eq_by_cmp station_cmp k (b, a)
is_of k other = false

abbrev pub puts_row : List Change → Bssid × Addr → Bool
puts_row changes k = list_any (is_put_of k) changes

abbrev pub touches_row : List Change → Bssid × Addr → Bool
touches_row changes k = list_any (is_of k) changes
