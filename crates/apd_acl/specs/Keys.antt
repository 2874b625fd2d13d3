-- The keys of an ordered set as a finite set.
use Rattle.std.specs.Prelude.{List, map as list_map}
use Rattle.std.specs.FinMap as map
use Rattle.apd_base.specs.Sets.{SetOf}
use Rattle.apd_base.specs.Addr.{addr_cmp}
use Rattle.apd_base.specs.declared.address.Addr.{Addr}

-- nothing at each of them
abbrev pub rows_of : List Addr → List (Addr × Unit {0})
rows_of keys = list_map (λ key. (key, tt)) keys

abbrev pub set_of : List Addr → SetOf addr_cmp
set_of keys = map.from_sorted (rows_of keys)
