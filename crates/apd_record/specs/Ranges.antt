-- The values that a change can hold: addresses of six bytes, and numbers of two.
use Rattle.std.specs.Prelude.{◌<◌, ◌^◌, List}
use Rattle.std.specs.List.{AllByRecursion}
use Rattle.apd_base.specs.Addr.{IsAddr}
use Rattle.apd_base.specs.declared.address.Bssid.{Bssid}
use Rattle.apd_base.specs.declared.station.Station.{Station}
use Rattle.apd_base.specs.declared.station.Station.TheVariants.{Authenticated, Associated}
use Rattle.apd_record.specs.declared.change.Change.{Change}
use Rattle.apd_record.specs.declared.change.Change.TheVariants.{Put, Drop, ListAdd, ListDel, ListClear, Policy, Cursor}

abbrev pub IsBssid : Bssid → Type 0
IsBssid b = IsAddr b.0

abbrev pub IsStation : Station → Type 0
IsStation Authenticated = Unit {0}
IsStation (Associated x) = (x.capability < 2 ^ 16) × (x.listen_interval < 2 ^ 16)

-- the ranges of its fields: each value of the type `Change` is in them
abbrev pub IsChange : Change → Type 0
IsChange (Put b a station) = IsBssid b × IsAddr a × IsStation station
IsChange (Drop b a) = IsBssid b × IsAddr a
IsChange (ListAdd b w a) = IsBssid b × IsAddr a
IsChange (ListDel b w a) = IsBssid b × IsAddr a
IsChange (ListClear b w) = IsBssid b
IsChange (Policy b policy) = IsBssid b
IsChange (Cursor b last) = IsBssid b

abbrev pub AreChanges : List Change → Type 0
AreChanges changes = AllByRecursion IsChange changes
