-- A BSSID's two lists of addresses.
use Rattle.std.specs.Prelude.{Bool}
use Rattle.std.specs.FinMap as map
use Rattle.apd_base.specs.Sets as set
use Rattle.apd_base.specs.Sets.{SetOf}
use Rattle.apd_base.specs.Addr.{addr_cmp}
use Rattle.apd_base.specs.declared.address.Addr.{Addr}
use Rattle.apd_base.specs.declared.station.AclMode.{AclMode}
use Rattle.apd_base.specs.declared.station.Which.{Which}
use Rattle.apd_base.specs.declared.station.Which.TheVariants.{Accept, Deny}
use Rattle.apd_acl.specs.Policy.{is_allowed}
use Rattle.apd_acl.specs.declared.lists.Lists.{Lists}

-- no address in either
abbrev pub no_lists : Lists
no_lists = record { accept = map.empty; deny = map.empty }

abbrev pub list_of : Lists → Which → SetOf addr_cmp
list_of lists Accept = lists.accept
list_of lists Deny = lists.deny

abbrev pub has : Lists → Which → Addr → Bool
has lists w a = set.contains (list_of lists w) a

-- whether a station is allowed in a mode
abbrev pub allowed : Lists → Addr → AclMode → Bool
allowed lists a mode = is_allowed mode (has lists Accept a) (has lists Deny a)

-- the lists with another in the place of one
abbrev pub with_list : Lists → Which → SetOf addr_cmp → Lists
with_list lists Accept list = record lists { accept = list }
with_list lists Deny list = record lists { deny = list }

-- with an address more in one of them, with one less, and with none
abbrev pub with_address : Lists → Which → Addr → Lists
with_address lists w a = with_list lists w (map.insert (list_of lists w) a tt)

abbrev pub without_address : Lists → Which → Addr → Lists
without_address lists w a = with_list lists w (map.remove (list_of lists w) a)

abbrev pub without_addresses : Lists → Which → Lists
without_addresses lists w = with_list lists w map.empty
