-- Which values the names of a configuration file take.
use Rattle.std.specs.Prelude.{ℕ, Bool, true, false, ◌%◌, ◌==◌, ◌&&◌, ◌||◌, not, nat_le, List, codes, Option, Some, None, slice_index, unwrap_or, option_and_then}
use Rattle.std.specs.Str.{bytes_eq, is_utf8}
use Rattle.apd_base.specs.Addr.{address_of}
use Rattle.apd_base.specs.Text.{decimal_number}
use Rattle.apd_base.specs.declared.address.Addr.{Addr}
use Rattle.apd_conf.specs.declared.rule.Range.{Range}
use Rattle.apd_conf.specs.declared.rule.Rule.{Rule}
use Rattle.apd_conf.specs.declared.rule.Rule.TheVariants.{Interface, Bssid, Ssid, Band, Number, File, Ignored, Security}
use Rattle.apd_conf.specs.Names.{is_interface_name, is_ssid, is_file_name}

-- the number that 1 to 10 decimal digits write, each of which is at most 9,999,999,999
unfoldable pub number_of : List ℕ → Option ℕ
number_of text = decimal_number 10 9999999999 text

abbrev pub is_within : Range → Option ℕ → Bool
is_within range None = false
is_within range (Some n) = nat_le range.least n && nat_le n range.greatest

-- an address of one station, no group's: bit 0 of its first byte is clear (IEEE Std 802.11-2016, 9.2.4.3.3)
abbrev pub is_individual : Option Addr → Bool
is_individual None = false
is_individual (Some a) = not (slice_index a.0 0 % 2 == 1)

abbrev pub is_band : List ℕ → Bool
is_band text = bytes_eq text (codes "a") || bytes_eq text (codes "b") || bytes_eq text (codes "g")

-- whether a rule takes a value
unfoldable pub accepts : Rule → List ℕ → Bool
accepts Interface value = is_interface_name value
accepts Bssid value = is_individual (address_of value)
accepts Ssid value = is_ssid value
accepts Band value = is_band value
accepts (Number range) value = is_within range (number_of value)
accepts File value = is_utf8 value && is_file_name value
accepts Ignored value = true
accepts Security value = bytes_eq value (codes "0")

-- the number of a value, and the default where there is none
abbrev pub number_or_default : Range → Option (List ℕ) → ℕ
number_or_default range value = unwrap_or (option_and_then number_of value) range.default
