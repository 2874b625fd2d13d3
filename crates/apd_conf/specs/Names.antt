-- Which bytes stand as a name in a configuration.
use Rattle.std.specs.Prelude.{ℕ, Bool, ◌&&◌, nat_le, List, length}
use Rattle.std.specs.List.{list_all}

-- visible, and no blank
abbrev pub is_visible : ℕ → Bool
is_visible b = nat_le 0x21 b && nat_le b 0x7e

-- the name of a network interface: 1 to 15 visible bytes
abbrev pub is_interface_name : List ℕ → Bool
is_interface_name bytes = nat_le 1 (length bytes) && nat_le (length bytes) 15 && list_all is_visible bytes

-- the name of a network: 1 to 32 bytes (IEEE Std 802.11-2016, 9.4.2.2, where the empty SSID stands
-- for any network)
abbrev pub is_ssid : List ℕ → Bool
is_ssid bytes = nat_le 1 (length bytes) && nat_le (length bytes) 32

-- the name of a file: any bytes but none
abbrev pub is_file_name : List ℕ → Bool
is_file_name bytes = nat_le 1 (length bytes)
