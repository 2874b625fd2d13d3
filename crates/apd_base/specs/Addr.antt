-- Addresses of stations and access points.
use Rattle.std.specs.Prelude.{◌≡◌, ℕ, ◌+◌, ◌*◌, ◌/◌, ◌%◌, ◌<◌, List, [], ◌∷◌, length, nat_lt, nat_le, ◌-◌, ◌&&◌, ◌==◌, Bool, Option, Some, None, slice_index, if◌then◌else◌, refl}
use Rattle.std.specs.List.{AllByRecursion, join_with_byte, list_all, list_any}
use Rattle.std.specs.Option.{option_map}
use Rattle.std.specs.Prelude.{map}
use Rattle.std.specs.declared.cmp.Ordering.{Ordering}
use Rattle.std.specs.Ordering.{nat_cmp, ordering_then, eq_by_cmp}
use Rattle.std.specs.Cmp.Lexicographic.{slice_cmp}
use Rattle.std.specs.Coded.{Coded, code_by, coded_ℕ, coded_list}
use Rattle.apd_base.specs.declared.address.Addr.{Addr}
use Rattle.apd_base.specs.declared.address.Bssid.{Bssid}
use Rattle.apd_base.specs.declared.address.TheConstants.{TEXT_LENGTH}
use Rattle.apd_base.specs.Text.{colon}

-- six bytes
abbrev pub IsAddr : Addr → Type 0
IsAddr a = (length a.0 ≡ 6) × AllByRecursion (λ b. b < 256) a.0

-- by the bytes, the first byte first
abbrev pub addr_cmp : Addr → Addr → Ordering
addr_cmp a b = slice_cmp nat_cmp a.0 b.0

abbrev pub bssid_cmp : Bssid → Bssid → Ordering
bssid_cmp a b = addr_cmp a.0 b.0

-- a hexadecimal digit in lower case
abbrev pub hex_digit : ℕ → ℕ
hex_digit d = if nat_lt d 10 then 48 + d else 87 + d

-- a byte as two digits
abbrev pub hex_byte : ℕ → List ℕ
hex_byte b = hex_digit (b / 16) ∷ hex_digit (b % 16) ∷ []

-- an address in writing: six pairs of lower case digits joined by ':'
abbrev pub text_of : Addr → List ℕ
text_of a = join_with_byte colon (map hex_byte a.0)

-- the code of an address, for finite maps and models
abbrev pub coded_addr : Coded Addr
coded_addr = code_by (List ℕ) (coded_list coded_ℕ) (λ a. a.0) (λ bytes. record { 0 = bytes }) (λ _. refl)

abbrev pub coded_bssid : Coded Bssid
coded_bssid = code_by Addr coded_addr (λ b. b.0) (λ a. record { 0 = a }) (λ _. refl)

-- whether an address is among some
abbrev pub is_among : Addr → List Addr → Bool
is_among a addresses = list_any (eq_by_cmp addr_cmp a) addresses

-- the keys of station rows: by BSSID, and then by address
abbrev pub station_cmp : Bssid × Addr → Bssid × Addr → Ordering
station_cmp a b = ordering_then (bssid_cmp a.0 b.0) (addr_cmp a.1 b.1)

-- the value of a hexadecimal digit of either case
abbrev pub digit_value_of : ℕ → Option ℕ
digit_value_of c =
    if nat_le 48 c && nat_le c 57 then Some (c - 48)
    else (if nat_le 97 c && nat_le c 102 then Some (c - 97 + 10)
    else (if nat_le 65 c && nat_le c 70 then Some (c - 65 + 10) else None))

abbrev pub byte_from : Option ℕ → Option ℕ → Option ℕ
byte_from (Some high) (Some low) = Some (high * 16 + low)
byte_from None low = None
byte_from (Some high) None = None

abbrev pub byte_value : ℕ → ℕ → Option ℕ
byte_value high low = byte_from (digit_value_of high) (digit_value_of low)

-- the byte of the pair of digits number i, and whether a colon stands behind that pair
abbrev pub pair_at : List ℕ → ℕ → Option ℕ
pair_at text i = byte_value (slice_index text (3 * i)) (slice_index text (3 * i + 1))

abbrev pub is_joined_at : List ℕ → ℕ → Bool
is_joined_at text i = slice_index text (3 * i + 2) == colon

abbrev pub is_joined : List ℕ → Bool
is_joined text = list_all (is_joined_at text) (0 ∷ 1 ∷ 2 ∷ 3 ∷ 4 ∷ [])

abbrev pub with_front : Option ℕ → Option (List ℕ) → Option (List ℕ)
with_front (Some x) (Some xs) = Some (x ∷ xs)
with_front (Some x) None = None
with_front None xs = None

-- all of them, if each is there
abbrev pub all_of : List (Option ℕ) → Option (List ℕ)
all_of [] = Some []
all_of (x ∷ xs) = with_front x (all_of xs)

-- the address that a text is: six pairs of digits of either case joined by ':'
unfoldable pub address_of : List ℕ → Option Addr
address_of text =
    if length text == TEXT_LENGTH && is_joined text
    then option_map (λ bytes. record { 0 = bytes }) (all_of (map (pair_at text) (0 ∷ 1 ∷ 2 ∷ 3 ∷ 4 ∷ 5 ∷ [])))
    else None
