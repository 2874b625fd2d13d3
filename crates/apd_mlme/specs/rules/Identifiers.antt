-- Association identifiers (IEEE Std 802.11-2016, 9.4.1.8): which of them are free at a BSSID, and which one a station
-- gets.
use Rattle.std.specs.Prelude.{ℕ, zero, suc, ◌≤◌, ◌==◌, ◌&&◌, Bool, false, not, nat_lt, is_some, List, [], ◌∷◌, Option, Some, None, if◌then◌else◌}
use Rattle.std.specs.List.{list_any}
use Rattle.std.specs.Option.{option_or}
use Rattle.std.specs.FinMap as maps
use Rattle.std.specs.FinMap.{FinMap}
use Rattle.std.proofs.Common.{arith}
use Rattle.apd_base.specs.declared.address.Addr.{Addr}
use Rattle.apd_base.specs.declared.address.Bssid.{Bssid}
use Rattle.apd_base.specs.declared.limits.TheConstants.{MAX_STATIONS}
use Rattle.apd_base.specs.declared.station.Aid.{Aid}
use Rattle.apd_base.specs.declared.station.Station.{Station}
use Rattle.apd_base.specs.declared.station.Station.TheVariants.{Authenticated, Associated}
use Rattle.apd_base.specs.declared.station.StationNumber.{StationNumber}
use Rattle.apd_base.specs.Addr.{bssid_cmp}
use Rattle.apd_base.specs.State.{State, aid_at}
use Rattle.apd_record.specs.declared.change.Change.{Change}
use Rattle.apd_record.specs.declared.change.Change.TheVariants.{Cursor}
use Rattle.apd_table.specs.Addresses.{addresses_at}
use Rattle.apd_table.specs.LeastFree.{last_given}

pub at_least_one : (n : ℕ) → 1 ≤ suc n
at_least_one n = omega arith

pub one_less : (n : ℕ) → suc n ≤ MAX_STATIONS → n ≤ MAX_STATIONS
one_less n high = omega arith

pub at_most_all : MAX_STATIONS ≤ MAX_STATIONS
at_most_all = omega arith

-- whether it is this number
abbrev pub is_number : ℕ → Option ℕ → Bool
is_number n None = false
is_number n (Some m) = m == n

-- whether a station of the BSSID has the identifier
abbrev pub is_taken : State → Bssid → Aid → Bool
is_taken s b aid = list_any (λ a. is_number aid.number (aid_at s b a)) (addresses_at s b)

-- the least of those above a number and up to n that none of them has
unfoldable pub least_free_to : State → Bssid → ℕ → (n : ℕ) → n ≤ MAX_STATIONS → Option Aid
least_free_to s b last zero high = None
least_free_to s b last (suc n) high =
    let aid : Aid = record { number = suc n; low = at_least_one n; high = high } in
    option_or (least_free_to s b last n (one_less n high))
    (if nat_lt last (suc n) && not (is_taken s b aid) then Some aid else None)

-- the least of all above a number, up to 2007
unfoldable pub least_free_above : State → Bssid → ℕ → Option Aid
least_free_above s b last = least_free_to s b last MAX_STATIONS at_most_all

-- identifiers go round (own): the least free one above the one given last, and where there is none the least of all
abbrev pub next_free : State → Bssid → Option Aid
next_free s b = option_or (least_free_above s b (last_given s b)) (least_free_above s b 0)

-- an associated station keeps its own, and any other gets the next one (own)
abbrev pub identifier_for : State → Bssid → Option Station → Option Aid
identifier_for s b (Some (Associated x)) = Some x.aid
identifier_for s b (Some Authenticated) = next_free s b
identifier_for s b None = next_free s b

-- an identifier, as the one that was given last
abbrev pub number_of : Aid → StationNumber
number_of aid = record { number = aid.number; in_range = aid.high }

-- a station that had none was given one, which is from then on the one that the BSSID gave last
abbrev pub cursors_after : State → Bssid → Addr → Aid → FinMap bssid_cmp StationNumber
cursors_after s b a aid = if is_some (aid_at s b a) then s.cursors else maps.insert s.cursors b (number_of aid)

abbrev pub cursor_changes : State → Bssid → Addr → Aid → List Change
cursor_changes s b a aid = if is_some (aid_at s b a) then [] else Cursor b (number_of aid) ∷ []
