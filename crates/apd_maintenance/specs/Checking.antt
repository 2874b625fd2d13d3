-- What a check of a store prints (own format), and what it finds of the device and leaves of it.
use Rattle.std.specs.Prelude.{◌≡◌, ◌≤◌, ◌+◌, ℕ, List, [], ◌++◌, codes, Option, Some, None}
use Rattle.std.specs.Fmt.{decimal}
use Rattle.std.specs.FinMap as map
use Rattle.std.specs.Io.KnownBytes.{Appends}
use Rattle.std.specs.List.{flat_map}
use Rattle.std.specs.Option.{option_map}
use Rattle.apd_base.specs.Addr.{text_of}
use Rattle.apd_base.specs.State.{State, count, list_count, policy_at}
use Rattle.apd_base.specs.declared.address.Bssid.{Bssid}
use Rattle.apd_base.specs.declared.limits.TheConstants.{DEVICE_LENGTH}
use Rattle.apd_base.specs.declared.station.Which.TheVariants.{Accept, Deny}
use Rattle.apd_disk.specs.Disk.{LeavesOnly, Only, DiskModel}
use Rattle.apd_store.specs.Image.{Shows}
use Rattle.apd_store.specs.Recovery.{IsNotRecovered}
use Rattle.apd_table.specs.Allowed.{mode_and_max}
use Rattle.apd_maintenance.specs.Listing.{rows_text}
use Rattle.apd_maintenance.specs.declared.checking.Detail.{Detail}
use Rattle.apd_maintenance.specs.declared.checking.Detail.TheVariants.{Counts, Rows}
use Rattle.apd_maintenance.specs.declared.checking.CheckFault.{CheckFault}
use Rattle.apd_maintenance.specs.declared.checking.CheckFault.TheVariants as fault

-- ---- what is printed
-- a policy's mode and greatest number of stations, how many have a row, and how long its lists are
abbrev pub counts_text : ℕ × ℕ → ℕ → ℕ → ℕ → List ℕ
counts_text policy stations accept deny =
    codes " mode " ++ (decimal policy.0
    ++ (codes " max " ++ (decimal policy.1
    ++ (codes " stations " ++ (decimal stations
    ++ (codes " accept " ++ (decimal accept
    ++ (codes " deny " ++ (decimal deny
    ++ codes "\n")))))))))

abbrev pub line_with : Bssid → ℕ × ℕ → ℕ → ℕ → ℕ → List ℕ
line_with b policy stations accept deny = codes "bss " ++ (text_of b.0 ++ counts_text policy stations accept deny)

-- nothing where it has no policy
abbrev pub line_by : State → Bssid → Option (ℕ × ℕ) → List ℕ
line_by s b None = []
line_by s b (Some policy) = line_with b policy (count s b) (list_count s b Accept) (list_count s b Deny)

abbrev pub line_of : State → Bssid → List ℕ
line_of s b = line_by s b (option_map mode_and_max (policy_at s b))

-- its line, and behind it those of its stations and lists where these are asked for
abbrev pub bss_text : Detail → State → Bssid → List ℕ
bss_text Counts s b = line_of s b
bss_text Rows s b = line_of s b ++ rows_text s b

-- that of each BSSID with a policy; they rise
abbrev pub table_text : Detail → State → List ℕ
table_text detail s = flat_map (bss_text detail s) (map.keys s.policies)

-- ---- what is found of the device, and left of it
-- It has a store's length, and the count of its failures stays. An honest one shows this table, reads as it did, and leaves
-- no image that could not be left before.
pub record IsChecked {D : Type 0} (disk : DiskModel D) (device left : D) (table : State) : Type 0 where
  pub length : disk.size device ≡ DEVICE_LENGTH
  pub count : disk.failed left ≡ disk.failed device
  pub was_honest : disk.honest left → disk.honest device
  pub shown : disk.honest left → Shows (disk.reads device) table
  pub stays : disk.honest left → disk.reads left ≡ disk.reads device
  pub durable : disk.honest left → Only (disk.reads device) (disk.may_leave left)
  pub any_moment : disk.honest left → LeavesOnly disk device left (disk.may_leave device)
  pub calls : disk.honest left → disk.moment left ≤ disk.moment device + 2

-- its table was printed in this detail behind what a writer held
pub record IsPrinted {D : Type 0} (disk : DiskModel D) (detail : Detail) (held holds : Option (List ℕ)) (device left : D) : Type 0 where
  pub table : State
  pub read : IsChecked disk device left table
  pub printed : Appends held holds (table_text detail table)

-- it was refused as a recovery refuses it; or it is a store, whose table could not be printed
abbrev pub IsRefused : {D : Type 0} → DiskModel D → D → D → CheckFault → Type 0
IsRefused disk device left (fault.Store why) = IsNotRecovered disk device left why
IsRefused disk device left fault.Writer = (table : State) × IsChecked disk device left table
IsRefused disk device left fault.NoMemory = (table : State) × IsChecked disk device left table

-- a device was given up so
abbrev pub IsGivenUp : {D : Type 0} → DiskModel D → D → CheckFault → Type 0
IsGivenUp {D} disk device fault = (left : D) × IsRefused disk device left fault
