-- List files: each line adds an address to the list so far, or takes one away.
use Rattle.std.specs.Prelude.{◌≡◌, ℕ, ◌+◌, ◌==◌, ◌||◌, Bool, true, nat_lt, ◌≤◌, List, [], ◌∷◌, length, take, drop, fold, slice_get, slice_index, AllPairs, Option, Some, None, if◌then◌else◌}
use Rattle.std.specs.Option.{option_map}
use Rattle.std.specs.FinMap as finmap
use Rattle.std.specs.declared.cmp.Ordering.TheVariants.{Less}
use Rattle.apd_base.specs.Sets.{SetOf}
use Rattle.apd_base.specs.Addr.{addr_cmp, address_of}
use Rattle.apd_base.specs.Text.{blank, hyphen, tab}
use Rattle.apd_base.specs.declared.address.Addr.{Addr}
use Rattle.apd_base.specs.declared.address.TheConstants.{TEXT_LENGTH}
use Rattle.apd_base.specs.declared.limits.TheConstants.{MAX_LISTED}
use Rattle.apd_conf.specs.declared.list_file.Edit.{Edit}
use Rattle.apd_conf.specs.declared.list_file.Edit.TheVariants.{Skip, Add, Remove}
use Rattle.apd_conf.specs.declared.list_fault.ListFault.{ListFault}
use Rattle.apd_conf.specs.declared.list_fault.ListFault.TheVariants.{BadAddress, TooMany, NoMemory}
use Rattle.apd_conf.specs.Lines.{is_skipped}
use Rattle.apd_conf.specs.Faults.{IsFirstFault, IsFaultless}

-- the end, or a blank or a tab and anything
abbrev pub is_end : List ℕ → Bool
is_end [] = true
is_end (b ∷ bs) = b == blank || b == tab

-- the address at the front of a text, and then the end
abbrev pub address_at : List ℕ → Option Addr
address_at text = if is_end (drop TEXT_LENGTH text) then address_of (take TEXT_LENGTH text) else None

-- what a line does, if it is one of a list file: a '-' in front takes the address away
unfoldable pub edit_of : List ℕ → Option Edit
edit_of line =
    if is_skipped line then Some Skip
    else (if slice_index line 0 == hyphen then option_map Remove (address_at (drop 1 line)) else option_map Add
    (address_at line))

abbrev pub after_edit : SetOf addr_cmp → Option Edit → SetOf addr_cmp
after_edit set None = set
after_edit set (Some Skip) = set
after_edit set (Some (Add a)) = finmap.insert set a tt
after_edit set (Some (Remove a)) = finmap.remove set a

-- the addresses after these lines, of none before them
abbrev pub addresses_in : List (List ℕ) → SetOf addr_cmp
addresses_in lines = fold (λ set line. after_edit set (edit_of line)) finmap.empty lines

-- the fault of a line whose place is n, with the list after it: it is no line of a list file, or makes more
-- addresses than a list may have
abbrev pub fault_of : ℕ → Option Edit → SetOf addr_cmp → Option ListFault
fault_of n None after = Some (BadAddress (n + 1))
fault_of n (Some edit) after = if nat_lt MAX_LISTED (finmap.len after) then Some TooMany else None

abbrev pub fault_by : ℕ → Option (List ℕ) → SetOf addr_cmp → Option ListFault
fault_by n None after = None
fault_by n (Some line) after = fault_of n (edit_of line) after

abbrev pub fault_at : List (List ℕ) → ℕ → Option ListFault
fault_at lines n = fault_by n (slice_get lines n) (addresses_in (take (n + 1) lines))

-- what is read where no line is faulty: the addresses in their order
pub record IsListOf (lines : List (List ℕ)) (list : List Addr) : Type 0 where
  pub faultless : IsFaultless (fault_at lines)
  pub addresses : list ≡ finmap.keys (addresses_in lines)

-- the fault of other lines. That memory runs out is no fault of theirs
abbrev pub IsFaultOf : List (List ℕ) → ListFault → Type 0
IsFaultOf lines (BadAddress n) = IsFirstFault (fault_at lines) (BadAddress n)
IsFaultOf lines TooMany = IsFirstFault (fault_at lines) TooMany
IsFaultOf lines NoMemory = ⊥

-- what is read of every list file: no more addresses than a list may have, each below those behind it
pub record IsList (list : List Addr) : Type 0 where
  pub few : length list ≤ MAX_LISTED
  pub rising : AllPairs (λ a b. addr_cmp a b ≡ Less) list
