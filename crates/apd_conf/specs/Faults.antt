-- The first fault of a file is the one that is told.
use Rattle.std.specs.Prelude.{◌≡◌, ℕ, ◌<◌, Option, Some, None, List, codes}
use Rattle.apd_conf.specs.declared.conf_fault.Required.{Required}
use Rattle.apd_conf.specs.declared.conf_fault.Required.TheVariants.{Interface, Bssid, Ssid}

-- from the faults of the lines, each by its place, the first
pub record IsFirstFault {F : Type 0} (fault_at : ℕ → Option F) (fault : F) : Type 0 where
  pub place : ℕ
  pub there : fault_at place ≡ Some fault
  pub none_before : (n : ℕ) → n < place → fault_at n ≡ None

abbrev pub IsFaultless : {F : Type 0} → (ℕ → Option F) → Type 0
IsFaultless fault_at = (n : ℕ) → fault_at n ≡ None

-- the name of a line that a file must have, as a word
abbrev pub required_word : Required → List ℕ
required_word Interface = codes "interface"
required_word Bssid = codes "bssid"
required_word Ssid = codes "ssid"
