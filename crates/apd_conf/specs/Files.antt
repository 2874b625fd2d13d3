-- The configurations that a daemon is given by files, by what was read of each file: its bytes, or that it can't be read.
use Rattle.std.specs.Prelude.{◌≡◌, ℕ, List, [], ◌∷◌, length, Option, None, Some, nat_le, ◌⊎◌, if◌then◌else◌}
use Rattle.std.specs.List.{AllZip}
use Rattle.std.specs.String.{string_bytes}
use Rattle.apd_base.specs.declared.address.Addr.{Addr}
use Rattle.apd_conf.specs.BuiltIn.{built_in}
use Rattle.apd_conf.specs.ConfFile.{IsConfOf, IsFaultOf}
use Rattle.apd_conf.specs.Confs.{AreConfs, IsRefused}
use Rattle.apd_conf.specs.Lines.{lines}
use Rattle.apd_conf.specs.ListFile.{IsListOf}
use Rattle.apd_conf.specs.ListFile as lists
use Rattle.apd_conf.specs.declared.conf.Conf.{Conf}
use Rattle.apd_conf.specs.declared.configuration.ConfigurationFault.{ConfigurationFault}
use Rattle.apd_conf.specs.declared.configuration.ConfigurationFault.TheVariants as fault
use Rattle.apd_conf.specs.declared.configuration.FilesRead.{FilesRead}
use Rattle.apd_conf.specs.declared.configuration.TheConstants.{MAX_FILE}

-- the bytes that count: a file that has too many is one that can't be read
abbrev pub readable : Option (List ℕ) → Option (List ℕ)
readable None = None
readable (Some bytes) = if nat_le (length bytes) MAX_FILE then Some bytes else None

-- it is told that the file of this name can't be read
abbrev pub IsUnread : List ℕ → ConfigurationFault → Type 0
IsUnread name (fault.CannotRead told) = string_bytes told ≡ name
IsUnread name f = ⊥

-- the configuration of a file, without lists
abbrev pub IsConfOfFile : Option (List ℕ) → Conf → Type 0
IsConfOfFile None conf = ⊥
IsConfOfFile (Some bytes) conf = IsConfOf (lines bytes) conf

-- why a file of this name gives none: it can't be read, or its lines are faulty
abbrev pub IsConfFault : List ℕ → Option (List ℕ) → ConfigurationFault → Type 0
IsConfFault name None f = IsUnread name f
IsConfFault name (Some bytes) (fault.Conf f) = IsFaultOf (lines bytes) f
IsConfFault name file f = ⊥

-- the addresses of a list file, and none where no file is named
abbrev pub IsListOfFile : Option (List ℕ) → Option (List ℕ) → List Addr → Type 0
IsListOfFile None file list = list ≡ []
IsListOfFile (Some name) None list = ⊥
IsListOfFile (Some name) (Some bytes) list = IsListOf (lines bytes) list

-- why there are none: the file that is named can't be read, or its lines are faulty
abbrev pub IsListFault : Option (List ℕ) → Option (List ℕ) → ConfigurationFault → Type 0
IsListFault (Some name) None f = IsUnread name f
IsListFault (Some name) (Some bytes) (fault.List f) = lists.IsFaultOf (lines bytes) f
IsListFault name file f = ⊥

-- the configuration of one radio: that of its file, with the addresses of the two list files that it names
pub record IsConfigured (read : FilesRead) (conf : Conf) : Type 0 where
  pub file : IsConfOfFile (readable read.file) (record conf { accept = []; deny = [] })
  pub accept : IsListOfFile conf.accept_mac_file (readable read.accept) conf.accept
  pub deny : IsListOfFile conf.deny_mac_file (readable read.deny) conf.deny

-- the fault of its accept file, where its own has none
pub record IsAcceptFault (read : FilesRead) (f : ConfigurationFault) : Type 0 where
  pub conf : Conf
  pub file : IsConfOfFile (readable read.file) conf
  pub fault : IsListFault conf.accept_mac_file (readable read.accept) f

-- the fault of its deny file, where the other two have none
pub record IsDenyFault (read : FilesRead) (f : ConfigurationFault) : Type 0 where
  pub conf : Conf
  pub file : IsConfOfFile (readable read.file) conf
  pub accepted : List Addr
  pub accept : IsListOfFile conf.accept_mac_file (readable read.accept) accepted
  pub fault : IsListFault conf.deny_mac_file (readable read.deny) f

-- why the files of one radio give no configuration
abbrev pub IsFaultOfFiles : FilesRead → ConfigurationFault → Type 0
IsFaultOfFiles read f =
    IsConfFault (string_bytes read.name) (readable read.file) f ⊎ IsAcceptFault read f ⊎ IsDenyFault read f

-- the first fault, radio by radio
abbrev pub IsFirstFault : List FilesRead → ConfigurationFault → Type 0
IsFirstFault [] f = ⊥
IsFirstFault (read ∷ more) f = IsFaultOfFiles read f ⊎ ((conf : Conf) × IsConfigured read conf × IsFirstFault more f)

-- a configuration for each radio in turn; the built-in one where no file is given
abbrev pub AreOfFiles : List FilesRead → List Conf → Type 0
AreOfFiles [] confs = confs ≡ built_in ∷ []
AreOfFiles (read ∷ more) confs = AllZip IsConfigured (read ∷ more) confs

-- which are taken together
abbrev pub AreConfigured : List FilesRead → List Conf → Type 0
AreConfigured files confs = AreOfFiles files confs × AreConfs confs

-- why there are none: the first fault of a radio's files, or that the configurations are refused together
abbrev pub IsFault : List FilesRead → ConfigurationFault → Type 0
IsFault files (fault.Confs f) = (confs : List Conf) × AreOfFiles files confs × IsRefused confs f
IsFault files f = IsFirstFault files f

-- two faults that say the same: of a name its bytes count
abbrev pub IsSame : ConfigurationFault → ConfigurationFault → Type 0
IsSame (fault.CannotRead a) (fault.CannotRead b) = string_bytes a ≡ string_bytes b
IsSame (fault.Conf a) (fault.Conf b) = a ≡ b
IsSame (fault.List a) (fault.List b) = a ≡ b
IsSame (fault.Confs a) (fault.Confs b) = a ≡ b
IsSame a b = ⊥
