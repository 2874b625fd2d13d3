-- The configurations that a program is given by files.
use Rattle.std.specs.Prelude.{◌≡◌, ℕ, List, map}
use Rattle.std.specs.String.{string_bytes}
use Rattle.apd_conf.specs.Files.{AreConfigured, IsFault}
use Rattle.apd_conf.specs.declared.conf.Conf.{Conf}
use Rattle.apd_conf.specs.declared.configuration.ConfigurationFault.{ConfigurationFault}
use Rattle.apd_conf.specs.declared.configuration.FilesRead.{FilesRead}

-- what was read stands by these names, one after the other
abbrev pub AreOfNames : List (List ℕ) → List FilesRead → Type 0
AreOfNames names files = map (λ read. string_bytes read.name) files ≡ names

-- some files of these names were read, and give the configurations
pub record AreReadFrom (names : List (List ℕ)) (confs : List Conf) : Type 0 where
  pub files : List FilesRead
  pub named : AreOfNames names files
  pub give : AreConfigured files confs

-- or this fault
pub record IsFaultFrom (names : List (List ℕ)) (fault : ConfigurationFault) : Type 0 where
  pub files : List FilesRead
  pub named : AreOfNames names files
  pub give : IsFault files fault
