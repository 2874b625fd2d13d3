-- The configurations of files, one radio after the other.
use Rattle.std.proofs.Common.{◌≡◌, ℕ, suc, ◌+◌, ◌<◌, List, [], ◌∷◌, ◌++◌, length, drop, drop-cons, get_or, append_assoc, add-one, inl, inr, sym, ap, subst, ◌∙◌}
use Rattle.std.proofs.lemmas.List.{append-nil}
use Rattle.std.specs.List.{AllZip}
use Rattle.std.specs.Prelude.{Option, None, Some}
use Rattle.std.specs.String.{string_bytes}
use Rattle.apd_base.specs.declared.address.Addr.{Addr}
use Rattle.apd_conf.specs.Files.{IsConfFault, IsConfOfFile, IsListOfFile, IsListFault, IsConfigured, IsFault, IsFaultOfFiles, IsFirstFault, readable}
use Rattle.apd_conf.specs.declared.confs_fault.ConfsFault.{ConfsFault}
use Rattle.apd_conf.specs.declared.configuration.ConfigurationFault.TheVariants.{CannotRead, Conf as InConf, List as InList, Confs, NoMemory}
use Rattle.apd_conf.specs.declared.conf.Conf.{Conf}
use Rattle.apd_conf.specs.declared.configuration.ConfigurationFault.{ConfigurationFault}
use Rattle.apd_conf.specs.declared.configuration.FilesRead.{FilesRead}

pub accept_fault : (read : FilesRead) (conf : Conf) (f : ConfigurationFault) → IsConfOfFile (readable read.file) conf → IsListFault conf.accept_mac_file (readable read.accept) f → IsFaultOfFiles read f
accept_fault read conf f file fault = inr (inl (record { conf = conf; file = file; fault = fault }))

pub deny_fault : (read : FilesRead) (conf : Conf) (accepted : List Addr) (f : ConfigurationFault) → IsConfOfFile (readable read.file) conf
    → IsListOfFile conf.accept_mac_file (readable read.accept) accepted → IsListFault conf.deny_mac_file (readable read.deny) f → IsFaultOfFiles read f
deny_fault read conf accepted f file accept fault = inr (inr (record { conf = conf; file = file; accepted = accepted; accept = accept; fault = fault }))

-- what becomes of the files from a place on is what becomes of all of them, where those in front have these configurations
pub record AreSoFar (files : List FilesRead) (place : ℕ) (confs : List Conf) : Type 0 where
  pub goes_on : (more : List Conf) → AllZip IsConfigured (drop place files) more → AllZip IsConfigured files (confs ++ more)
  pub fails : (f : ConfigurationFault) → IsFirstFault (drop place files) f → IsFirstFault files f

pub begin : (files : List FilesRead) → AreSoFar files 0 []
begin files = record { goes_on = λ more all. all; fails = λ f first. first }

module _ (files : List FilesRead) (place : ℕ) (confs : List Conf) (read : FilesRead) (so_far : AreSoFar files place confs) (there : place < length files) (is : get_or files place read ≡ read) where
  rest : drop place files ≡ read ∷ drop (place + 1) files
  rest = drop-cons files place read there ∙ ap (λ x. x ∷ drop (suc place) files) is ∙ ap (λ n. read ∷ drop n files) (sym (add-one place))

  pub further : (conf : Conf) → IsConfigured read conf → AreSoFar files (place + 1) (confs ++ conf ∷ [])
  further conf configured = record {
    goes_on = λ more all. subst (AllZip IsConfigured files) (sym (append_assoc confs (conf ∷ []) more)) (so_far.goes_on (conf ∷ more) (subst (λ l. AllZip IsConfigured l (conf ∷ more)) (sym rest) (configured, all)));
    fails = λ f first. so_far.fails f (subst (λ l. IsFirstFault l f) (sym rest) (inr (conf, configured, first)));
  }

  pub fails_here : (f : ConfigurationFault) → IsFaultOfFiles read f → IsFirstFault files f
  fails_here f fault = so_far.fails f (subst (λ l. IsFirstFault l f) (sym rest) (inl fault))

pub whole : (files : List FilesRead) (place : ℕ) (confs : List Conf) → AreSoFar files place confs → drop place files ≡ [] → AllZip IsConfigured files confs
whole files place confs so_far none = subst (AllZip IsConfigured files) (append-nil confs) (so_far.goes_on [] (subst (λ l. AllZip IsConfigured l []) (sym none) tt))

-- the configurations of files are refused together only once each radio has one
conf_fault_alone : (name : List ℕ) (file : Option (List ℕ)) (f : ConfsFault) → IsConfFault name file (Confs f) → ⊥
conf_fault_alone name None f h = h
conf_fault_alone name (Some bytes) f h = h

list_fault_alone : (name file : Option (List ℕ)) (f : ConfsFault) → IsListFault name file (Confs f) → ⊥
list_fault_alone None file f h = h
list_fault_alone (Some name) None f h = h
list_fault_alone (Some name) (Some bytes) f h = h

files_fault_alone : (read : FilesRead) (f : ConfsFault) → IsFaultOfFiles read (Confs f) → ⊥
files_fault_alone read f (inl h) = conf_fault_alone (string_bytes read.name) (readable read.file) f h
files_fault_alone read f (inr (inl h)) = list_fault_alone h.conf.accept_mac_file (readable read.accept) f h.fault
files_fault_alone read f (inr (inr h)) = list_fault_alone h.conf.deny_mac_file (readable read.deny) f h.fault

first_fault_alone : (files : List FilesRead) (f : ConfsFault) → IsFirstFault files (Confs f) → ⊥
first_fault_alone [] f h = h
first_fault_alone (read ∷ more) f (inl h) = files_fault_alone read f h
first_fault_alone (read ∷ more) f (inr h) = first_fault_alone more f h.2

pub fault_of_first : (files : List FilesRead) (f : ConfigurationFault) → IsFirstFault files f → IsFault files f
fault_of_first files (CannotRead name) h = h
fault_of_first files (InConf f) h = h
fault_of_first files (InList f) h = h
fault_of_first files (Confs f) h = absurd (first_fault_alone files f h)
fault_of_first files NoMemory h = h
