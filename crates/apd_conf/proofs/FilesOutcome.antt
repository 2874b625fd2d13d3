-- Files give configurations or a fault, one alone.
use Rattle.std.proofs.Common.{◌≡◌, ℕ, List, [], ◌∷◌, ◌⊎◌, inl, inr, refl, sym, ap, subst, ◌∙◌}
use Rattle.std.specs.List.{AllZip}
use Rattle.std.specs.Prelude.{Option, None, Some}
use Rattle.std.specs.String.{string_bytes}
use Rattle.apd_base.specs.declared.address.Addr.{Addr}
use Rattle.apd_conf.specs.Confs.{IsRefused}
use Rattle.apd_conf.specs.Files.{AreConfigured, AreOfFiles, IsConfFault, IsConfOfFile, IsConfigured, IsFault, IsFaultOfFiles, IsFirstFault, IsListFault, IsListOfFile, IsSame, IsUnread, readable}
use Rattle.apd_conf.specs.Lines.{lines}
use Rattle.apd_conf.specs.declared.conf.Conf.{Conf}
use Rattle.apd_conf.specs.declared.configuration.ConfigurationFault.{ConfigurationFault}
use Rattle.apd_conf.specs.declared.configuration.ConfigurationFault.TheVariants.{CannotRead, Conf as InConf, List as InList, Confs, NoMemory}
use Rattle.apd_conf.specs.declared.configuration.FilesRead.{FilesRead}
use Rattle.apd_conf.specs.declared.confs_fault.ConfsFault.{ConfsFault}
use Rattle.apd_conf.proofs.FileLemmas as laws
use Rattle.apd_conf.proofs.Refusals as refusals

-- ---- one file
one_conf : (file : Option (List ℕ)) (a b : Conf) → IsConfOfFile file a → IsConfOfFile file b → a ≡ b
one_conf None a b h k = absurd h
one_conf (Some bytes) a b h k = laws.one_conf (lines bytes) a b h k

one_list : (name file : Option (List ℕ)) (a b : List Addr) → IsListOfFile name file a → IsListOfFile name file b → a ≡ b
one_list None file a b h k = h ∙ sym k
one_list (Some name) None a b h k = absurd h
one_list (Some name) (Some bytes) a b h k = laws.one_list (lines bytes) a b h k

conf_or_fault : (name : List ℕ) (file : Option (List ℕ)) (conf : Conf) (f : ConfigurationFault) → IsConfOfFile file conf → IsConfFault name file f → ⊥
conf_or_fault name None conf f h k = h
conf_or_fault name (Some bytes) conf (CannotRead told) h k = k
conf_or_fault name (Some bytes) conf (InConf f) h k = laws.conf_or_fault (lines bytes) conf f h k
conf_or_fault name (Some bytes) conf (InList f) h k = k
conf_or_fault name (Some bytes) conf (Confs f) h k = k
conf_or_fault name (Some bytes) conf NoMemory h k = k

list_or_fault : (name file : Option (List ℕ)) (list : List Addr) (f : ConfigurationFault) → IsListOfFile name file list → IsListFault name file f → ⊥
list_or_fault None file list f h k = k
list_or_fault (Some name) None list f h k = h
list_or_fault (Some name) (Some bytes) list (CannotRead told) h k = k
list_or_fault (Some name) (Some bytes) list (InConf f) h k = k
list_or_fault (Some name) (Some bytes) list (InList f) h k = laws.list_or_fault (lines bytes) list f h k
list_or_fault (Some name) (Some bytes) list (Confs f) h k = k
list_or_fault (Some name) (Some bytes) list NoMemory h k = k

-- only that a name can't be read is told of it
one_unread : (name : List ℕ) (f g : ConfigurationFault) → IsUnread name f → IsUnread name g → IsSame f g
one_unread name (CannotRead a) (CannotRead b) h k = h ∙ sym k
one_unread name (CannotRead a) (InConf g) h k = k
one_unread name (CannotRead a) (InList g) h k = k
one_unread name (CannotRead a) (Confs g) h k = k
one_unread name (CannotRead a) NoMemory h k = k
one_unread name (InConf f) g h k = absurd h
one_unread name (InList f) g h k = absurd h
one_unread name (Confs f) g h k = absurd h
one_unread name NoMemory g h k = absurd h

one_conf_fault : (name : List ℕ) (file : Option (List ℕ)) (f g : ConfigurationFault) → IsConfFault name file f → IsConfFault name file g → IsSame f g
one_conf_fault name None f g h k = one_unread name f g h k
one_conf_fault name (Some bytes) (InConf f) (InConf g) h k = laws.one_fault (lines bytes) f g h k
one_conf_fault name (Some bytes) (InConf f) (CannotRead g) h k = k
one_conf_fault name (Some bytes) (InConf f) (InList g) h k = k
one_conf_fault name (Some bytes) (InConf f) (Confs g) h k = k
one_conf_fault name (Some bytes) (InConf f) NoMemory h k = k
one_conf_fault name (Some bytes) (CannotRead f) g h k = absurd h
one_conf_fault name (Some bytes) (InList f) g h k = absurd h
one_conf_fault name (Some bytes) (Confs f) g h k = absurd h
one_conf_fault name (Some bytes) NoMemory g h k = absurd h

one_list_fault : (name file : Option (List ℕ)) (f g : ConfigurationFault) → IsListFault name file f → IsListFault name file g → IsSame f g
one_list_fault None file f g h k = absurd h
one_list_fault (Some name) None f g h k = one_unread name f g h k
one_list_fault (Some name) (Some bytes) (InList f) (InList g) h k = laws.one_list_fault (lines bytes) f g h k
one_list_fault (Some name) (Some bytes) (InList f) (CannotRead g) h k = k
one_list_fault (Some name) (Some bytes) (InList f) (InConf g) h k = k
one_list_fault (Some name) (Some bytes) (InList f) (Confs g) h k = k
one_list_fault (Some name) (Some bytes) (InList f) NoMemory h k = k
one_list_fault (Some name) (Some bytes) (CannotRead f) g h k = absurd h
one_list_fault (Some name) (Some bytes) (InConf f) g h k = absurd h
one_list_fault (Some name) (Some bytes) (Confs f) g h k = absurd h
one_list_fault (Some name) (Some bytes) NoMemory g h k = absurd h

-- ---- the files of one radio
module _ (read : FilesRead) where
  one_bare : (a b : Conf) → IsConfigured read a → IsConfigured read b → ◌≡◌ {A = Conf} (record a { accept = []; deny = [] }) (record b { accept = []; deny = [] })
  one_bare a b h k = one_conf (readable read.file) (record a { accept = []; deny = [] }) (record b { accept = []; deny = [] }) h.file k.file

  one_configured : (a b : Conf) → IsConfigured read a → IsConfigured read b → a ≡ b
  one_configured a b h k =
      let same = one_bare a b h k in
      let accept : a.accept ≡ b.accept = one_list a.accept_mac_file (readable read.accept) a.accept b.accept h.accept (subst (λ n. IsListOfFile n (readable read.accept) b.accept) (ap (λ (c : Conf). c.accept_mac_file) (sym same)) k.accept) in
      let deny : a.deny ≡ b.deny = one_list a.deny_mac_file (readable read.deny) a.deny b.deny h.deny (subst (λ n. IsListOfFile n (readable read.deny) b.deny) (ap (λ (c : Conf). c.deny_mac_file) (sym same)) k.deny) in
      λ i. record (same i) { accept = accept i; deny = deny i }

  configured_or_fault : (conf : Conf) (f : ConfigurationFault) → IsConfigured read conf → IsFaultOfFiles read f → ⊥
  configured_or_fault conf f h (inl k) = conf_or_fault (string_bytes read.name) (readable read.file) (record conf { accept = []; deny = [] }) f h.file k
  configured_or_fault conf f h (inr (inl k)) =
      let same = one_conf (readable read.file) k.conf (record conf { accept = []; deny = [] }) k.file h.file in
      list_or_fault conf.accept_mac_file (readable read.accept) conf.accept f h.accept (subst (λ n. IsListFault n (readable read.accept) f) (ap (λ (c : Conf). c.accept_mac_file) same) k.fault)
  configured_or_fault conf f h (inr (inr k)) =
      let same = one_conf (readable read.file) k.conf (record conf { accept = []; deny = [] }) k.file h.file in
      list_or_fault conf.deny_mac_file (readable read.deny) conf.deny f h.deny (subst (λ n. IsListFault n (readable read.deny) f) (ap (λ (c : Conf). c.deny_mac_file) same) k.fault)

  one_fault : (f g : ConfigurationFault) → IsFaultOfFiles read f → IsFaultOfFiles read g → IsSame f g
  one_fault f g (inl h) (inl k) = one_conf_fault (string_bytes read.name) (readable read.file) f g h k
  one_fault f g (inl h) (inr (inl k)) = absurd (conf_or_fault (string_bytes read.name) (readable read.file) k.conf f k.file h)
  one_fault f g (inl h) (inr (inr k)) = absurd (conf_or_fault (string_bytes read.name) (readable read.file) k.conf f k.file h)
  one_fault f g (inr (inl h)) (inl k) = absurd (conf_or_fault (string_bytes read.name) (readable read.file) h.conf g h.file k)
  one_fault f g (inr (inr h)) (inl k) = absurd (conf_or_fault (string_bytes read.name) (readable read.file) h.conf g h.file k)
  one_fault f g (inr (inl h)) (inr (inl k)) =
      let same = one_conf (readable read.file) k.conf h.conf k.file h.file in
      one_list_fault h.conf.accept_mac_file (readable read.accept) f g h.fault (subst (λ (c : Conf). IsListFault c.accept_mac_file (readable read.accept) g) same k.fault)
  one_fault f g (inr (inl h)) (inr (inr k)) =
      let same = one_conf (readable read.file) k.conf h.conf k.file h.file in
      absurd (list_or_fault h.conf.accept_mac_file (readable read.accept) k.accepted f (subst (λ (c : Conf). IsListOfFile c.accept_mac_file (readable read.accept) k.accepted) same k.accept) h.fault)
  one_fault f g (inr (inr h)) (inr (inl k)) =
      let same = one_conf (readable read.file) h.conf k.conf h.file k.file in
      absurd (list_or_fault k.conf.accept_mac_file (readable read.accept) h.accepted g (subst (λ (c : Conf). IsListOfFile c.accept_mac_file (readable read.accept) h.accepted) same h.accept) k.fault)
  one_fault f g (inr (inr h)) (inr (inr k)) =
      let same = one_conf (readable read.file) k.conf h.conf k.file h.file in
      one_list_fault h.conf.deny_mac_file (readable read.deny) f g h.fault (subst (λ (c : Conf). IsListFault c.deny_mac_file (readable read.deny) g) same k.fault)

-- ---- radio by radio
one_zip : (files : List FilesRead) (cs bs : List Conf) → AllZip IsConfigured files cs → AllZip IsConfigured files bs → cs ≡ bs
one_zip [] [] [] h k = refl
one_zip [] [] (b ∷ bs) h k = absurd k
one_zip [] (a ∷ cs) bs h k = absurd h
one_zip (read ∷ more) [] bs h k = absurd h
one_zip (read ∷ more) (a ∷ cs) [] h k = absurd k
one_zip (read ∷ more) (a ∷ cs) (b ∷ bs) h k = let first = one_configured read a b h.0 k.0 in let others = one_zip more cs bs h.1 k.1 in λ i. first i ∷ others i

zip_or_fault : (files : List FilesRead) (confs : List Conf) (f : ConfigurationFault) → AllZip IsConfigured files confs → IsFirstFault files f → ⊥
zip_or_fault [] confs f h k = k
zip_or_fault (read ∷ more) [] f h k = h
zip_or_fault (read ∷ more) (conf ∷ confs) f h (inl k) = configured_or_fault read conf f h.0 k
zip_or_fault (read ∷ more) (conf ∷ confs) f h (inr k) = zip_or_fault more confs f h.1 k.2

one_first : (files : List FilesRead) (f g : ConfigurationFault) → IsFirstFault files f → IsFirstFault files g → IsSame f g
one_first [] f g h k = absurd h
one_first (read ∷ more) f g (inl h) (inl k) = one_fault read f g h k
one_first (read ∷ more) f g (inl h) (inr k) = absurd (configured_or_fault read k.0 f k.1 h)
one_first (read ∷ more) f g (inr h) (inl k) = absurd (configured_or_fault read h.0 g h.1 k)
one_first (read ∷ more) f g (inr h) (inr k) = one_first more f g h.2 k.2

one_of_files : (files : List FilesRead) (cs bs : List Conf) → AreOfFiles files cs → AreOfFiles files bs → cs ≡ bs
one_of_files [] cs bs h k = h ∙ sym k
one_of_files (read ∷ more) cs bs h k = one_zip (read ∷ more) cs bs h k

of_files_or_fault : (files : List FilesRead) (confs : List Conf) (f : ConfigurationFault) → AreOfFiles files confs → IsFirstFault files f → ⊥
of_files_or_fault [] confs f h k = k
of_files_or_fault (read ∷ more) confs f h k = zip_or_fault (read ∷ more) confs f h k

-- ---- all of them
pub one_outcome : (files : List FilesRead) (cs bs : List Conf) → AreConfigured files cs → AreConfigured files bs → cs ≡ bs
one_outcome files cs bs h k = one_of_files files cs bs h.0 k.0

first_of : (files : List FilesRead) (f : ConfigurationFault) → IsFault files f → ((confs : List Conf) × (g : ConfsFault) × (f ≡ Confs g) × AreOfFiles files confs × IsRefused confs g) ⊎ IsFirstFault files f
first_of files (CannotRead name) h = inr h
first_of files (InConf f) h = inr h
first_of files (InList f) h = inr h
first_of files (Confs f) h = inl (h.0, f, refl, h.1, h.2)
first_of files NoMemory h = inr h

pub not_both : (files : List FilesRead) (confs : List Conf) (f : ConfigurationFault) → AreConfigured files confs → IsFault files f → ⊥
not_both files confs f h k = elim (first_of files f k) [
  | inl r ↦ refusals.not_both confs r.1 h.1 (subst (λ xs. IsRefused xs r.1) (one_of_files files r.0 confs r.3 h.0) r.4)
  | inr r ↦ of_files_or_fault files confs f h.0 r
]

pub one_fault_of_all : (files : List FilesRead) (f g : ConfigurationFault) → IsFault files f → IsFault files g → IsSame f g
one_fault_of_all files f g h k = elim (first_of files f h) [
  | inl r ↦ elim (first_of files g k) [
    | inl s ↦ subst (λ x. IsSame x g) (sym r.2) (subst (λ y. IsSame (Confs r.1) y) (sym s.2) (refusals.one_fault r.0 r.1 s.1 r.4 (subst (λ xs. IsRefused xs s.1) (one_of_files files s.0 r.0 s.3 r.3) s.4)))
    | inr s ↦ absurd (of_files_or_fault files r.0 g r.3 s)
  ]
  | inr r ↦ elim (first_of files g k) [
    | inl s ↦ absurd (of_files_or_fault files s.0 f s.3 r)
    | inr s ↦ one_first files f g r s
  ]
]
