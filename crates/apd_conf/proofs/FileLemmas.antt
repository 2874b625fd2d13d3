-- What is read of a file is settled by its lines.
use Rattle.std.proofs.Common.{◌≡◌, ℕ, ◌⊎◌, List, Option, Some, None, refl, sym, ap, ◌∙◌, inl, inr}
use Rattle.std.specs.Prelude.{◌==◌, [], ◌∷◌, if◌then◌else◌, IsSome, option_and_then}
use Rattle.std.proofs.lemmas.Bool.{cases_order}
use Rattle.apd_base.specs.declared.address.Addr.{Addr}
use Rattle.apd_base.specs.declared.station.AclMode.{AclMode}
use Rattle.apd_base.specs.Mode.{mode_number}
use Rattle.apd_base.specs.for_proofs.Codes.{mode_from, mode_from-mode_number}
use Rattle.apd_conf.specs.declared.conf.Conf.{Conf}
use Rattle.apd_conf.specs.declared.hw_mode.HwMode.{HwMode}
use Rattle.apd_conf.specs.declared.hw_mode.HwMode.TheVariants.{A, B, G}
use Rattle.apd_conf.specs.declared.auth_algs.AuthAlgs.{AuthAlgs}
use Rattle.apd_conf.specs.declared.ignore_broadcast_ssid.IgnoreBroadcastSsid.{IgnoreBroadcastSsid}
use Rattle.apd_conf.specs.declared.conf_fault.ConfFault.{ConfFault}
use Rattle.apd_conf.specs.declared.conf_fault.ConfFault.TheVariants as faults
use Rattle.apd_conf.specs.declared.conf_fault.Required.{Required}
use Rattle.apd_conf.specs.declared.conf_fault.Required.TheVariants as required
use Rattle.apd_conf.specs.declared.list_fault.ListFault.{ListFault}
use Rattle.apd_conf.specs.declared.list_fault.ListFault.TheVariants as list_faults
use Rattle.apd_conf.specs.Auth.{algs_number}
use Rattle.apd_conf.specs.BroadcastSsid.{quiet_number}
use Rattle.apd_conf.specs.for_proofs.Codes.{algs_from, algs_from-algs_number, quiet_from, quiet_from-quiet_number}
use Rattle.apd_conf.specs.Faults.{IsFirstFault, IsFaultless}
use Rattle.apd_conf.specs.ListFile as lists
use Rattle.apd_base.specs.Addr.{address_of}
use Rattle.apd_conf.specs.ConfFile.{fault_at, band_name, IsConfOf, IsFaultOf, IsMissing}
use Rattle.apd_base.proofs.StationLemmas.{same_station_number, same_mode}
use Rattle.apd_base.proofs.Cases.{same_some, none_is_some}

-- a file has one first fault at most
pub one_first : {F : Type 0} (fault_at : ℕ → Option F) (f g : F) → IsFirstFault fault_at f → IsFirstFault fault_at g → f ≡ g
one_first fault_at f g h k = elim (cases_order h.place k.place) [
  | inl same ↦ same_some f g (sym h.there ∙ ap fault_at same ∙ k.there)
  | inr (inl below) ↦ absurd (none_is_some f (sym (k.none_before h.place below) ∙ h.there))
  | inr (inr above) ↦ absurd (none_is_some g (sym (h.none_before k.place above) ∙ k.there))
]

-- and none where no line is faulty
pub no_first : {F : Type 0} (fault_at : ℕ → Option F) (f : F) → IsFaultless fault_at → IsFirstFault fault_at f → ⊥
no_first fault_at f none h = none_is_some f (sym (none h.place) ∙ h.there)

band_of_name : List ℕ → HwMode
band_of_name [] = A
band_of_name (c ∷ cs) = if c == 97 then A else (if c == 98 then B else G)

band_of_name-band_name : (m : HwMode) → band_of_name (band_name m) ≡ m
unfolding band_of_name
band_of_name-band_name A = refl
band_of_name-band_name B = refl
band_of_name-band_name G = refl

band_from_name : (m n : HwMode) → band_name m ≡ band_name n → m ≡ n
band_from_name m n e = sym (band_of_name-band_name m) ∙ ap band_of_name e ∙ band_of_name-band_name n

same_algs : (a b : AuthAlgs) → algs_number a ≡ algs_number b → a ≡ b
same_algs a b e = sym (algs_from-algs_number a) ∙ ap algs_from e ∙ algs_from-algs_number b

same_quiet : (a b : IgnoreBroadcastSsid) → quiet_number a ≡ quiet_number b → a ≡ b
same_quiet a b e = sym (quiet_from-quiet_number a) ∙ ap quiet_from e ∙ quiet_from-quiet_number b

-- the lines give one configuration at most
pub one_conf : (lines : List (List ℕ)) (a b : Conf) → IsConfOf lines a → IsConfOf lines b → a ≡ b
one_conf lines a b h k =
    let interface : a.interface ≡ b.interface = same_some _ _ (sym h.interface ∙ k.interface) in
    let bssid : a.bssid.0 ≡ b.bssid.0 = same_some _ _ (sym h.bssid ∙ k.bssid) in
    let ssid : a.ssid ≡ b.ssid = same_some _ _ (sym h.ssid ∙ k.ssid) in
    let hw_mode : a.hw_mode ≡ b.hw_mode = band_from_name a.hw_mode b.hw_mode (h.hw_mode ∙ sym k.hw_mode) in
    let limit : a.max_num_sta ≡ b.max_num_sta = same_station_number a.max_num_sta b.max_num_sta (h.max_num_sta ∙ sym k.max_num_sta) in
    let algs : a.auth_algs ≡ b.auth_algs = same_algs a.auth_algs b.auth_algs (h.auth_algs ∙ sym k.auth_algs) in
    let quiet : a.ignore_broadcast_ssid ≡ b.ignore_broadcast_ssid = same_quiet a.ignore_broadcast_ssid b.ignore_broadcast_ssid (h.ignore_broadcast_ssid ∙ sym k.ignore_broadcast_ssid) in
    let mode : a.macaddr_acl ≡ b.macaddr_acl = same_mode a.macaddr_acl b.macaddr_acl (h.macaddr_acl ∙ sym k.macaddr_acl) in
    λ i. record {
      interface = interface i;
      bssid = record { 0 = bssid i };
      ssid = ssid i;
      hw_mode = hw_mode i;
      channel = (h.channel ∙ sym k.channel) i;
      beacon_int = (h.beacon_int ∙ sym k.beacon_int) i;
      max_num_sta = limit i;
      auth_algs = algs i;
      ap_max_inactivity = (h.ap_max_inactivity ∙ sym k.ap_max_inactivity) i;
      ignore_broadcast_ssid = quiet i;
      max_listen_interval = (h.max_listen_interval ∙ sym k.max_listen_interval) i;
      macaddr_acl = mode i;
      accept_mac_file = (h.accept_mac_file ∙ sym k.accept_mac_file) i;
      deny_mac_file = (h.deny_mac_file ∙ sym k.deny_mac_file) i;
      accept = (h.accept ∙ sym k.accept) i;
      deny = (h.deny ∙ sym k.deny) i;
    }

-- no lines give a configuration and a fault
pub conf_or_fault : (lines : List (List ℕ)) (conf : Conf) (fault : ConfFault) → IsConfOf lines conf → IsFaultOf lines fault → ⊥
conf_or_fault lines conf (faults.NoEquals n) h k = no_first _ _ h.faultless k
conf_or_fault lines conf (faults.Unknown n) h k = no_first _ _ h.faultless k
conf_or_fault lines conf (faults.BadValue n) h k = no_first _ _ h.faultless k
conf_or_fault lines conf (faults.Security n) h k = no_first _ _ h.faultless k
conf_or_fault lines conf (faults.Missing required.Interface) h k = none_is_some conf.interface (sym k.1 ∙ h.interface)
conf_or_fault lines conf (faults.Missing required.Bssid) h k = none_is_some conf.bssid.0 (sym (ap (option_and_then address_of) k.1.1) ∙ h.bssid)
conf_or_fault lines conf (faults.Missing required.Ssid) h k = none_is_some conf.ssid (sym k.1.2 ∙ h.ssid)
conf_or_fault lines conf faults.NoMemory h k = k

not_none : {X : Type 0} (o : Option X) → IsSome o → o ≡ None → ⊥
not_none None some e = cc
not_none (Some x) some e = cc

one_missing : (lines : List (List ℕ)) (x y : Required) → IsMissing lines x → IsMissing lines y → x ≡ y
one_missing lines required.Interface required.Interface h k = refl
one_missing lines required.Interface required.Bssid h k = absurd (not_none _ k.0 h)
one_missing lines required.Interface required.Ssid h k = absurd (not_none _ k.0 h)
one_missing lines required.Bssid required.Interface h k = absurd (not_none _ h.0 k)
one_missing lines required.Bssid required.Bssid h k = refl
one_missing lines required.Bssid required.Ssid h k = absurd (not_none _ k.1 h.1)
one_missing lines required.Ssid required.Interface h k = absurd (not_none _ h.0 k)
one_missing lines required.Ssid required.Bssid h k = absurd (not_none _ h.1 k.1)
one_missing lines required.Ssid required.Ssid h k = refl

-- which of the two sorts a fault is of
Sort : List (List ℕ) → ConfFault → Type 0
Sort lines f = IsFirstFault (fault_at lines) f ⊎ ((name : Required) × IsFaultless (fault_at lines) × IsMissing lines name × (f ≡ faults.Missing name))

sort : (lines : List (List ℕ)) (f : ConfFault) → IsFaultOf lines f → Sort lines f
unfolding Sort
sort lines (faults.NoEquals n) h = inl h
sort lines (faults.Unknown n) h = inl h
sort lines (faults.BadValue n) h = inl h
sort lines (faults.Security n) h = inl h
sort lines (faults.Missing name) h = inr (name, h.0, h.1, refl)
sort lines faults.NoMemory h = absurd h

-- and one fault at most
pub one_fault : (lines : List (List ℕ)) (f g : ConfFault) → IsFaultOf lines f → IsFaultOf lines g → f ≡ g
unfolding Sort
one_fault lines f g h k = elim (sort lines f h) [
  | inl first ↦ elim (sort lines g k) [
    | inl second ↦ one_first (fault_at lines) f g first second
    | inr missing ↦ absurd (no_first (fault_at lines) f missing.1 first)
  ]
  | inr missing ↦ elim (sort lines g k) [
    | inl second ↦ absurd (no_first (fault_at lines) g missing.1 second)
    | inr again ↦ missing.3 ∙ ap faults.Missing (one_missing lines missing.0 again.0 missing.2 again.2) ∙ sym again.3
  ]
]

-- the same of list files
pub one_list : (lines : List (List ℕ)) (a b : List Addr) → lists.IsListOf lines a → lists.IsListOf lines b → a ≡ b
one_list lines a b h k = h.addresses ∙ sym k.addresses

pub list_or_fault : (lines : List (List ℕ)) (list : List Addr) (fault : ListFault) → lists.IsListOf lines list → lists.IsFaultOf lines fault → ⊥
list_or_fault lines list (list_faults.BadAddress n) h k = no_first _ _ h.faultless k
list_or_fault lines list list_faults.TooMany h k = no_first _ _ h.faultless k
list_or_fault lines list list_faults.NoMemory h k = k

pub one_list_fault : (lines : List (List ℕ)) (f g : ListFault) → lists.IsFaultOf lines f → lists.IsFaultOf lines g → f ≡ g
one_list_fault lines (list_faults.BadAddress n) (list_faults.BadAddress m) h k = one_first _ _ _ h k
one_list_fault lines (list_faults.BadAddress n) list_faults.TooMany h k = one_first _ _ _ h k
one_list_fault lines list_faults.TooMany (list_faults.BadAddress m) h k = one_first _ _ _ h k
one_list_fault lines list_faults.TooMany list_faults.TooMany h k = refl
one_list_fault lines list_faults.NoMemory g h k = absurd h
one_list_fault lines (list_faults.BadAddress n) list_faults.NoMemory h k = absurd k
one_list_fault lines list_faults.TooMany list_faults.NoMemory h k = absurd k
