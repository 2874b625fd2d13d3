-- The configurations of one daemon, which has a radio for each: which lists of them are taken, which
-- fault is told of the others, and which one is a given radio's.
use Rattle.std.specs.Prelude.{◌≡◌, ℕ, ◌<◌, ◌≤◌, List, length, map, Option, None, Some, slice_get}
use Rattle.std.specs.List.{find}
use Rattle.std.specs.Ordering.{nat_cmp, eq_by_cmp}
use Rattle.std.specs.Cmp.Lexicographic.{slice_cmp}
use Rattle.apd_base.specs.declared.address.Bssid.{Bssid}
use Rattle.apd_base.specs.declared.limits.TheConstants.{MAX_BSS}
use Rattle.apd_base.specs.Addr.{bssid_cmp}
use Rattle.apd_conf.specs.declared.conf.Conf.{Conf}
use Rattle.apd_conf.specs.declared.confs_fault.ConfsFault.{ConfsFault}
use Rattle.apd_conf.specs.declared.confs_fault.ConfsFault.TheVariants.{Empty, TooMany, SameInterface, SameBssid}

abbrev pub interfaces : List Conf → List (List ℕ)
interfaces confs = map (λ c. c.interface) confs

abbrev pub bssids : List Conf → List Bssid
bssids confs = map (λ c. c.bssid) confs

-- the value at a place stands at an earlier place too
pub record IsRepeatedAt {A : Type 0} (values : List A) (place : ℕ) : Type 0 where
  pub value : A
  pub earlier : ℕ
  pub before : earlier < place
  pub once : slice_get values earlier ≡ Some value
  pub again : slice_get values place ≡ Some value

-- the least such place
pub record IsLeastRepeated {A : Type 0} (values : List A) (place : ℕ) : Type 0 where
  pub repeated : IsRepeatedAt values place
  pub least : (p : ℕ) → p < place → ¬ (IsRepeatedAt values p)

-- there is no such place
abbrev pub AreDistinct : {A : Type 0} → List A → Type 0
AreDistinct values = (p : ℕ) → ¬ (IsRepeatedAt values p)

abbrev pub IsCountInRange : List Conf → Type 0
IsCountInRange confs = (1 ≤ length confs) × (length confs ≤ MAX_BSS)

-- a list that is taken: one configuration to as many as a daemon has radios at most, no interface twice, no
-- BSSID twice
pub record AreConfs (confs : List Conf) : Type 0 where
  pub count : IsCountInRange confs
  pub interfaces : AreDistinct (interfaces confs)
  pub bssids : AreDistinct (bssids confs)

-- a list that is refused with this fault
abbrev pub IsRefused : List Conf → ConfsFault → Type 0
IsRefused confs Empty = length confs ≡ 0
IsRefused confs TooMany = MAX_BSS < length confs
IsRefused confs (SameInterface place) = IsCountInRange confs × IsLeastRepeated (interfaces confs) place
IsRefused confs (SameBssid place) = IsCountInRange confs × AreDistinct (interfaces confs)
    × IsLeastRepeated (bssids confs) place

-- the configuration of a BSSID
abbrev pub conf_at : List Conf → Bssid → Option Conf
conf_at confs bssid = find (λ c. eq_by_cmp bssid_cmp bssid c.bssid) confs

-- the configuration of an interface, by the bytes of its name
abbrev pub conf_named : List Conf → List ℕ → Option Conf
conf_named confs name = find (λ c. eq_by_cmp (slice_cmp nat_cmp) name c.interface) confs

-- the configuration that a command means: that of the interface which it names, and the first one where it names none
abbrev pub conf_meant : List Conf → Option (List ℕ) → Option Conf
conf_meant confs None = slice_get confs 0
conf_meant confs (Some name) = conf_named confs name
