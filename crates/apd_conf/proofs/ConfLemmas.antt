-- What the look-up of a configuration finds is what was looked for.
use mathlib.Core.HLevel.{Σ_prop_path}
use Rattle.std.specs.Prelude.{codes, map, slice_get}
use Rattle.std.specs.Option.{option_map}
use Rattle.std.proofs.lemmas.Option.{slice_get-map}
use Rattle.std.specs.Coded.{le_prop}
use Rattle.apd_base.specs.declared.limits.TheConstants.{MAX_STATIONS}
use Rattle.apd_base.specs.declared.station.StationNumber.{StationNumber}
use Rattle.apd_conf.specs.BuiltIn.{built_in}
use Rattle.std.proofs.Common.{ap, zero, suc, arith, ◌<◌, ◌≤◌, ◌≡◌, ℕ, Bool, true, false, cond, List, [], ◌∷◌, Some, None, inl, inr, refl, sym, subst, ◌∙◌}
use Rattle.std.specs.List.{find}
use Rattle.std.specs.Ordering.{nat_cmp, eq_by_cmp}
use Rattle.std.specs.Cmp.Lexicographic.{slice_cmp}
use Rattle.std.proofs.lemmas.Cmp.{nat_list_cmp_total}
use Rattle.std.proofs.lemmas.Map.Lookups.{exact_bytes}
use Rattle.apd_base.specs.declared.address.Addr.{Addr}
use Rattle.apd_base.specs.declared.address.Bssid.{Bssid}
use Rattle.apd_base.specs.Addr.{bssid_cmp}
use Rattle.apd_base.proofs.AddrLemmas.{bssid_total, bssid_exact, same_bssid}
use Rattle.apd_base.proofs.MapLemmas.{one_or_apart, tied}
use Rattle.apd_base.proofs.StationLemmas.{same_station_number}
use Rattle.apd_conf.specs.declared.conf.Conf.{Conf}
use Rattle.apd_conf.specs.Confs.{conf_at, conf_named, AreConfs, IsRepeatedAt}
use Rattle.apd_base.proofs.Cases.{same_some, differ}

find_passes : {A : Type 0} (test : A → Bool) (xs : List A) (x : A) → find test xs ≡ Some x → test x ≡ true
find_passes test [] x f = cc
find_passes test (y ∷ xs) x f =
    elim (test y) as (λ b. test y ≡ b → cond b (Some y) (find test xs) ≡ Some x → test x ≡ true) [
      | true ↦ λ t g. subst (λ z. test z ≡ true) (same_some y x g) t
      | false ↦ λ t g. find_passes test xs x g
    ] refl f

pub bssid_itself : (a : Bssid) → eq_by_cmp bssid_cmp a a ≡ true
bssid_itself a = tied bssid_total bssid_exact a

pub name_same : (a b : List ℕ) → eq_by_cmp (slice_cmp nat_cmp) a b ≡ true → a ≡ b
name_same a b t = elim (one_or_apart nat_list_cmp_total exact_bytes a b) [ inl e ↦ e | inr apart ↦ differ _ apart t ]

pub name_itself : (a : List ℕ) → eq_by_cmp (slice_cmp nat_cmp) a a ≡ true
name_itself a = tied nat_list_cmp_total exact_bytes a

-- what is found for a BSSID has it
pub bssid-conf_at : (confs : List Conf) (b : Bssid) (c : Conf) → conf_at confs b ≡ Some c → c.bssid ≡ b
bssid-conf_at confs b c f = sym (same_bssid c.bssid b (find_passes (λ (d : Conf). eq_by_cmp bssid_cmp b d.bssid) confs c f))

-- what is found for an interface has it
pub interface-conf_named : (confs : List Conf) (name : List ℕ) (c : Conf) → conf_named confs name ≡ Some c → c.interface ≡ name
interface-conf_named confs name c f = sym (name_same name c.interface (find_passes (λ (d : Conf). eq_by_cmp (slice_cmp nat_cmp) name d.interface) confs c f))

-- a configuration with the values of the built-in one
pub built_in_from : (name ssid : List ℕ) (limit : StationNumber) (accept deny : List Addr) → name ≡ codes "wlan0" → ssid ≡ codes "net" → limit.number ≡ MAX_STATIONS → accept ≡ [] → deny ≡ []
    → record built_in { interface = name; ssid = ssid; max_num_sta = limit; accept = accept; deny = deny } ≡ built_in
built_in_from name ssid limit accept deny n s l a d =
    λ i. record built_in { interface = n i; ssid = s i; max_num_sta = same_station_number limit built_in.max_num_sta l i; accept = a i; deny = d i }

own : {X A : Type 0} (eq : A → A → Bool) (part : X → A) → ((a b : A) → eq a b ≡ true → a ≡ b) → ((a : A) → eq a a ≡ true) → (xs : List X) (place : ℕ) (x : X)
    → slice_get xs place ≡ Some x → ¬ (IsRepeatedAt (map part xs) place) → find (λ y. eq (part x) (part y)) xs ≡ Some x
own eq part same itself [] place x at once = cc
own eq part same itself (y ∷ ys) zero x at once =
    ap (λ b. cond b (Some y) (find (λ z. eq (part x) (part z)) ys)) (subst (λ z. eq (part x) (part z) ≡ true) (sym (same_some y x at)) (itself (part x))) ∙ at
own eq part same itself (y ∷ ys) (suc place) x at once =
    let there : slice_get (map part ys) place ≡ Some (part x) = slice_get-map part ys place ∙ ap (option_map part) at in
    elim (eq (part x) (part y)) as (λ b. eq (part x) (part y) ≡ b → cond b (Some y) (find (λ z. eq (part x) (part z)) ys) ≡ Some x) [
      | true ↦ λ t. absurd (once (record { value = part x; earlier = zero; before = omega arith; once = ap Some (sym (same (part x) (part y) t)); again = there }))
      | false ↦ λ t. own eq part same itself ys place x at (λ r.
          let small : r.earlier < place = r.before in
          once (record { value = r.value; earlier = suc r.earlier; before = omega arith; once = r.once; again = r.again }))
    ] refl

-- each configuration is found by its own BSSID
pub conf_at-own : (confs : List Conf) → AreConfs confs → (place : ℕ) (c : Conf) → slice_get confs place ≡ Some c → conf_at confs c.bssid ≡ Some c
conf_at-own confs h place c at = own (eq_by_cmp bssid_cmp) (λ (d : Conf). d.bssid) (λ a b. same_bssid b a) bssid_itself confs place c at (h.bssids place)

-- and by its own interface
pub conf_named-own : (confs : List Conf) → AreConfs confs → (place : ℕ) (c : Conf) → slice_get confs place ≡ Some c → conf_named confs c.interface ≡ Some c
conf_named-own confs h place c at = own (eq_by_cmp (slice_cmp nat_cmp)) (λ (d : Conf). d.interface) name_same name_itself confs place c at (h.interfaces place)

find_place : {X : Type 0} (test : X → Bool) (xs : List X) (x : X) → find test xs ≡ Some x → (place : ℕ) × (slice_get xs place ≡ Some x)
find_place test [] x f = cc
find_place test (y ∷ ys) x f =
    elim (test y) as (λ b. cond b (Some y) (find test ys) ≡ Some x → (place : ℕ) × (slice_get (y ∷ ys) place ≡ Some x)) [
      | true ↦ λ g. (zero, g)
      | false ↦ λ g. let later = find_place test ys x g in (suc later.0, later.1)
    ] f

find_fails : {X : Type 0} (test : X → Bool) (xs : List X) → find test xs ≡ None → (place : ℕ) (x : X) → slice_get xs place ≡ Some x → test x ≡ false
find_fails test [] none place x at = cc
find_fails test (y ∷ ys) none zero x at =
    elim (test y) as (λ b. test y ≡ b → cond b (Some y) (find test ys) ≡ None → test x ≡ false) [
      | true ↦ λ t g. cc
      | false ↦ λ t g. subst (λ z. test z ≡ false) (same_some y x at) t
    ] refl none
find_fails test (y ∷ ys) none (suc place) x at =
    elim (test y) as (λ b. cond b (Some y) (find test ys) ≡ None → test x ≡ false) [
      | true ↦ λ g. cc
      | false ↦ λ g. find_fails test ys g place x at
    ] none

-- what is found stands in the list
pub listed_at : (confs : List Conf) (b : Bssid) (c : Conf) → conf_at confs b ≡ Some c → (place : ℕ) × (slice_get confs place ≡ Some c)
listed_at confs b c f = find_place (λ (d : Conf). eq_by_cmp bssid_cmp b d.bssid) confs c f

pub listed_named : (confs : List Conf) (name : List ℕ) (c : Conf) → conf_named confs name ≡ Some c → (place : ℕ) × (slice_get confs place ≡ Some c)
listed_named confs name c f = find_place (λ (d : Conf). eq_by_cmp (slice_cmp nat_cmp) name d.interface) confs c f

-- where none is found, none in the list has it
pub none_at : (confs : List Conf) (b : Bssid) → conf_at confs b ≡ None → (place : ℕ) (c : Conf) → slice_get confs place ≡ Some c → c.bssid ≡ b → ⊥
none_at confs b none place c at e =
    differ _ (find_fails (λ (d : Conf). eq_by_cmp bssid_cmp b d.bssid) confs none place c at) (subst (λ x. eq_by_cmp bssid_cmp b x ≡ true) (sym e) (bssid_itself b))

pub none_named : (confs : List Conf) (name : List ℕ) → conf_named confs name ≡ None → (place : ℕ) (c : Conf) → slice_get confs place ≡ Some c → c.interface ≡ name → ⊥
none_named confs name none place c at e =
    differ _ (find_fails (λ (d : Conf). eq_by_cmp (slice_cmp nat_cmp) name d.interface) confs none place c at)
    (subst (λ x. eq_by_cmp (slice_cmp nat_cmp) name x ≡ true) (sym e) (name_itself name))
