-- What `==` says of changes: they are the same.
use Rattle.std.proofs.Common.{◌≡◌, ℕ, Bool, true, List, Decides, ◌&&◌, refl, sym, ap, ◌∙◌}
use Rattle.std.specs.Cmp.Lexicographic.{pointwise}
use Rattle.std.specs.Prelude.{◌==◌}
use Rattle.apd_core.proofs.Words.{Addr, Bssid, Change, Cursor, Decides-eqb, Drop, ListAdd, ListClear, ListDel, Put, and_parts, false≢true}
use Rattle.std.proofs.lemmas.Slice.Eq.{bytes_eq-Decides, slice_eq-Decides}
use Rattle.apd_base.specs.declared.station.AclMode.{AclMode}
use Rattle.apd_base.specs.declared.station.AclMode.TheVariants.{AcceptUnlessDenied, DenyUnlessAccepted}
use Rattle.apd_base.specs.declared.station.Policy.{Policy as BssPolicy}
use Rattle.apd_base.specs.declared.station.Which.{Which}
use Rattle.apd_base.specs.declared.station.Which.TheVariants.{Accept, Deny}
use Rattle.apd_base.specs.contracts.address.AddrPartialEq.TheImpl as addr
use Rattle.apd_base.specs.contracts.address.BssidPartialEq.TheImpl as bssid
use Rattle.apd_base.specs.contracts.station.AclModePartialEq.TheImpl as mode
use Rattle.apd_base.specs.contracts.station.PolicyPartialEq.TheImpl as policy
use Rattle.apd_base.specs.contracts.station.StationPartialEq.TheImpl as station
use Rattle.apd_base.specs.contracts.station.WhichPartialEq.TheImpl as which
use Rattle.apd_record.specs.declared.change.Change.TheVariants.{Policy}
use Rattle.apd_record.specs.contracts.change.ChangePartialEq.TheImpl as change
use Rattle.apd_record.specs.contracts.change.ChangeEq.TheImpl.Laws.{laws-law}
use Rattle.apd_base.proofs.StationLemmas.{same_station_number}
use Rattle.apd_table.proofs.SameRows.{same_station}

same_addr : (a d : Addr) → (addr.eq-value).it a d ≡ true → a ≡ d
same_addr a d e = ap (λ (bytes : List ℕ). record { 0 = bytes }) ((bytes_eq-Decides a.0 d.0).0 e)

same_bssid : (b c : Bssid) → (bssid.eq-value).it b c ≡ true → b ≡ c
same_bssid b c e = ap (λ (x : Addr). record { 0 = x }) (same_addr b.0 c.0 e)

same_which : (w v : Which) → (which.eq-value).it w v ≡ true → w ≡ v
same_which Accept Accept e = refl
same_which Deny Deny e = refl
same_which w v e = absurd (false≢true e)

same_mode : (w v : AclMode) → (mode.eq-value).it w v ≡ true → w ≡ v
same_mode AcceptUnlessDenied AcceptUnlessDenied e = refl
same_mode DenyUnlessAccepted DenyUnlessAccepted e = refl
same_mode w v e = absurd (false≢true e)

same_policy : (x y : BssPolicy) → (policy.eq-value).it x y ≡ true → x ≡ y
same_policy x y e =
    let parts = and_parts ((mode.eq-value).it x.mode y.mode) (x.max.number == y.max.number) e in
    let modes = same_mode x.mode y.mode parts.0 in
    let limits = same_station_number x.max y.max ((Decides-eqb x.max.number y.max.number).0 parts.1) in
    (λ i. record { mode = modes i; max = limits i })

same_change : (x y : Change) → (change.eq-value).it x y ≡ true → x ≡ y
same_change (Put b a s) (Put c d t) e =
    let first = and_parts ((bssid.eq-value).it b c) ((addr.eq-value).it a d && (station.eq-value).it s t) e in
    let behind = and_parts ((addr.eq-value).it a d) ((station.eq-value).it s t) first.1 in
    (λ i. Put (same_bssid b c first.0 i) (same_addr a d behind.0 i) (same_station s t behind.1 i))
same_change (Drop b a) (Drop c d) e =
    let parts = and_parts ((bssid.eq-value).it b c) ((addr.eq-value).it a d) e in
    (λ i. Drop (same_bssid b c parts.0 i) (same_addr a d parts.1 i))
same_change (ListAdd b w a) (ListAdd c v d) e =
    let first = and_parts ((bssid.eq-value).it b c) ((which.eq-value).it w v && (addr.eq-value).it a d) e in
    let behind = and_parts ((which.eq-value).it w v) ((addr.eq-value).it a d) first.1 in
    (λ i. ListAdd (same_bssid b c first.0 i) (same_which w v behind.0 i) (same_addr a d behind.1 i))
same_change (ListDel b w a) (ListDel c v d) e =
    let first = and_parts ((bssid.eq-value).it b c) ((which.eq-value).it w v && (addr.eq-value).it a d) e in
    let behind = and_parts ((which.eq-value).it w v) ((addr.eq-value).it a d) first.1 in
    (λ i. ListDel (same_bssid b c first.0 i) (same_which w v behind.0 i) (same_addr a d behind.1 i))
same_change (ListClear b w) (ListClear c v) e =
    let parts = and_parts ((bssid.eq-value).it b c) ((which.eq-value).it w v) e in
    (λ i. ListClear (same_bssid b c parts.0 i) (same_which w v parts.1 i))
same_change (Policy b x) (Policy c y) e =
    let parts = and_parts ((bssid.eq-value).it b c) ((policy.eq-value).it x y) e in
    (λ i. Policy (same_bssid b c parts.0 i) (same_policy x y parts.1 i))
same_change (Cursor b x) (Cursor c y) e =
    let parts = and_parts ((bssid.eq-value).it b c) (x.number == y.number) e in
    let numbers = same_station_number x y ((Decides-eqb x.number y.number).0 parts.1) in
    (λ i. Cursor (same_bssid b c parts.0 i) (numbers i))
same_change x y e = absurd (false≢true e)

change_decides : (x y : Change) → Decides ((change.eq-value).it x y) (x ≡ y)
change_decides x y = (same_change x y, λ e. ap ((change.eq-value).it x) (sym e) ∙ laws-law.refl x)

-- the result of `==` of two lists of changes
pub changes_decide : (xs ys us vs : List Change) (r : Bool) → us ≡ xs → vs ≡ ys → r ≡ pointwise (change.eq-value).it us vs → Decides r (xs ≡ ys)
changes_decide xs ys us vs r first other e = slice_eq-Decides change_decides xs ys r (e ∙ (λ i. pointwise (change.eq-value).it (first i) (other i)))
