-- What the proofs of several crates need of states.
use Rattle.std.proofs.Common.{ap, refl, Option, Some, None, IsSome}
use Rattle.std.specs.Cmp.{IsTotalOrder}
use Rattle.std.proofs.lemmas.Cmp.{on_total, then_total, nat_cmp_total}
use Rattle.std.proofs.lemmas.Map.Lookups.{CmpEqualImpliesEq, exact_pairs}
use Rattle.apd_base.specs.declared.address.Addr.{Addr}
use Rattle.apd_base.specs.declared.address.Bssid.{Bssid}
use Rattle.apd_base.specs.declared.station.Station.{Station}
use Rattle.apd_base.specs.declared.station.Which.{Which}
use Rattle.apd_base.specs.declared.station.Which.TheVariants.{Accept, Deny}
use Rattle.apd_base.specs.Addr.{addr_cmp, bssid_cmp}
use Rattle.apd_base.proofs.AddrLemmas.{addr_total, addr_exact, bssid_total, bssid_exact}
use Rattle.apd_base.specs.State.{which_number, which_cmp, list_cmp, aid_of}

pub which_total : IsTotalOrder which_cmp
which_total = on_total which_number nat_cmp_total

pub which_exact : CmpEqualImpliesEq which_cmp
which_exact Accept Accept e = λ i. Accept
which_exact Deny Deny e = λ i. Deny
which_exact Accept Deny e = cc
which_exact Deny Accept e = cc

pub list_total : IsTotalOrder list_cmp
list_total = then_total (on_total (λ (k : Bssid × Which × Addr). k.0) bssid_total) (then_total (on_total (λ (k : Bssid × Which × Addr). k.1) which_total) (on_total (λ (k : Bssid × Which × Addr). k.2) addr_total))

pub list_exact : CmpEqualImpliesEq list_cmp
list_exact x y e = ap (λ (p : Bssid × (Which × Addr)). (p.0, p.1.0, p.1.1)) (exact_pairs bssid_cmp _ bssid_exact (exact_pairs which_cmp addr_cmp which_exact addr_exact) (x.0, (x.1, x.2)) (y.0, (y.1, y.2)) e)

-- a row with an identifier is a row
pub station_of_aid : (o : Option Station) → IsSome (aid_of o) → IsSome o
station_of_aid None h = h
station_of_aid (Some x) h = refl
