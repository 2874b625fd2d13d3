-- The order of addresses is total, and only equal addresses tie in it.
use Rattle.std.proofs.Common.{◌≡◌, true, false, inl, inr, ap, ◌∙◌}
use Rattle.std.specs.Cmp.{IsTotalOrder, eq_by_cmp_equiv}
use Rattle.std.specs.Ordering.{eq_by_cmp}
use Rattle.std.proofs.lemmas.Cmp.{on_total, then_total, nat_list_cmp_total}
use Rattle.std.proofs.lemmas.Map.Lookups.{CmpEqualImpliesEq, exact_bytes, exact_pairs}
use Rattle.apd_base.specs.declared.address.Addr.{Addr}
use Rattle.apd_base.specs.declared.address.Bssid.{Bssid}
use Rattle.apd_base.specs.Addr.{addr_cmp, bssid_cmp, station_cmp}
use Rattle.apd_base.proofs.Cases.{differ}
use Rattle.apd_base.proofs.MapLemmas.{one_or_apart}

pub addr_total : IsTotalOrder addr_cmp
addr_total = on_total (λ (a : Addr). a.0) nat_list_cmp_total

pub bssid_total : IsTotalOrder bssid_cmp
bssid_total = on_total (λ (b : Bssid). b.0) addr_total

pub station_total : IsTotalOrder station_cmp
station_total = then_total (on_total (λ (k : Bssid × Addr). k.0) bssid_total) (on_total (λ (k : Bssid × Addr). k.1) addr_total)

pub addr_exact : CmpEqualImpliesEq addr_cmp
addr_exact a b h = ap (λ bytes. record { 0 = bytes }) (exact_bytes a.0 b.0 h)

pub bssid_exact : CmpEqualImpliesEq bssid_cmp
bssid_exact a b h = ap (λ x. record { 0 = x }) (addr_exact a.0 b.0 h)

pub station_exact : CmpEqualImpliesEq station_cmp
station_exact = exact_pairs bssid_cmp addr_cmp bssid_exact addr_exact

pub same_bssid : (b c : Bssid) → eq_by_cmp bssid_cmp c b ≡ true → c ≡ b
same_bssid b c h = elim (one_or_apart bssid_total bssid_exact c b) [ inl same ↦ same | inr apart ↦ differ _ apart h ]

pub same_addr : (a d : Addr) → eq_by_cmp addr_cmp d a ≡ true → d ≡ a
same_addr a d h = elim (one_or_apart addr_total addr_exact d a) [ inl same ↦ same | inr apart ↦ differ _ apart h ]

pub other_way : (b c : Bssid) → eq_by_cmp bssid_cmp c b ≡ false → eq_by_cmp bssid_cmp b c ≡ false
other_way b c e = (eq_by_cmp_equiv bssid_total).symm b c ∙ e
