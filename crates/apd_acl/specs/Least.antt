-- Least addresses.
use Rattle.std.specs.Prelude.{◌≡◌, ◌≢◌}
use Rattle.std.specs.declared.cmp.Ordering.TheVariants.{Less, Greater}
use Rattle.apd_base.specs.declared.address.Addr.{Addr}
use Rattle.apd_base.specs.Addr.{addr_cmp}

-- the least address that has a property
pub record IsLeast (P : Addr → Type 0) (a : Addr) : Type 0 where
  pub has : P a
  pub least : (c : Addr) → P c → addr_cmp a c ≢ Greater

-- the least one of those above an address
abbrev pub IsLeastAbove : Addr → (Addr → Type 0) → Addr → Type 0
IsLeastAbove a P = IsLeast (λ c. P c × (addr_cmp a c ≡ Less))
