-- Addresses in order.
use Rattle.std.specs.Prelude.{◌≡◌, List, [], ◌∷◌}
use Rattle.std.specs.List.{AllByRecursion}
use Rattle.std.specs.declared.cmp.Ordering.TheVariants.{Less}
use Rattle.apd_base.specs.Addr.{addr_cmp}
use Rattle.apd_base.specs.declared.address.Addr.{Addr}

-- each below those behind it
abbrev pub Rising : List Addr → Type 0
Rising [] = Unit {0}
Rising (a ∷ all) = AllByRecursion (λ c. addr_cmp a c ≡ Less) all × Rising all
