-- What is said of a radio.
use Rattle.std.specs.Prelude.{ℕ, List, Option}
use Rattle.std.specs.FinMap as map
use Rattle.apd_base.specs.Addr.{addr_cmp}

-- the meaning of the radios of this type
pub record RadioModel (R : Type 0) : Type 1 where
  -- the installed addresses, with their identifiers
  pub stations : R → map.FinMap addr_cmp ℕ
  -- how many calls failed in the device, up to 2^64 - 1, where the count stays
  pub faults : R → ℕ
  -- the frames that it was handed by `transmit` and took, in order, where they are known
  pub sent : R → Option (List (List ℕ))

-- that of a radio which lies inside another value
abbrev pub inside : {R S : Type 0} → RadioModel R → (S → R) → RadioModel S
inside radio inner = record {
  stations = λ s. radio.stations (inner s);
  faults = λ s. radio.faults (inner s);
  sent = λ s. radio.sent (inner s);
}
