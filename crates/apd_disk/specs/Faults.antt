-- Which calls a disk that fails on purpose passes on. Reads, writes and syncs count alike.
use Rattle.std.specs.Prelude.{◌≡◌, ◌+◌, ◌-◌, ◌^◌, min, ℕ, Option, Result, Some, None, IsErr}
use Rattle.apd_disk.specs.Disk.{Counts, DiskModel}

-- the failures of the disk inside and those that were made here, up to the greatest count
abbrev pub sum_of : ℕ → ℕ → ℕ
sum_of inner own = min (inner + own) (2 ^ 64 - 1)

-- One call of a fuse over this disk, which became that. The numbers are how many calls it still passes; it has none
-- once a call has failed.
pub record FuseCall {D T E : Type 0} (disk : DiskModel D) (old new : D) (before after : Option ℕ)
    (result : Result T E) : Type 0 where
  -- passed on: a fault is the disk's own
  pub passed : (n : ℕ) → before ≡ Some (n + 1) → (after ≡ Some n) × Counts (disk.failed old) (disk.failed new) result
  -- the next is answered as failed, whatever the disk made of it
  pub last : before ≡ Some 0 → (after ≡ None) × IsErr result
  -- later ones are not passed on
  pub blown : before ≡ None → (after ≡ None) × IsErr result × (new ≡ old)

-- One call of a disk that fails one call alone. The numbers are how many calls come before it; there is none once it
-- has failed.
pub record OnceCall {D T E : Type 0} (disk : DiskModel D) (old new : D) (before after : Option ℕ)
    (result : Result T E) : Type 0 where
  -- passed on: a fault is the disk's own
  pub passed : (n : ℕ) → before ≡ Some (n + 1) → (after ≡ Some n) × Counts (disk.failed old) (disk.failed new) result
  -- the chosen one is not passed on
  pub chosen : before ≡ Some 0 → (after ≡ None) × IsErr result × (new ≡ old)
  -- passed on, as if nothing had been
  pub later : before ≡ None → (after ≡ None) × Counts (disk.failed old) (disk.failed new) result
