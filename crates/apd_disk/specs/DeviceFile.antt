-- What a disk asked of the file that it stands on.
use Rattle.std.specs.Prelude.{◌≡◌, Bool, true, false}
use Rattle.apd_disk.specs.FileCalls.{FileCall, synced}

-- A file was asked for a sync, and answered well; then it was told to drop its pages, unless it had been before.
pub record WasSynced {F : Type 0} (answers : F → FileCall → F → Type 0) (drops : F → F → Type 0) (dropped : Bool)
    (old new : F) : Type 0 where
  pub between : F
  pub asked : answers old synced between
  pub told : dropped ≡ false → drops between new
  pub left_alone : dropped ≡ true → new ≡ between
