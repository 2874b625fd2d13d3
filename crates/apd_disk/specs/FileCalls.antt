-- The calls of a file, the newest first, and what they say of it: a file that held these bytes, all of them durable, when power last came on.
use Rattle.std.specs.Prelude.{◌≡◌, ◌≤◌, ◌⊎◌, ◌+◌, ℕ, zero, suc, List, [], ◌∷◌, length, take, drop, get_or, slice_index}
use Rattle.apd_disk.specs.Disk.{with_bytes, TornWithin}

-- A call that the system was asked for, with its answer. One that failed tells what it left, which no code can see: what
-- is proved holds whatever that is.
pub data FileCall : Type 0 where
  -- a read that succeeded gave these bytes from this place on
  gave : ℕ → List ℕ → FileCall
  -- these bytes were written from this place on
  wrote : ℕ → List ℕ → FileCall
  -- A write of so many bytes from this place on failed, and left these there. Where they are fewer, the rest stayed.
  tore : ℕ → ℕ → List ℕ → FileCall
  synced : FileCall
  -- a read failed
  missed : FileCall
  -- a sync failed, and left these of each write since the last that succeeded, the newest first
  lost : List (List ℕ) → FileCall

-- as a record is told of it, with what is left where it fails
abbrev pub call_at : List (List ℕ) → ℕ → ℕ → List ℕ → FileCall
call_at left zero at bytes = gave at bytes
call_at left (suc zero) at bytes = wrote at bytes
call_at left (suc (suc zero)) at bytes = tore at (length bytes) (get_or left 0 [])
call_at left (suc (suc (suc zero))) at bytes = synced
call_at left (suc (suc (suc (suc zero)))) at bytes = missed
call_at left (suc (suc (suc (suc (suc more))))) at bytes = lost left

abbrev pub call_of : List (List ℕ) → List ℕ → List ℕ → FileCall
call_of left numbers bytes = call_at left (slice_index numbers 0) (slice_index numbers 1) bytes

abbrev mutual
  -- what a read gives
  pub file_reads : List ℕ → List FileCall → List ℕ
  file_reads held [] = held
  file_reads held (gave at bytes ∷ earlier) = file_reads held earlier
  file_reads held (wrote at bytes ∷ earlier) = with_bytes (file_reads held earlier) at bytes
  file_reads held (tore at n left ∷ earlier) = with_bytes (file_reads held earlier) at (take n left)
  file_reads held (synced ∷ earlier) = file_reads held earlier
  file_reads held (missed ∷ earlier) = file_reads held earlier
  file_reads held (lost left ∷ earlier) = file_lost held left earlier

  -- what it gives where each write since the last sync that succeeded left these of its bytes, the newest first
  pub file_lost : List ℕ → List (List ℕ) → List FileCall → List ℕ
  file_lost held left [] = held
  file_lost held left (gave at bytes ∷ earlier) = file_lost held left earlier
  file_lost held left (wrote at bytes ∷ earlier) =
      with_bytes (file_lost held (drop 1 left) earlier) at (take (length bytes) (get_or left 0 []))
  file_lost held left (tore at n before ∷ earlier) =
      with_bytes (file_lost held (drop 1 left) earlier) at (take n (get_or left 0 []))
  file_lost held left (synced ∷ earlier) = file_reads held earlier
  file_lost held left (missed ∷ earlier) = file_lost held left earlier
  file_lost held left (lost before ∷ earlier) = file_lost held left earlier

-- the images that a stop may leave
abbrev pub FileLeaves : List ℕ → List FileCall → List ℕ → Type 0
FileLeaves held [] c = c ≡ held
FileLeaves held (gave at bytes ∷ earlier) c = FileLeaves held earlier c
FileLeaves held (wrote at bytes ∷ earlier) c =
    (d : List ℕ) × FileLeaves held earlier d × TornWithin at (length bytes) d c
FileLeaves held (tore at n left ∷ earlier) c = (d : List ℕ) × FileLeaves held earlier d × TornWithin at n d c
FileLeaves held (synced ∷ earlier) c = c ≡ file_reads held earlier
FileLeaves held (missed ∷ earlier) c = FileLeaves held earlier c
FileLeaves held (lost left ∷ earlier) c = FileLeaves held earlier c

-- those of a stop after some number of the calls, from t on
abbrev pub FileLeftSince : List ℕ → List FileCall → ℕ → List ℕ → Type 0
FileLeftSince held [] t c = FileLeaves held [] c
FileLeftSince held (call ∷ earlier) t c =
    FileLeaves held (call ∷ earlier) c ⊎ ((t ≤ length earlier) × FileLeftSince held earlier t c)

-- The answers are those of a file of n bytes that held these: each read gave what was there.
abbrev pub IsHonestFile : ℕ → List ℕ → List FileCall → Type 0
IsHonestFile n held [] = length held ≡ n
IsHonestFile n held (gave at bytes ∷ earlier) =
    IsHonestFile n held earlier × (bytes ≡ take (length bytes) (drop at (file_reads held earlier)))
IsHonestFile n held (wrote at bytes ∷ earlier) = IsHonestFile n held earlier × (at + length bytes ≤ n)
IsHonestFile n held (tore at m left ∷ earlier) = IsHonestFile n held earlier × (at + m ≤ n)
IsHonestFile n held (synced ∷ earlier) = IsHonestFile n held earlier
IsHonestFile n held (missed ∷ earlier) = IsHonestFile n held earlier
IsHonestFile n held (lost left ∷ earlier) = IsHonestFile n held earlier
