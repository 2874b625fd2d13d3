-- What the calls of a disk do to its bytes, and to what a stop may leave.
use Rattle.std.specs.Prelude.{◌≡◌, ◌⊎◌, ◌↔◌, ℕ, ◌+◌, ◌≤◌, List, ◌++◌, length, take, drop, Result, OnErr, OnOk}
use Rattle.apd_base.specs.Failures.{HasRisen}

-- What is meant by a disk of this type. All of it but the size, the count of failures and what becomes of it is said of an
-- honest disk alone.
pub record DiskModel (D : Type 0) : Type 1 where
  -- whether the disk keeps what is said of it
  pub honest : D → Type 0
  -- the bytes that a read gives
  pub reads : D → List ℕ
  -- the images that a stop now may leave
  pub may_leave : D → List ℕ → Type 0
  -- the moment, as a number that doesn't fall
  pub moment : D → ℕ
  -- the images of a stop at some moment since that one, during a call or between two
  pub left_since : D → ℕ → List ℕ → Type 0
  -- the number of bytes
  pub size : D → ℕ
  -- how often the device has failed, up to 2^64 - 1
  pub failed : D → ℕ
  -- The second is what became of the first by calls: it held the same at first, and has the same calls and maybe more.
  pub goes_on : D → D → Type 0
  -- none is made, or some behind others
  pub stays : (d : D) → goes_on d d
  pub goes_further : (d e f : D) → goes_on d e → goes_on e f → goes_on d f

-- the model of a disk that lies inside another value
abbrev pub inside : {D E : Type 0} → DiskModel D → (E → D) → DiskModel E
inside disk inner = record {
  honest = λ e. disk.honest (inner e);
  reads = λ e. disk.reads (inner e);
  may_leave = λ e. disk.may_leave (inner e);
  moment = λ e. disk.moment (inner e);
  left_since = λ e. disk.left_since (inner e);
  size = λ e. disk.size (inner e);
  failed = λ e. disk.failed (inner e);
  goes_on = λ e f. disk.goes_on (inner e) (inner f);
  stays = λ e. disk.stays (inner e);
  goes_further = λ e f g. disk.goes_further (inner e) (inner f) (inner g);
}

-- the same model, but for the count of failures
abbrev pub counting : {D : Type 0} → DiskModel D → (D → ℕ) → DiskModel D
counting disk failed = record disk { failed = failed }

-- the image with these bytes at this place
abbrev pub with_bytes : List ℕ → ℕ → List ℕ → List ℕ
with_bytes image at bytes = take at image ++ bytes ++ drop (at + length bytes) image

-- any bytes in a range of n, the same outside it
pub record TornWithin (at n : ℕ) (old new : List ℕ) : Type 0 where
  pub before : take at new ≡ take at old
  pub after : drop (at + n) new ≡ drop (at + n) old
  pub same_length : length new ≡ length old

-- this image and no other
abbrev pub Only : List ℕ → (List ℕ → Type 0) → Type 0
Only image images = (c : List ℕ) → images c → c ≡ image

-- no image but these
abbrev pub Within : (List ℕ → Type 0) → (List ℕ → Type 0) → Type 0
Within images others = (c : List ℕ) → images c → others c

-- each of the new images comes from one of the old by a step
abbrev pub Follows : (List ℕ → List ℕ → Type 0) → (List ℕ → Type 0) → (List ℕ → Type 0) → Type 0
Follows step old new = (c : List ℕ) → new c → (d : List ℕ) × old d × step d c

-- Time goes on: what a stop since t may have left is what it might have left before the call, or since its start.
pub record Elapses (before now : ℕ) (past since : ℕ → List ℕ → Type 0) : Type 0 where
  pub later : before ≤ now
  -- a call takes it on by one at most: so whoever makes calls can say how many
  pub by_one : now ≤ before + 1
  pub nothing_else : (t : ℕ) (c : List ℕ) → t ≤ before → since t c → past t c ⊎ since before c
  pub keeps : (t : ℕ) (c : List ℕ) → t ≤ before → past t c → since t c

-- the count doesn't fall: a call that succeeds leaves it, and a fault is told only where it rose
pub record Counts {T E : Type 0} (before now : ℕ) (result : Result T E) : Type 0 where
  pub later : before ≤ now
  pub stays : OnOk result (now ≡ before)
  pub rises : OnErr result (HasRisen before now)

-- Calls lead from the old disk to the new, and a stop at any moment since old leaves an image that has P. It is for the
-- contracts of those who make several calls, as a store; the lemmas on how such runs go on are in proofs/Moments.
pub record LeavesOnly {D : Type 0} (disk : DiskModel D) (old new : D)
    (P : List ℕ → Type 0) : Type 0 where
  pub goes_on : disk.goes_on old new
  pub later : disk.moment old ≤ disk.moment new
  pub each : (c : List ℕ) → disk.left_since new (disk.moment old) c → P c
  -- for a run that began earlier
  pub before : (t : ℕ) (c : List ℕ) → t ≤ disk.moment old → disk.left_since new t c → disk.left_since old t c ⊎ P c

-- ---- What one call does, on a disk of this kind: all of it but the length, and that the disk goes on, is said of an honest
-- disk alone.
module _ {D T E : Type 0} (disk : DiskModel D) (old new : D) (result : Result T E) where
  -- A buffer that held something is filled with the bytes from a place on. A read alone may show that a disk isn't honest.
  pub record IsRead (at : ℕ) (before after : List ℕ) : Type 0 where
    pub goes_on : disk.goes_on old new
    pub length_stays : disk.size new ≡ disk.size old
    pub was_honest : disk.honest new → disk.honest old
    pub bytes : disk.honest new → OnOk result (after ≡ take (length before) (drop at (disk.reads old)))
    pub stays : disk.honest old → OnOk result (disk.reads new ≡ disk.reads old)
    pub stop : disk.honest old → Within (disk.left_since new (disk.moment old)) (disk.may_leave old)
    pub time : disk.honest old → Elapses (disk.moment old) (disk.moment new) (disk.left_since old) (disk.left_since new)

  -- the bytes are written from a place on
  pub record IsWritten (at : ℕ) (bytes : List ℕ) : Type 0 where
    pub goes_on : disk.goes_on old new
    pub length_stays : disk.size new ≡ disk.size old
    pub stays_honest : disk.honest old ↔ disk.honest new
    pub written : disk.honest old → OnOk result (disk.reads new ≡ with_bytes (disk.reads old) at bytes)
    pub stop : disk.honest old → Follows (TornWithin at (length bytes)) (disk.may_leave old) (disk.left_since new (disk.moment old))
    pub time : disk.honest old → Elapses (disk.moment old) (disk.moment new) (disk.left_since old) (disk.left_since new)

  -- what was written is made durable
  pub record IsSynced : Type 0 where
    pub goes_on : disk.goes_on old new
    pub length_stays : disk.size new ≡ disk.size old
    pub stays_honest : disk.honest old ↔ disk.honest new
    pub durable : disk.honest old → OnOk result (Only (disk.reads old) (disk.may_leave new))
    pub stays : disk.honest old → OnOk result (disk.reads new ≡ disk.reads old)
    pub stop : disk.honest old → Within (disk.left_since new (disk.moment old)) (disk.may_leave old)
    pub time : disk.honest old → Elapses (disk.moment old) (disk.moment new) (disk.left_since old) (disk.left_since new)
