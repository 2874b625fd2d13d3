-- The model of a file: by its record, what it held and each call of it since.
use Rattle.std.specs.Prelude.{◌≡◌, ℕ, List, [], ◌∷◌, length, get_or}
use Rattle.apd_disk.specs.Disk.{DiskModel}
use Rattle.apd_disk.specs.FileCalls.{FileCall, tore, lost, file_reads, FileLeaves, FileLeftSince, IsHonestFile}
use Rattle.apd_disk.specs.FileMore.{HasMore, has_same, has_more}
use Rattle.apd_disk.specs.declared.file.FileDisk.{FileDisk}
use Rattle.apd_disk.specs.declared.record.FileRecord.{FileRecord}

-- the record with one call more
abbrev pub noting : FileCall → FileRecord → FileRecord
noting call known = record known { calls = call ∷ known.calls }

-- what the next call leaves of each write that it makes or syncs, if it fails
abbrev pub next_left : FileRecord → List (List ℕ)
next_left known = get_or known.left (length known.calls) []

-- the record with a write of so many bytes that failed
abbrev pub noting_tore : ℕ → ℕ → FileRecord → FileRecord
noting_tore at n known = noting (tore at n (get_or (next_left known) 0 [])) known

-- the record with a sync that failed
abbrev pub noting_lost : FileRecord → FileRecord
noting_lost known = noting (lost (next_left known)) known

abbrev pub file_model : {F : Type 0} → DiskModel (FileDisk F)
file_model = record {
  honest = λ d. IsHonestFile d.len d.known.held d.known.calls;
  reads = λ d. file_reads d.known.held d.known.calls;
  may_leave = λ d. FileLeaves d.known.held d.known.calls;
  moment = λ d. length d.known.calls;
  left_since = λ d. FileLeftSince d.known.held d.known.calls;
  size = λ d. d.len;
  failed = λ d. d.failures;
  goes_on = λ d e. HasMore d.known e.known;
  stays = λ d. has_same d.known;
  goes_further = λ d e f. has_more d.known e.known f.known;
}

-- The second is the file of the next process, after a loss of power at some moment of the first since t: it holds what
-- that left, and no call of it was made yet.
pub record IsFoundAfterStop {F : Type 0} (t : ℕ) (before after : FileDisk F) : Type 0 where
  pub held : file_model.left_since before t after.known.held
  pub no_call : after.known.calls ≡ []
  pub same_length : after.len ≡ before.len
