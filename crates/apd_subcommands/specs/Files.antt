-- What a subcommand did with a file of which something was known.
use Rattle.std.specs.Prelude.{◌≡◌}
use Rattle.apd_disk.specs.SystemFile.{FileDisk}
use Rattle.apd_disk.specs.declared.record.FileRecord.{FileRecord}

-- it was done with a file of this record: what it held when power last came on, and its calls since
abbrev pub OfFile : FileRecord → (FileDisk → Type 0) → Type 0
OfFile known P = (file : FileDisk) × (file.known ≡ known) × P file
