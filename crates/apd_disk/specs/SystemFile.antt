-- A disk over a file of the system.
use Rattle.std.specs.declared.fs.File.{File}
use Rattle.apd_disk.specs.declared.file.FileDisk.{FileDisk as DiskOver}

abbrev pub FileDisk : Type 0
FileDisk = DiskOver File
