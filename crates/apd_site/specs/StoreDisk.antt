-- A disk over the file of a store that is served.
use Rattle.std.specs.declared.fs.File.{File}
use Rattle.apd_disk.specs.declared.file.FileDisk.{FileDisk}
use Rattle.apd_site.specs.declared.watched_file.WatchedFile.{WatchedFile}

abbrev pub StoreDisk : Type 0
StoreDisk = FileDisk (WatchedFile File)
