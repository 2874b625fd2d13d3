use Rattle.std.proofs.Common.{◌≡◌, length, vec_len, vec_capacity}
use Rattle.apd_conf.proofs.FilesLemmas.{AreSoFar}
use Rattle.apd_conf.proofs.configuration.each_of.Given as goal

-- the files so far have a configuration each, and there is room for the others
abbrev pub invariant-loop-read : goal.invariant-loop-read
invariant-loop-read l = record {
  so_far : AreSoFar l.files l.read-index l.list.items;
  room : vec_capacity l.list ≡ length l.files;
  filled : vec_len l.list ≡ l.read-index;
}
