use Rattle.std.proofs.Common.{◌≡◌, length, map, take, vec_len, vec_capacity}
use Rattle.apd_script.specs.Configured.{AreOfNames}
use Rattle.apd_script.proofs.configuration_files.read_each.Given as goal

-- the names so far have their files, and there is room for the others
abbrev pub invariant-loop-name : goal.invariant-loop-name
invariant-loop-name g l = record {
  named : AreOfNames (map (λ name. name.now) (take l.name-index l.names)) l.files.items;
  room : vec_capacity l.files ≡ length l.names;
  filled : vec_len l.files ≡ l.name-index;
}
