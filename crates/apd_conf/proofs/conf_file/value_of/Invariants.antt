use Rattle.std.proofs.Common.{◌≡◌}
use Rattle.std.specs.List.{last_or, filter_map}
use Rattle.std.specs.Option.{option_copied}
use Rattle.apd_conf.specs.Lines.{lines}
use Rattle.apd_conf.specs.ConfFile.{value_in, value_of}
use Rattle.apd_conf.proofs.conf_file.value_of.Given as goal

-- the last value of the lines that are left, and else the last so far
abbrev pub invariant-loop-line : goal.invariant-loop-line
invariant-loop-line l = last_or (option_copied l.last) (filter_map (value_in l.name) l.line-iterator) ≡ value_of l.name (lines l.fn.file)
