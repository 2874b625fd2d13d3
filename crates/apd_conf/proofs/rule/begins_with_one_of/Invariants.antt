use Rattle.std.proofs.Common.{◌≡◌, drop}
use Rattle.std.specs.Prelude.{map}
use Rattle.apd_conf.specs.Table.{begins_with_one_of}
use Rattle.apd_conf.proofs.rule.begins_with_one_of.Given as goal

-- no one was it so far
abbrev pub invariant-loop-prefix : goal.invariant-loop-prefix
invariant-loop-prefix l = begins_with_one_of l.name (map (λ prefix. prefix.now) l.prefixes) ≡ begins_with_one_of l.name (map (λ prefix. prefix.now) (drop l.prefix-index l.prefixes))
