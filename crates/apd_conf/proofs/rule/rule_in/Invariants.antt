use Rattle.std.proofs.Common.{◌≡◌, drop}
use Rattle.std.specs.Prelude.{map}
use Rattle.apd_conf.specs.Table.{rule_in}
use Rattle.apd_conf.proofs.rule.rule_in.Given as goal

-- no row so far has the name
abbrev pub invariant-loop-known : goal.invariant-loop-known
invariant-loop-known l = rule_in l.name (map (λ row. (row.0.now, row.1)) l.table) ≡ rule_in l.name (map (λ row. (row.0.now, row.1)) (drop l.known-index l.table))
