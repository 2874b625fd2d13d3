use Rattle.std.proofs.Common.{◌≡◌, drop}
use Rattle.std.specs.Prelude.{map}
use Rattle.apd_conf.specs.Table.{is_one_of}
use Rattle.apd_conf.proofs.rule.is_one_of.Given as goal

-- no one was it so far
abbrev pub invariant-loop-known : goal.invariant-loop-known
invariant-loop-known l = is_one_of l.name (map (λ known. known.now) l.names) ≡ is_one_of l.name (map (λ known. known.now) (drop l.known-index l.names))
