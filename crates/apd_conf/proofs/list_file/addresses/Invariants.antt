use Rattle.std.proofs.Common.{◌≡◌, take}
use Rattle.std.specs.Prelude.{map}
use Rattle.apd_conf.proofs.list_file.addresses.Given as goal

-- the addresses of the rows that were gone through
abbrev pub invariant-loop-addr : goal.invariant-loop-addr
invariant-loop-addr l = l.addresses.items ≡ map (λ row. row.0) (take l.addr-index l.list)
