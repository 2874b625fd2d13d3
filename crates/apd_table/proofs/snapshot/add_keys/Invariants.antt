use Rattle.std.proofs.Common.{◌≡◌, ◌++◌, map as list_map}
use Rattle.apd_record.specs.declared.change.Change.TheVariants.{ListAdd}
use Rattle.apd_table.proofs.snapshot.add_keys.Given as goal

-- with those of the addresses that are left they are all
abbrev pub invariant-loop-addr : goal.invariant-loop-addr
invariant-loop-addr l = l.changes ++ list_map (λ a. ListAdd l.bssid l.which a) l.addr-iterator ≡ l.fn.changes ++ list_map (λ a. ListAdd l.bssid l.which a) l.keys.keys
