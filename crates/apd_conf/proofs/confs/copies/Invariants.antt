use Rattle.std.proofs.Common.{◌≡◌, take}
use Rattle.apd_conf.proofs.confs.copies.Given as goal

-- as many as were gone through
abbrev pub invariant-loop-conf : goal.invariant-loop-conf
invariant-loop-conf l = l.copies.items ≡ take l.conf-index l.list
