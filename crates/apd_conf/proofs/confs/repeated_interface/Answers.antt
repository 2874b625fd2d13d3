use Rattle.std.proofs.Common.{arith, below_more}
use Rattle.std.specs.Ordering.{nat_cmp, eq_by_cmp}
use Rattle.std.specs.Cmp.Lexicographic.{slice_cmp}
use Rattle.apd_conf.specs.declared.conf.Conf.{Conf}
use Rattle.apd_conf.proofs.ConfLemmas.{name_same, name_itself}
use Rattle.apd_conf.proofs.Repeats.{found_repeated, not_repeated, none_repeated}
use Rattle.apd_conf.proofs.confs.repeated_interface.Goals as goal

pub returns-then-is_some-clause-some : goal.returns-then-is_some-clause-some
returns-then-is_some-clause-some c =
    found_repeated (eq_by_cmp (slice_cmp nat_cmp)) (λ (d : Conf). d.interface) name_same c.args.list.now _ _ c.index-list-place.result _ c.at_interface.result
    (omega arith) c.loop-place-test.true c.index-list-place.is c.as_bytes.ensures.bytes c.at_interface.ensures (cc) c.loop-place.invariant

pub loop-place-preserved : goal.loop-place-preserved
loop-place-preserved c =
    below_more _ _ c.loop-place.invariant
    (not_repeated (eq_by_cmp (slice_cmp nat_cmp)) (λ (d : Conf). d.interface) name_itself c.args.list.now _ _ c.index-list-place.result _ c.at_interface.result
    (omega arith) c.loop-place-test.true c.index-list-place.is c.as_bytes.ensures.bytes c.at_interface.ensures (cc))

pub returns-clause-none : goal.returns-clause-none
returns-clause-none c = none_repeated (λ (d : Conf). d.interface) c.args.list.now _ c.loop-place-test.false c.loop-place.invariant
