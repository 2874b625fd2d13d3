use Rattle.std.proofs.Common.{refl, arith, below_more}
use Rattle.std.specs.Ordering.{eq_by_cmp}
use Rattle.apd_base.specs.Addr.{bssid_cmp}
use Rattle.apd_conf.specs.declared.conf.Conf.{Conf}
use Rattle.apd_base.proofs.AddrLemmas.{same_bssid}
use Rattle.apd_conf.proofs.ConfLemmas.{bssid_itself}
use Rattle.apd_conf.proofs.Repeats.{found_repeated, not_repeated, none_repeated}
use Rattle.apd_conf.proofs.confs.repeated_bssid.Goals as goal

pub returns-then-is_some-clause-some : goal.returns-then-is_some-clause-some
returns-then-is_some-clause-some c =
    found_repeated (eq_by_cmp bssid_cmp) (λ (d : Conf). d.bssid) (λ a b. same_bssid b a) c.args.list.now _ _ c.index-list-place.result _ c.at_bssid.result
    (omega arith) c.loop-place-test.true c.index-list-place.is refl c.at_bssid.ensures (cc) c.loop-place.invariant

pub loop-place-preserved : goal.loop-place-preserved
loop-place-preserved c =
    below_more _ _ c.loop-place.invariant
    (not_repeated (eq_by_cmp bssid_cmp) (λ (d : Conf). d.bssid) bssid_itself c.args.list.now _ _ c.index-list-place.result _ c.at_bssid.result
    (omega arith) c.loop-place-test.true c.index-list-place.is refl c.at_bssid.ensures (cc))

pub returns-clause-none : goal.returns-clause-none
returns-clause-none c = none_repeated (λ (d : Conf). d.bssid) c.args.list.now _ c.loop-place-test.false c.loop-place.invariant
