use Rattle.std.proofs.Common.{◌+◌, drop, sym, ap, ◌∙◌}
use Rattle.apd_core.proofs.Words.{drop_all, heard_at}
use Rattle.apd_core.proofs.AllHeard.{next_row}
use Rattle.apd_core.proofs.last_heard.LastHeard.put_all.Goals as goal

pub loop-addr-preserved : goal.loop-addr-preserved
loop-addr-preserved c = record {
  heard = ap (heard_at c.args.moment c.args.bssid (drop (c.loop-addr.addr-index + 1) c.args.addrs.now)) c.in_ok-put.ensures.ok
      ∙ sym (next_row c.args.moment c.args.bssid c.args.addrs.now c.loop-addr.addr-index _ c.loop-addr-test.true c.loop-addr.self)
      ∙ c.loop-addr.invariant.heard;
}

pub returns : goal.returns
returns c = sym (ap (λ addrs. heard_at c.args.moment c.args.bssid addrs c.loop-addr.self) (drop_all c.loop-addr.addr-index c.args.addrs.now c.loop-addr-test.false)) ∙ c.loop-addr.invariant.heard
