use Rattle.std.proofs.Common.{◌∙◌, arith}
use Rattle.apd_slot.proofs.Pushed.{installs, all_rows}
use Rattle.apd_slot.proofs.resuming.install_all.Goals as goal

pub loop-addr-preserved : goal.loop-addr-preserved
loop-addr-preserved g c =
    let before = c.loop-addr.invariant in
    record {
      rows = before.rows;
      installed = installs c.args.stations.now c.rows-addr-items.result.now before.rows c.loop-addr.addr-index _ c.loop-addr-test.true _ _ before.installed c.in-Ok.ensures.ok;
      frames = c.in-Ok.ensures.kept ∙ before.frames;
      faults = c.in-Ok.ensures.stays ∙ before.faults;
      sent = c.in-Ok.ensures.sent ∙ before.sent;
    }

pub returns-clause-ok : goal.returns-clause-ok
returns-clause-ok g c = c.loop-addr.invariant.installed ∙ all_rows c.args.stations.now c.rows-addr-items.result.now c.loop-addr.invariant.rows c.loop-addr.addr-index (omega arith)
