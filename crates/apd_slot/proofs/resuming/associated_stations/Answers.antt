use Rattle.std.proofs.Common.{List, sym, ap, ◌∙◌, arith, flat_map}
use Rattle.std.specs.FinMap as map
use Rattle.apd_base.specs.declared.address.Addr.{Addr}
use Rattle.apd_base.specs.State.{aid_at}
use Rattle.apd_slot.specs.Rows.{row_of, with_station}
use Rattle.apd_slot.proofs.Rising.{one_more, all_put}
use Rattle.apd_slot.proofs.resuming.associated_stations.Goals as goal

pub loop-addr-preserved : goal.loop-addr-preserved
loop-addr-preserved c =
    let before = c.loop-addr.invariant in
    record {
      all = before.all;
      found = c.in_ok-put_station.ensures ∙ ap (with_station _ c.identifier_of.result) before.found
          ∙ one_more (aid_at c.args.table.now c.args.bssid) c.deref-addr-items.result.now c.loop-addr.addr-index _ c.identifier_of.result c.loop-addr-test.true c.identifier_of.ensures;
    }

pub returns : goal.returns
returns c =
    let f = aid_at c.args.table.now c.args.bssid in
    c.loop-addr.invariant.found
    ∙ all_put f c.deref-addr-items.result.now c.loop-addr.addr-index (omega arith)
    ∙ ap (λ (all : List Addr). map.from_entries (flat_map (λ a. row_of a (f a)) all)) (sym c.loop-addr.invariant.all)
