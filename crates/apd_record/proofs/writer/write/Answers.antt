use Rattle.std.proofs.Common.{◌++◌, take, ap, ◌∙◌, sym}
use Rattle.apd_record.specs.Record.{record_of, records_of}
use Rattle.apd_record.proofs.Lengths.{records_so_far}
use Rattle.apd_record.proofs.writer.write.Goals as goal

pub loop-change-preserved : goal.loop-change-preserved
loop-change-preserved c =
    let before = take c.loop-change.change-index c.args.changes.now in
    c.in_ok-write_record.ensures ∙ ap (λ bytes. bytes ++ record_of c.change-item.result) c.loop-change.invariant ∙ ap (λ x. records_of before ++ record_of x) c.change-item.is
    ∙ sym (records_so_far c.args.changes.now c.loop-change.change-index c.change-item.result c.loop-change-test.true)
