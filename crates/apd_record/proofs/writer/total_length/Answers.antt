use Rattle.std.proofs.Common.{◌≡◌, ◌+◌, length, take, ap, ◌∙◌, sym, arith}
use Rattle.std.proofs.lemmas.List.{length-append}
use Rattle.apd_record.specs.Record.{record_of, records_of}
use Rattle.apd_record.proofs.Lengths.{records_so_far}
use Rattle.apd_record.proofs.Progress.{known_so_far}
use Rattle.apd_record.proofs.writer.total_length.Goals as goal

pub loop-change-preserved : goal.loop-change-preserved
loop-change-preserved c =
    let xs = c.args.changes.now in
    let i = c.loop-change.change-index in
    let x = c.change-item.result in
    let so_far = length (records_of (take i xs)) in
    let item : length (record_of x) ≡ c.record_length.result = sym c.record_length.ensures.length in
    let longer : length (records_of (take (i + 1) xs)) ≡ so_far + c.record_length.result =
    ap length (records_so_far xs i x c.loop-change-test.true) ∙ length-append (records_of (take i xs)) _ ∙ ap (λ k. so_far + k) (ap (λ y. length (record_of y)) (sym c.change-item.is) ∙ item) in
    record {
      total = omega arith;
      known = known_so_far xs i x c.loop-change-test.true c.change-item.is c.loop-change.invariant.known c.range_law.ensures;
    }
