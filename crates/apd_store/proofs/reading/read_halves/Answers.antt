use Rattle.std.proofs.Common.{sym, ◌∙◌}
use Rattle.std.specs.Prelude.{Err}
use Rattle.apd_store.proofs.Words.{Damaged, false≢true}
use Rattle.apd_store.proofs.Found.{read_a, read_b, cursor_first, cursor_second, damaged_first, damaged_second, damaged_both, slice_a, slice_b}
use Rattle.apd_store.proofs.reading.read_halves.Goals as goal

pub returns-then-is_current-clause-ok : goal.returns-then-is_current-clause-ok
returns-then-is_current-clause-ok c = λ mark marked.
    read_a mark c.args.bytes.now marked c.split_at.result.0.now c.split_at.result.1.now (slice_a c.args.bytes.now c.split_at.result.0.now c.split_at.ensures.front) (slice_b c.args.bytes.now c.split_at.result.1.now c.split_at.ensures.back) c.read_half.result
    (c.is_current.ensures.0 c.if-is_current.true) c.read_half.ensures.half c.read_half.ensures.shows c.read_half.ensures.other

pub returns-then-is_current-clause-cursor : goal.returns-then-is_current-clause-cursor
returns-then-is_current-clause-cursor c = λ mark state marked.
    cursor_first mark c.args.bytes.now marked c.split_at.result.0.now c.split_at.result.1.now (slice_a c.args.bytes.now c.split_at.result.0.now c.split_at.ensures.front) (slice_b c.args.bytes.now c.split_at.result.1.now c.split_at.ensures.back) c.read_half.result
    (c.is_current.ensures.0 c.if-is_current.true) c.read_half.ensures.cursor state

pub returns-then-is_current-clause-damaged : goal.returns-then-is_current-clause-damaged
returns-then-is_current-clause-damaged c = λ e mark state marked.
    damaged_first mark c.args.bytes.now marked c.split_at.result.0.now c.split_at.result.1.now (slice_a c.args.bytes.now c.split_at.result.0.now c.split_at.ensures.front) (slice_b c.args.bytes.now c.split_at.result.1.now c.split_at.ensures.back) c.read_half.result
    (c.is_current.ensures.0 c.if-is_current.true) (c.read_half.ensures.damaged e) state

pub returns-then-is_current-2-clause-ok : goal.returns-then-is_current-2-clause-ok
returns-then-is_current-2-clause-ok c = λ mark marked.
    read_b mark c.args.bytes.now marked c.split_at.result.0.now c.split_at.result.1.now (slice_a c.args.bytes.now c.split_at.result.0.now c.split_at.ensures.front) (slice_b c.args.bytes.now c.split_at.result.1.now c.split_at.ensures.back) c.read_half-then-is_current-2.result
    (c.is_current-2.ensures.0 c.if-is_current-2.true) c.read_half-then-is_current-2.ensures.half c.read_half-then-is_current-2.ensures.shows c.read_half-then-is_current-2.ensures.other

pub returns-then-is_current-2-clause-cursor : goal.returns-then-is_current-2-clause-cursor
returns-then-is_current-2-clause-cursor c = λ mark state marked.
    cursor_second mark c.args.bytes.now marked c.split_at.result.0.now c.split_at.result.1.now (slice_a c.args.bytes.now c.split_at.result.0.now c.split_at.ensures.front) (slice_b c.args.bytes.now c.split_at.result.1.now c.split_at.ensures.back) c.read_half-then-is_current-2.result
    (c.is_current-2.ensures.0 c.if-is_current-2.true) c.read_half-then-is_current-2.ensures.cursor state

pub returns-then-is_current-2-clause-damaged : goal.returns-then-is_current-2-clause-damaged
returns-then-is_current-2-clause-damaged c = λ e mark state marked.
    damaged_second mark c.args.bytes.now marked c.split_at.result.0.now c.split_at.result.1.now (slice_a c.args.bytes.now c.split_at.result.0.now c.split_at.ensures.front) (slice_b c.args.bytes.now c.split_at.result.1.now c.split_at.ensures.back) c.read_half-then-is_current-2.result
    (c.is_current-2.ensures.0 c.if-is_current-2.true) (c.read_half-then-is_current-2.ensures.damaged e) state

pub returns-clause-damaged : goal.returns-clause-damaged
returns-clause-damaged c = λ e mark state marked.
    damaged_both mark c.args.bytes.now marked c.split_at.result.0.now c.split_at.result.1.now (slice_a c.args.bytes.now c.split_at.result.0.now c.split_at.ensures.front) (slice_b c.args.bytes.now c.split_at.result.1.now c.split_at.ensures.back) (Err Damaged)
    (λ current. false≢true (sym c.if-is_current.false ∙ c.is_current.ensures.1 current)) (λ current. false≢true (sym c.if-is_current-2.false ∙ c.is_current-2.ensures.1 current)) state
