use Rattle.std.proofs.Common.{◌≡◌, rules, sym, ◌∙◌}
use Rattle.std.specs.Prelude.{Err}
use Rattle.apd_store.proofs.Words.{Damaged, IsMarkedOld, false≢true, old_magic}
use Rattle.apd_base.proofs.Cases.{not_false, not_yes}
use Rattle.apd_store.proofs.Current.{found_shows_by}
use Rattle.apd_store.proofs.reading.read_old_image.Goals as goal

pub returns-in_err-found-clause-damaged : goal.returns-in_err-found-clause-damaged
returns-in_err-found-clause-damaged c = λ e.
    let marked : IsMarkedOld c.args.bytes.now = c.is_marked-2.ensures.0 c.if-not-is_marked.false in
    let bad : c.read_halves.result ≡ Err Damaged = search rules in (
      marked,
      λ state shows. c.read_halves.ensures.damaged bad old_magic state marked shows.by_mark,
    )

pub returns-then-not-found-clause-damaged : goal.returns-then-not-found-clause-damaged
returns-then-not-found-clause-damaged c = λ e.
    let marked : IsMarkedOld c.args.bytes.now = c.is_marked-2.ensures.0 c.if-not-is_marked.false in (
      marked,
      λ state shows. false≢true (sym (not_yes c.in_ok-found.found.no_cursor c.if-not-found.true) ∙ (c.in_ok-found.ensures.cursor old_magic state marked shows.by_mark).1 shows.no_cursor),
    )

pub returns-clause-ok : goal.returns-clause-ok
returns-clause-ok c =
    let found = c.in_ok-found.found in
    let marked : IsMarkedOld c.args.bytes.now = c.is_marked-2.ensures.0 c.if-not-is_marked.false in
    let shown = found_shows_by old_magic c.args.bytes.now found.half found.epoch found.gate found.other_open found.table (c.in_ok-found.ensures.ok old_magic marked) in
    record { by_mark = shown; no_cursor = (c.in_ok-found.ensures.cursor old_magic found.table marked shown).0 (not_false c.in_ok-found.found.no_cursor c.if-not-found.false) }
