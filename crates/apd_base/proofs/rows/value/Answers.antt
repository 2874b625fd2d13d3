use Rattle.std.proofs.Common.{sym, ap, ◌∙◌}
use Rattle.std.specs.Option.{option_map}
use Rattle.std.proofs.lemmas.Option.{slice_get-get_or}
use Rattle.apd_base.specs.Rows.{value_at}
use Rattle.apd_base.proofs.RowsLemmas.{find-place}
use Rattle.apd_base.proofs.rows.value.Goals as goal

pub returns-in-Ok : goal.returns-in-Ok
returns-in-Ok g c sorted =
    let rows = c.args.rows.now in
    sym (find-place g.met.K.Ord.total c.args.key.now rows sorted ∙ ap (value_at rows) (sym (c.in-Ok.ensures.exact sorted)) ∙ ap (option_map (λ e. e.1)) (slice_get-get_or rows c.in-Ok.i _ c.in-Ok.ensures.bound))

pub returns-in-Err : goal.returns-in-Err
returns-in-Err g c sorted =
    let rows = c.args.rows.now in
    sym (find-place g.met.K.Ord.total c.args.key.now rows sorted ∙ ap (value_at rows) (sym (c.in-Err.ensures.exact sorted)))
