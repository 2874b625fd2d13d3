use Rattle.std.proofs.Common.{Err, ap, ◌∙◌}
use Rattle.std.proofs.lemmas.Result.{err_from_is_err_and}
use Rattle.apd_conf.proofs.FilesLemmas.{fault_of_first}
use Rattle.apd_conf.proofs.configuration.configurations.Goals as goal

pub returns-in_err-list-2-clause-err : goal.returns-in_err-list-2-clause-err
returns-in_err-list-2-clause-err c =
    let told = err_from_is_err_and c.from_residual-in_err-list-2.result c.from_residual-in_err-list-2.ensures.1 in
    rw (told.1 ∙ ap Err told.2)
    (λ other. fault_of_first c.args.files.now c.in_err-list-2.field-0.0 (c.in_err-list-2.ensures.err other))
