use Rattle.std.proofs.Common.{ap, ◌∙◌, Err}
use Rattle.std.proofs.lemmas.Result.{err_from_is_err_and}
use Rattle.apd_conf.specs.declared.list_fault.ListFault.TheVariants.{NoMemory}
use Rattle.apd_conf.specs.ListFile.{IsFaultOf}
use Rattle.apd_conf.specs.Lines.{lines}
use Rattle.apd_conf.proofs.FileLemmas.{one_list_fault}
use Rattle.apd_conf.proofs.FaultLemmas.{told}
use Rattle.apd_conf.proofs.list_file.read_list.Goals as goal

pub returns-in_err-list-clause-err : goal.returns-in_err-list-clause-err
returns-in_err-list-clause-err c =
    let p = err_from_is_err_and c.from_residual.result c.from_residual.ensures.1 in
    told NoMemory (IsFaultOf (lines c.args.file.now)) c.from_residual.result (one_list_fault (lines c.args.file.now)) c.in_err-list.field-0.0 c.in_err-list.ensures.err (p.1 ∙ ap Err p.2)
