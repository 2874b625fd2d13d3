use Rattle.std.proofs.Common.{ap, ◌∙◌, Err}
use Rattle.std.proofs.lemmas.Result.{err_from_is_err_and}
use Rattle.apd_conf.specs.declared.conf_fault.ConfFault.TheVariants.{NoMemory}
use Rattle.apd_conf.specs.ConfFile.{IsFaultOf}
use Rattle.apd_conf.specs.Lines.{lines}
use Rattle.apd_conf.proofs.FileLemmas.{one_fault}
use Rattle.apd_conf.proofs.FaultLemmas.{told}
use Rattle.apd_conf.proofs.conf_file.read_conf.Goals as goal

pub returns-in_err-check-clause-err : goal.returns-in_err-check-clause-err
returns-in_err-check-clause-err c =
    let p = err_from_is_err_and c.from_residual.result c.from_residual.ensures.1 in
    told NoMemory (IsFaultOf (lines c.args.file.now)) c.from_residual.result (one_fault (lines c.args.file.now)) c.in_err-check.field-0.0 c.in_err-check.ensures.err (p.1 ∙ ap Err p.2)
