use Rattle.std.proofs.Common.{◌≢◌, IfErr, Result, Err, sym, ap, subst, ◌∙◌}
use Rattle.std.proofs.lemmas.Result.{err_from_is_err_and}
use Rattle.apd_conf.specs.Files.{IsFaultOfFiles}
use Rattle.apd_conf.specs.declared.conf.Conf.{Conf}
use Rattle.apd_conf.specs.declared.configuration.ConfigurationFault.{ConfigurationFault}
use Rattle.apd_conf.specs.declared.configuration.ConfigurationFault.TheVariants.{NoMemory}
use Rattle.apd_conf.proofs.FilesLemmas.{accept_fault, deny_fault}
use Rattle.apd_conf.proofs.configuration.configuration.Goals as goal

pub returns-in_err-accept-clause-err : goal.returns-in_err-accept-clause-err
returns-in_err-accept-clause-err c =
    let told = err_from_is_err_and c.from_residual-in_err-accept.result c.from_residual-in_err-accept.ensures.1 in
    subst (λ (r : Result Conf ConfigurationFault). IfErr r (λ fault. fault ≢ NoMemory → IsFaultOfFiles c.args.read.now fault)) (sym (told.1 ∙ ap Err told.2))
    (λ other. accept_fault c.args.read.now c.in_ok-conf.conf c.in_err-accept.field-0.0 c.in_ok-conf.ensures.ok (c.in_err-accept.ensures.err other))

pub returns-in_err-deny-clause-err : goal.returns-in_err-deny-clause-err
returns-in_err-deny-clause-err c =
    let told = err_from_is_err_and c.from_residual-in_err-deny.result c.from_residual-in_err-deny.ensures.1 in
    subst (λ (r : Result Conf ConfigurationFault). IfErr r (λ fault. fault ≢ NoMemory → IsFaultOfFiles c.args.read.now fault)) (sym (told.1 ∙ ap Err told.2))
    (λ other. deny_fault c.args.read.now c.in_ok-conf.conf c.in_ok-accept.accept c.in_err-deny.field-0.0 c.in_ok-conf.ensures.ok c.in_ok-accept.ensures.ok (c.in_err-deny.ensures.err other))
