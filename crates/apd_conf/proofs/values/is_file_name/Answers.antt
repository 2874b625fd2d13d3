use Rattle.apd_conf.proofs.TextLemmas.{file_name-text, file_name-other}
use Rattle.apd_conf.proofs.values.is_file_name.Goals as goal

pub returns-in-Ok : goal.returns-in-Ok
returns-in-Ok c = file_name-text c.in-Ok.text.now c.args.value.now c.is_name.result c.is_name.ensures c.in-Ok.ensures.cases.0 c.in-Ok.ensures.cases.1

pub returns-in-Err : goal.returns-in-Err
returns-in-Err c = file_name-other c.args.value.now c.in-Err.ensures.cases.0
