use Rattle.apd_script.proofs.Parts.{by_part}
use Rattle.apd_script.proofs.laws.a_stop_within_a_script_loses_nothing_told.Goals as goal

pub returns : goal.returns
returns g c = λ n texts old started new starts none run.
    let goes = by_part g.D.Disk.model g.R.Radio.model n texts old started new starts none run in
    (goes.steps, goes.tolds, goes.made.in_turn, goes.made.leads)
