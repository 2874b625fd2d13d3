use Rattle.std.proofs.Common.{subst, sym}
use Rattle.apd_core.proofs.Keeping.{front_runs}
use Rattle.apd_core.proofs.Settling.{decided_fit}
use Rattle.apd_mlme.proofs.VerdictLemmas.{run_sound}
use Rattle.apd_table.specs.Sound.{Sound}
use Rattle.apd_desk.proofs.laws.a_core_that_nobody_calls.Goals as goal

pub returns-clause-entries : goal.returns-clause-entries
returns-clause-entries c = (c.sound.ensures.unsettled, front_runs c.args.core.now c.sound.ensures.unsettled)

pub returns-clause-front : goal.returns-clause-front
returns-clause-front c =
    let s = c.args.core.now in
    let u = c.sound.ensures.unsettled in
    subst Sound (sym (front_runs s u)) (run_sound s.confs u.happened s.settled (decided_fit s.confs u.happened s.unsettled s.settled u.decided) c.sound.ensures.sound)
