use Rattle.apd_mlme.proofs.VerdictLemmas.{meaning_in, sound_in, unchanged_in}
use Rattle.apd_mlme.proofs.laws.changes_lead_to_the_state.Goals as goal

pub returns-clause-meaning : goal.returns-clause-meaning
returns-clause-meaning c = meaning_in

pub returns-clause-sound : goal.returns-clause-sound
returns-clause-sound c = sound_in

pub returns-clause-unchanged : goal.returns-clause-unchanged
returns-clause-unchanged c = unchanged_in
