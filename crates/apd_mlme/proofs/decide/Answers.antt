use Rattle.apd_event.specs.Happening.{happening}
use Rattle.apd_mlme.proofs.VerdictLemmas.{decided_meaning, decided_sound, decided_driver}
use Rattle.apd_mlme.proofs.RecordLengthLemmas.{decided_length}
use Rattle.apd_mlme.proofs.decide.Goals as goal

pub returns-clause-meaning : goal.returns-clause-meaning
returns-clause-meaning c = decided_meaning c.args.table.now c.args.confs.now (happening c.args.event) c.decide_fit.result c.decide_fit.ensures.changes

pub returns-clause-sound : goal.returns-clause-sound
returns-clause-sound c = decided_sound c.args.table.now c.args.confs.now (happening c.args.event) c.decide_fit.result c.requires c.sound.ensures c.decide_fit.ensures.changes

pub returns-clause-driver : goal.returns-clause-driver
returns-clause-driver c = decided_driver c.args.table.now c.args.confs.now (happening c.args.event) c.decide_fit.result c.decide_fit.ensures.outs

pub returns-clause-records : goal.returns-clause-records
returns-clause-records c = decided_length c.args.table.now c.args.confs.now (happening c.args.event) c.decide_fit.result c.requires c.sound.ensures c.decide_fit.ensures.changes c.decide_fit.ensures.known
