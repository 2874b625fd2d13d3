use Rattle.apd_core.proofs.Words.{answer_at, happening_of}
use Rattle.apd_core.proofs.CoreLemmas.{request_front, request_held}
use Rattle.apd_core.proofs.laws.an_entry_is_held.Goals as goal

pub returns-clause-front : goal.returns-clause-front
returns-clause-front c = λ s m i. request_front s m (happening_of s.confs s.heard m i) (answer_at s m i)

pub returns-clause-held : goal.returns-clause-held
returns-clause-held c = λ s m i r core. request_held s m core r (happening_of s.confs s.heard m i) (answer_at s m i)
