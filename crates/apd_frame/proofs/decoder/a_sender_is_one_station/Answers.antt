use Rattle.apd_frame.proofs.Senders.{sender_individual, sender_not_broadcast}
use Rattle.apd_frame.proofs.decoder.a_sender_is_one_station.Goals as goal

pub returns-clause-individual : goal.returns-clause-individual
returns-clause-individual c = sender_individual

pub returns-clause-not_broadcast : goal.returns-clause-not_broadcast
returns-clause-not_broadcast c = sender_not_broadcast
