use Rattle.apd_mlme.proofs.Words.{BROADCAST, get-empty, station_cmp}
use Rattle.apd_frame.proofs.Senders.{sender_not_broadcast}
use Rattle.apd_mlme.proofs.AdmissionLemmas.{verdict_broadcast, run_broadcast}
use Rattle.apd_mlme.proofs.laws.no_station_gets_the_broadcast_address.Goals as goal

pub returns-clause-once : goal.returns-clause-once
returns-clause-once c = λ s confs h nobody. verdict_broadcast s confs h nobody.sender nobody.rows

pub returns-clause-run : goal.returns-clause-run
returns-clause-run c = λ s confs hs. run_broadcast confs hs s

pub returns-clause-first : goal.returns-clause-first
returns-clause-first c = λ b. get-empty station_cmp (b, BROADCAST)

pub returns-clause-decoded : goal.returns-clause-decoded
returns-clause-decoded c = sender_not_broadcast
