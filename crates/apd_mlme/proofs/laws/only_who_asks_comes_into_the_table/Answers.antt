use Rattle.apd_mlme.proofs.AdmissionLemmas.{verdict_admits, run_admits}
use Rattle.apd_mlme.proofs.laws.only_who_asks_comes_into_the_table.Goals as goal

pub returns-clause-once : goal.returns-clause-once
returns-clause-once c = λ s confs h b a none. verdict_admits s confs b a none h

pub returns-clause-run : goal.returns-clause-run
returns-clause-run c = λ s confs hs b a. run_admits confs b a hs s
