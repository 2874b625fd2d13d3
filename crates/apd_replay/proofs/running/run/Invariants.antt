use Rattle.apd_replay.proofs.running.run.Given as goal

abbrev pub ghosts-run_over_ledger : goal.ghosts-run_over_ledger
ghosts-run_over_ledger g a = record { name = a.blank.name; parts = a.blank.parts }
