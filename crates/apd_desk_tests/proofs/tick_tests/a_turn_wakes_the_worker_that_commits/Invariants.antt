use Rattle.apd_desk_tests.proofs.tick_tests.a_turn_wakes_the_worker_that_commits.Given as goal

abbrev pub ghosts-commits_a_turn : goal.ghosts-commits_a_turn
ghosts-commits_a_turn g a = record { name = a.blank.name; parts = a.blank.parts }
