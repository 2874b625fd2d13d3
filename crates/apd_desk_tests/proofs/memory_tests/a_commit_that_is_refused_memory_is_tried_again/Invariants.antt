use Rattle.apd_desk_tests.proofs.memory_tests.a_commit_that_is_refused_memory_is_tried_again.Given as goal

abbrev pub ghosts-commits_shared : goal.ghosts-commits_shared
ghosts-commits_shared g a = record { name = a.blank.name; parts = a.blank.parts }
