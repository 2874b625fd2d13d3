use Rattle.apd_desk_tests.proofs.committer_tests.a_batch_that_a_committer_held_is_settled.Given as goal

abbrev pub ghosts-settles_held_batch : goal.ghosts-settles_held_batch
ghosts-settles_held_batch g a = record { name = a.blank.name; parts = a.blank.parts }
