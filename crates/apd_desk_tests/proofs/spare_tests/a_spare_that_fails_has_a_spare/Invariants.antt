use Rattle.apd_desk_tests.proofs.spare_tests.a_spare_that_fails_has_a_spare.Given as goal

abbrev pub ghosts-find : goal.ghosts-find
ghosts-find g a = record { name = a.blank.name; parts = a.blank.parts }
