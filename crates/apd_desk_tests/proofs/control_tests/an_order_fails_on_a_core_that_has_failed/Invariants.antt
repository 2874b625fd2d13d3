use Rattle.apd_desk_tests.proofs.control_tests.an_order_fails_on_a_core_that_has_failed.Given as goal

abbrev pub ghosts-replies : goal.ghosts-replies
ghosts-replies g a = record { name = a.blank.name; parts = a.blank.parts }
