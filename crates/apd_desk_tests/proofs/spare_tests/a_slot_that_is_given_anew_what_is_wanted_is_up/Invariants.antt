use Rattle.apd_desk_tests.proofs.spare_tests.a_slot_that_is_given_anew_what_is_wanted_is_up.Given as goal

abbrev pub ghosts-find : goal.ghosts-find
ghosts-find g a = record { name = a.blank.name; parts = a.blank.parts }
