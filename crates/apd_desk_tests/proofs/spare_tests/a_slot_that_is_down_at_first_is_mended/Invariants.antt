use Rattle.apd_desk_tests.proofs.spare_tests.a_slot_that_is_down_at_first_is_mended.Given as goal

abbrev pub ghosts-find : goal.ghosts-find
ghosts-find g a = record { name = a.blank.name; parts = a.blank.parts }
