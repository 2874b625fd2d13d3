use Rattle.apd_desk_tests.proofs.spare_tests.a_slot_without_a_spare_stays_down_after_three_tries.Given as goal

abbrev pub ghosts-find : goal.ghosts-find
ghosts-find g a = record { name = a.blank.name; parts = a.blank.parts }
