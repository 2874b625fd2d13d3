use Rattle.apd_desk_tests.proofs.spare_tests.spares_are_tried_in_order.Given as goal

abbrev pub ghosts-find : goal.ghosts-find
ghosts-find g a = record { name = a.blank.name; parts = a.blank.parts }
