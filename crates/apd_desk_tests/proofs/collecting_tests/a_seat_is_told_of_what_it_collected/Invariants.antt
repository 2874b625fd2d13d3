use Rattle.apd_desk_tests.proofs.collecting_tests.a_seat_is_told_of_what_it_collected.Given as goal

abbrev pub ghosts-tells_what_was_collected : goal.ghosts-tells_what_was_collected
ghosts-tells_what_was_collected g a = record { name = a.blank.name; parts = a.blank.parts }
