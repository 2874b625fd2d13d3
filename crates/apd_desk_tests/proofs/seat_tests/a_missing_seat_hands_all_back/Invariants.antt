use Rattle.apd_desk_tests.proofs.seat_tests.a_missing_seat_hands_all_back.Given as goal

abbrev pub ghosts-close_twice : goal.ghosts-close_twice
ghosts-close_twice g a = record { name = a.blank.name; parts = a.blank.parts }
