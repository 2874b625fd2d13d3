use Rattle.apd_desk_tests.proofs.seat_tests.there_are_65536_seats.Given as goal

abbrev pub ghosts-given_seats : goal.ghosts-given_seats
ghosts-given_seats g a = record { name = a.blank.name; parts = a.blank.parts }
