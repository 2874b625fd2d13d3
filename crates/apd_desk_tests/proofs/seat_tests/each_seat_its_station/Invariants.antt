use Rattle.apd_desk_tests.proofs.seat_tests.each_seat_its_station.Given as goal

abbrev pub ghosts-eight_stations : goal.ghosts-eight_stations
ghosts-eight_stations g a = record { name = a.blank.name; parts = a.blank.parts }
