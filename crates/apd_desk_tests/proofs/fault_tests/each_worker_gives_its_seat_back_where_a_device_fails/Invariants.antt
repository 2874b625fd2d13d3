use Rattle.apd_desk_tests.proofs.fault_tests.each_worker_gives_its_seat_back_where_a_device_fails.Given as goal

abbrev pub ghosts-fails : goal.ghosts-fails
ghosts-fails g a = record { name = a.blank.name; parts = a.blank.parts }
