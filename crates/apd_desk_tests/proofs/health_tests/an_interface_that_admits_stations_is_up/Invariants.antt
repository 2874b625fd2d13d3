use Rattle.apd_desk_tests.proofs.health_tests.an_interface_that_admits_stations_is_up.Given as goal

abbrev pub ghosts-tells_at_once : goal.ghosts-tells_at_once
ghosts-tells_at_once g a = record { name = a.blank.name; parts = a.blank.parts }
