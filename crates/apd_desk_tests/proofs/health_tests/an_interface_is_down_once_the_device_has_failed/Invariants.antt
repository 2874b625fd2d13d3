use Rattle.apd_desk_tests.proofs.health_tests.an_interface_is_down_once_the_device_has_failed.Given as goal

abbrev pub ghosts-tells_behind : goal.ghosts-tells_behind
ghosts-tells_behind g a = record { name = a.blank.name; parts = a.blank.parts }
