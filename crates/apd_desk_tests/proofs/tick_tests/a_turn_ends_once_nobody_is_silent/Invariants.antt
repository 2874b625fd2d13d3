use Rattle.apd_desk_tests.proofs.tick_tests.a_turn_ends_once_nobody_is_silent.Given as goal

abbrev pub ghosts-ticks : goal.ghosts-ticks
ghosts-ticks g a = record { name = a.blank.name; parts = a.blank.parts }
