use Rattle.apd_desk_tests.proofs.tick_tests.a_jump_of_the_clock_is_one_turn.Given as goal

abbrev pub ghosts-ticks : goal.ghosts-ticks
ghosts-ticks g a = record { name = a.blank.name; parts = a.blank.parts }
