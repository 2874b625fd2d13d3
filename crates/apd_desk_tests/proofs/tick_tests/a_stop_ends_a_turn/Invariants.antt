use Rattle.apd_desk_tests.proofs.tick_tests.a_stop_ends_a_turn.Given as goal

abbrev pub ghosts-ticks_until_a_stop : goal.ghosts-ticks_until_a_stop
ghosts-ticks_until_a_stop g a = record { name = a.blank.name; parts = a.blank.parts }
