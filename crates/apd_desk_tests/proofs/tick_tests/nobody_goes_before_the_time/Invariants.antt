use Rattle.apd_desk_tests.proofs.tick_tests.nobody_goes_before_the_time.Given as goal

abbrev pub ghosts-ticks : goal.ghosts-ticks
ghosts-ticks g a = record { name = a.blank.name; parts = a.blank.parts }
