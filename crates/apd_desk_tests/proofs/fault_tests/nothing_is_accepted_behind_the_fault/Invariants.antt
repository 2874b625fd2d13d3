use Rattle.apd_desk_tests.proofs.fault_tests.nothing_is_accepted_behind_the_fault.Given as goal

abbrev pub ghosts-stops : goal.ghosts-stops
ghosts-stops g a = record { name = a.blank.name; parts = a.blank.parts }
