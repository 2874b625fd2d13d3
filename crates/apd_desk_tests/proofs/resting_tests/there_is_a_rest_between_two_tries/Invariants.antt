use Rattle.apd_desk_tests.proofs.resting_tests.there_is_a_rest_between_two_tries.Given as goal

abbrev pub ghosts-rests : goal.ghosts-rests
ghosts-rests g a = record { name = a.blank.name; parts = a.blank.parts }
