use Rattle.apd_desk_tests.proofs.collecting_tests.what_is_collected_is_what_a_core_hands_out.Given as goal

abbrev pub ghosts-outs_of_seat : goal.ghosts-outs_of_seat
ghosts-outs_of_seat g a = record { name = a.blank.name; parts = a.blank.parts }
