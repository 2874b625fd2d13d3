use Rattle.apd_desk_tests.proofs.radio_tests.no_out_is_lost_at_want_of_memory_or_at_a_stop.Given as goal

abbrev pub ghosts-radio_log : goal.ghosts-radio_log
ghosts-radio_log g a = record { name = a.blank.name; parts = a.blank.parts }
