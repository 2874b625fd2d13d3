use Rattle.apd_desk_tests.proofs.radio_tests.a_gate_is_passed_at_each_entry_and_each_turn.Given as goal

abbrev pub ghosts-gate_log : goal.ghosts-gate_log
ghosts-gate_log g a = record { name = a.blank.name; parts = a.blank.parts }
