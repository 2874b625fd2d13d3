use Rattle.apd_desk_tests.proofs.radio_tests.what_changes_nothing_makes_no_call.Given as goal

abbrev pub ghosts-log_probe : goal.ghosts-log_probe
ghosts-log_probe g a = record { name = a.blank.name; parts = a.blank.parts }
