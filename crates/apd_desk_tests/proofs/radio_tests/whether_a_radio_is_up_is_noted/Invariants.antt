use Rattle.apd_desk_tests.proofs.radio_tests.whether_a_radio_is_up_is_noted.Given as goal

abbrev pub ghosts-up_when_served : goal.ghosts-up_when_served
ghosts-up_when_served g a = record { name = a.blank.name; parts = a.blank.parts }
