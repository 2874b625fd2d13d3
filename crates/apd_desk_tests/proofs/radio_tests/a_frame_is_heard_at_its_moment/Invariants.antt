use Rattle.apd_desk_tests.proofs.radio_tests.a_frame_is_heard_at_its_moment.Given as goal

abbrev pub ghosts-departures : goal.ghosts-departures
ghosts-departures g a = record { name = a.blank.name; parts = a.blank.parts }
