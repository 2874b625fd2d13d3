use Rattle.apd_desk_tests.proofs.waking_tests.answers_before_a_trail.Given as goal

abbrev pub ghosts-share_and_ask : goal.ghosts-share_and_ask
ghosts-share_and_ask g a = record { name = a.blank.name; parts = a.blank.parts }
