use Rattle.apd_desk_tests.proofs.control_tests.each_refusal_is_replied_to.Given as goal

abbrev pub ghosts-replies : goal.ghosts-replies
ghosts-replies g a = record { name = a.blank.name; parts = a.blank.parts }
