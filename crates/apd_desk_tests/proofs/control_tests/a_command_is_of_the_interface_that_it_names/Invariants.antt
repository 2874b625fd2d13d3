use Rattle.apd_desk_tests.proofs.control_tests.a_command_is_of_the_interface_that_it_names.Given as goal

abbrev pub ghosts-shows_both : goal.ghosts-shows_both
ghosts-shows_both g a = record { name = a.blank.name; parts = a.blank.parts }
