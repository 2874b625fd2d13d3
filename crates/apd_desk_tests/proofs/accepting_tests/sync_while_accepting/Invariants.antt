use Rattle.apd_desk_tests.proofs.accepting_tests.sync_while_accepting.Given as goal

abbrev pub ghosts-accepts_while_held : goal.ghosts-accepts_while_held
ghosts-accepts_while_held g a = record { name = a.blank.name; parts = a.blank.parts }
