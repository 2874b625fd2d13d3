use Rattle.apd_desk_tests.proofs.committer_tests.a_receipt_that_is_refused_waits_in_the_committer.Given as goal

abbrev pub ghosts-waits : goal.ghosts-waits
ghosts-waits g a = record { name = a.blank.name; parts = a.blank.parts }
