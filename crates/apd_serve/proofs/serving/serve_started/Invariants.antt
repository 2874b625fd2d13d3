use Rattle.apd_serve.proofs.serving.serve_started.Given as goal

abbrev pub ghosts-serve_crew : goal.ghosts-serve_crew
ghosts-serve_crew g a = record { name = a.blank.name; parts = a.blank.parts }
