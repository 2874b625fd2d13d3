use Rattle.apd_script.proofs.script.runner.Runner.parse_text.Goals as goal

pub returns-in-Some-clause-ok : goal.returns-in-Some-clause-ok
returns-in-Some-clause-ok g c = rw c.in-Some.is at c.in_ok-line.ensures.some
