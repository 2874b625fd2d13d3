use Rattle.std.proofs.Common.{refl, ◌∙◌}
use Rattle.apd_script.proofs.script.runner.Runner.fresh_parts.Goals as goal

pub returns-in-Some-clause-ok : goal.returns-in-Some-clause-ok
returns-in-Some-clause-ok g c = record {
  own = c.in_ok-confs.ensures ∙ c.confs.ensures;
  each = rw c.in-Some.is at c.in_ok-slots.ensures.slots;
  spares = rw c.in-Some.is at c.in_ok-slots.ensures.rest;
  only = refl;
}
