-- What a step does.
use Rattle.std.specs.Prelude.{◌≡◌}
use Rattle.apd_world.specs.Words.{DurableCore, Step, Told, front_of}
use Rattle.apd_world.specs.CoreRun.{Goes}
use Rattle.apd_world.specs.Steps.{step_happenings, handed_outs, heard_after}
use Rattle.apd_world.specs.Telling.{Tells}

-- one step, and what it tells
pub record IsStep {D : Type 0} (step : Step) (told : Told) (old new : DurableCore D) : Type 0 where
  pub tells : Tells step told old new
  pub goes : Goes (step_happenings old.core.confs old.core.heard step told) (λ r. handed_outs r step told)
      old.core new.core
  pub heard : new.core.heard ≡ heard_after old.core.confs (front_of old.core) old.core.heard step told
