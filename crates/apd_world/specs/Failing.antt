-- The core of a world is told to fail: no step, but a call between lists of steps (own).
use Rattle.std.specs.Prelude.{◌≡◌, true}
use Rattle.apd_world.specs.Words.{DiskModel, World}
use Rattle.apd_world.specs.Proper.{IsSafe}
use Rattle.apd_world.specs.WorldParts.{durable_of}

-- Nothing changes but that the core has failed, and a stop leaves what it left before.
pub record IsFailed {D R : Type 0} (disk : DiskModel D) (old new : World D R) : Type 0 where
  pub only : new ≡ record old {
    durable = record (durable_of old) { core = record (durable_of old).core { failed = true } };
  }
  pub safe : IsSafe disk (durable_of old) (durable_of new)
