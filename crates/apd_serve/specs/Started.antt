-- A world that was started (own).
use Rattle.std.specs.Prelude.{List}
use Rattle.apd_disk.specs.Disk.{DiskModel}
use Rattle.apd_mlme.specs.declared.decision.Recipient.{Recipient}
use Rattle.apd_radio.specs.Model.{RadioModel}
use Rattle.apd_world.specs.Starting.{IsAtRest, IsStarted}
use Rattle.apd_world.specs.WorldParts.{durable_of}
use Rattle.apd_world.specs.declared.step.Told.{Told}
use Rattle.apd_world.specs.declared.world.World.{World}

-- Each interface was configured, and what that brought about was committed and handed out. No batch, no call and no
-- receipt is left, which would be lost where the world is taken apart.
pub record HasStarted {D R : Type 0} (disk : DiskModel D) (radio : RadioModel R) (old new : World D R) : Type 0 where
  pub answers : List (Recipient × Told)
  pub started : IsStarted disk radio answers old new
  pub rests : IsAtRest (durable_of new)

-- it was started, whatever it was before
pub record WasStarted {D R : Type 0} (disk : DiskModel D) (radio : RadioModel R) (world : World D R) : Type 0 where
  pub before : World D R
  pub started : HasStarted disk radio before world
