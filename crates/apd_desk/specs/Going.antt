-- How a step of the committing worker went (own).
use Rattle.std.specs.Prelude.{◌≡◌}
use Rattle.apd_disk.specs.Disk.{DiskModel}
use Rattle.apd_flusher.specs.declared.committer.Committer.{Committer}
use Rattle.apd_steps.specs.Calls.{Made}
use Rattle.apd_steps.specs.Run.{EndsRefused, IsRun}
use Rattle.apd_desk.specs.Ends.{EndsIdle}
use Rattle.apd_desk.specs.declared.committing.Went.{Went}
use Rattle.apd_desk.specs.declared.committing.Went.TheVariants.{Nothing, Refused}

-- it is told as refused behind a refusal alone, and that nothing was done where nothing was to be loaded
abbrev pub HasGone : {A D : Type 0} → DiskModel D → Made A → Went → A → A → Committer D → Committer D → Type 0
HasGone disk made went core after old new = (run : IsRun disk made core after old new)
    × (went ≡ Refused → EndsRefused run.steps) × (went ≡ Nothing → EndsIdle run.steps)
