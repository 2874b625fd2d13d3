-- Steps of a core and its committer, by what one has seen of it.
use Rattle.std.proofs.Common.{inl, inr, ⊎_elim, List, [], ◌∷◌, Some, None, Result, Ok, Err, ap}
use Rattle.apd_core.specs.Core.{CoreState}
use Rattle.apd_disk.specs.Disk.{DiskModel}
use Rattle.apd_store.specs.declared.fault.StoreFault.{StoreFault}
use Rattle.apd_store.specs.declared.fault.StoreFault.TheVariants as store_fault
use Rattle.apd_flusher.specs.declared.committer.Committer.{Committer}
use Rattle.apd_steps.specs.Calls.{FailTells, Made}
use Rattle.apd_steps.specs.Committing.{CoreGoes}
use Rattle.apd_steps.specs.Run.{AreSteps, Call, Does, Fail, IsRun, Publish, Step, Take}

-- ---- what is known of one is known of the other
module _ {A B : Type 0} (made : Made A) (also : Made B) (seen : A → B)
    (so : (call : CoreState → CoreState → Type 0) (core after : A) → made call core after → also call (seen core) (seen after)) where
  goes_as : (answer : Result (Unit {0}) StoreFault) (core after : A) → CoreGoes made answer core after
      → CoreGoes also answer (seen core) (seen after)
  goes_as (Ok x) core after goes = ap seen goes
  goes_as (Err store_fault.Device) core after goes = so FailTells core after goes
  goes_as (Err fault) core after goes = ap seen goes

  module _ {D : Type 0} where
    does_as : (step : Step) (core after : A) (old new : Committer D) → Does made step core after old new
        → Does also step (seen core) (seen after) old new
    does_as (Take given (Ok (Some answer))) core after old new does = record {
      from = ⊎_elim (λ waits. inl (waits.0, waits.1, ap seen waits.2)) (λ gives. inr (gives.0, so _ core after gives.1)) does.from;
      load = does.load;
      device = does.device;
    }
    does_as (Take given (Ok None)) core after old new does = (does.0, does.1, so _ core after does.2, does.3)
    does_as (Take given (Err short)) core after old new does = (does.0, does.1, so _ core after does.2, does.3)
    does_as (Call (Some answer)) core after old new does = record {
      some_call = does.some_call;
      core_goes = goes_as answer core after does.core_goes;
      tells = does.tells;
      batch_is = does.batch_is;
      table = does.table;
      next = does.next;
      batch = does.batch;
      receipt = does.receipt;
    }
    does_as (Call None) core after old new does = (does.0, ap seen does.1, does.2)
    does_as (Publish (Some receipt) (Some answer)) core after old new does = record {
      next = does.next;
      tells = so _ core after does.tells;
      kept = does.kept;
      batch = does.batch;
      device = does.device;
    }
    does_as (Publish None None) core after old new does = (does.0, ap seen does.1, does.2)
    does_as (Publish (Some receipt) None) core after old new does = absurd does
    does_as (Publish None (Some answer)) core after old new does = absurd does
    does_as Fail core after old new does = (so _ core after does.0, does.1)

    pub steps_as : (disk : DiskModel D) (steps : List Step) (core after : A) (old new : Committer D)
        → AreSteps disk made steps core after old new → AreSteps disk also steps (seen core) (seen after) old new
    steps_as disk [] core after old new are = (ap seen are.0, are.1)
    steps_as disk (step ∷ before) core after old new are =
        let is = are.3 in (
          seen are.0,
          are.1,
          steps_as disk before core are.0 old are.1 are.2,
          record {
            does = does_as step are.0 after are.1 new is.does;
            whole = is.whole;
            keeps = is.keeps;
            before = is.before;
            since = is.since;
          },
        )

    abbrev pub run_as : (disk : DiskModel D) (core after : A) (old new : Committer D) → IsRun disk made core after old new
        → IsRun disk also (seen core) (seen after) old new
    run_as disk core after old new run =
        record { steps = run.steps; are = steps_as disk run.steps core after old new run.are; fails = run.fails }
