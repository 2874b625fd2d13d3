-- Steps, one after another.
use Rattle.std.proofs.Common.{inl, inr, ⊎_elim, List, [], ◌∷◌, ◌++◌, Some, None, Result, Ok, Err, refl, sym, subst}
use Rattle.apd_disk.specs.Disk.{DiskModel}
use Rattle.apd_store.specs.declared.fault.StoreFault.{StoreFault}
use Rattle.apd_store.specs.declared.fault.StoreFault.TheVariants as store_fault
use Rattle.apd_flusher.specs.Handing.{Keeps}
use Rattle.apd_flusher.specs.declared.committer.Committer.{Committer}
use Rattle.apd_steps.specs.Calls.{Made, of_some_core}
use Rattle.apd_steps.specs.Committing.{CoreGoes}
use Rattle.apd_steps.specs.Run.{AreSteps, Call, Does, EndsRefused, Fail, FailsBehindRefusals, IsRun, IsStep, Publish, Step, Take}
use Rattle.apd_steps.proofs.StepLemmas.{keeps_all, keeps_on}

pub joined_fails : (more before : List Step) → FailsBehindRefusals more → FailsBehindRefusals before → FailsBehindRefusals (more ++ before)
joined_fails [] before next first = first
joined_fails (Fail ∷ []) before next first = absurd next.0
joined_fails (Fail ∷ (step ∷ more)) before next first = (next.0, joined_fails (step ∷ more) before next.1 first)
joined_fails (Take given told ∷ more) before next first = joined_fails more before next first
joined_fails (Call told ∷ more) before next first = joined_fails more before next first
joined_fails (Publish receipt told ∷ more) before next first = joined_fails more before next first

pub ends_so : (more before : List Step) → EndsRefused more → EndsRefused (more ++ before)
ends_so [] before ends = absurd ends
ends_so (step ∷ more) before ends = ends

module _ {A D : Type 0} (disk : DiskModel D) (made : Made A) where
  abbrev pub run_none : (core : A) (old : Committer D) → IsRun disk made core core old old
  run_none core old = record { steps = []; are = (refl, refl); fails = tt }

  abbrev pub run_one : (step : Step) (core after : A) (old new : Committer D) → FailsBehindRefusals (step ∷ [])
      → IsStep disk made step core after old new → IsRun disk made core after old new
  run_one step core after old new fails is = record { steps = step ∷ []; are = (core, old, (refl, refl), is); fails = fails }

  -- and one more
  abbrev pub run_more : (step : Step) (core mid after : A) (old between new : Committer D) (run : IsRun disk made core mid old between)
      → FailsBehindRefusals (step ∷ run.steps) → IsStep disk made step mid after between new → IsRun disk made core after old new
  run_more step core mid after old between new run fails is =
      record { steps = step ∷ run.steps; are = (mid, between, run.are, is); fails = fails }

  pub joined : (more before : List Step) (core mid after : A) (old between new : Committer D)
      → AreSteps disk made before core mid old between → AreSteps disk made more mid after between new
      → AreSteps disk made (more ++ before) core after old new
  joined [] before core mid after old between new first next =
      subst (λ (z : A). AreSteps disk made before core z old new) (sym next.0)
      (subst (λ (z : Committer D). AreSteps disk made before core mid old z) (sym next.1) first)
  joined (step ∷ more) before core mid after old between new first next =
      (next.0, next.1, joined more before core mid next.0 old between next.1 first next.2, next.3)

  abbrev pub run_on : (core mid after : A) (old between new : Committer D) → IsRun disk made core mid old between
      → IsRun disk made mid after between new → IsRun disk made core after old new
  run_on core mid after old between new first next = record {
    steps = next.steps ++ first.steps;
    are = joined next.steps first.steps core mid after old between new first.are next.are;
    fails = joined_fails next.steps first.steps next.fails first.fails;
  }

  pub steps_keep : (steps : List Step) (core after : A) (old new : Committer D) → AreSteps disk made steps core after old new
      → Keeps disk old new
  steps_keep [] core after old new are = subst (λ (c : Committer D). Keeps disk old c) (sym are.1) (keeps_all disk old)
  steps_keep (step ∷ before) core after old new are =
      keeps_on disk old are.1 new (steps_keep before core are.0 old are.1 are.2) are.3.keeps

-- ---- what is said of some core is so wherever it is said
module _ {A : Type 0} (core after : A) where
  goes_somewhere : (answer : Result (Unit {0}) StoreFault) → CoreGoes (of_some_core {A = A}) answer core after
      → CoreGoes (of_some_core {A = Unit {0}}) answer tt tt
  goes_somewhere (Ok x) goes = refl
  goes_somewhere (Err store_fault.Device) goes = goes
  goes_somewhere (Err fault) goes = refl

  module _ {D : Type 0} (old new : Committer D) where
    does_somewhere : (step : Step) → Does (of_some_core {A = A}) step core after old new
        → Does (of_some_core {A = Unit {0}}) step tt tt old new
    does_somewhere (Take given (Ok (Some answer))) does =
        record { from = ⊎_elim (λ waits. inl (waits.0, waits.1, refl)) (λ gives. inr gives) does.from; load = does.load; device = does.device }
    does_somewhere (Take given (Ok None)) does = does
    does_somewhere (Take given (Err short)) does = does
    does_somewhere (Call (Some answer)) does = record {
      some_call = does.some_call;
      core_goes = goes_somewhere answer does.core_goes;
      tells = does.tells;
      batch_is = does.batch_is;
      table = does.table;
      next = does.next;
      batch = does.batch;
      receipt = does.receipt;
    }
    does_somewhere (Call None) does = (does.0, refl, does.2)
    does_somewhere (Publish (Some receipt) (Some answer)) does =
        record { next = does.next; tells = does.tells; kept = does.kept; batch = does.batch; device = does.device }
    does_somewhere (Publish None None) does = (does.0, refl, does.2)
    does_somewhere (Publish (Some receipt) None) does = does
    does_somewhere (Publish None (Some answer)) does = does
    does_somewhere Fail does = does

module _ {A D : Type 0} (disk : DiskModel D) where
  pub steps_somewhere : (steps : List Step) (core after : A) (old new : Committer D)
      → AreSteps disk of_some_core steps core after old new → AreSteps disk (of_some_core {A = Unit {0}}) steps tt tt old new
  steps_somewhere [] core after old new are = (refl, are.1)
  steps_somewhere (step ∷ before) core after old new are =
      let is = are.3 in (
        tt,
        are.1,
        steps_somewhere before core are.0 old are.1 are.2,
        record {
          does = does_somewhere are.0 after are.1 new step is.does;
          whole = is.whole;
          keeps = is.keeps;
          before = is.before;
          since = is.since;
        },
      )
