use Rattle.std.proofs.Common.{Option, Result, [], ◌∷◌, subst, sym}
use Rattle.std.specs.declared.alloc.AllocError.{AllocError}
use Rattle.apd_core.specs.declared.publish_fault.PublishFault.{PublishFault}
use Rattle.apd_store.specs.declared.fault.StoreFault.{StoreFault}
use Rattle.apd_steps.proofs.RunLemmas.{run_more, run_one}
use Rattle.apd_steps.specs.Run.{IsRefusal, Publish, Take}
use Rattle.apd_desk.specs.Ends.{EndsIdle}
use Rattle.apd_desk.proofs.committing.hand_on.Goals as goal

pub returns-in-Some : goal.returns-in-Some
returns-in-Some g c =
    let first = c.publish.ensures in (
      run_one g.D.Disk.model g.A.Settles.made (Publish first.0 c.publish.result) _ _ _ _ tt first.1,
      λ is. subst (λ (told : Option (Result (Unit {0}) PublishFault)). IsRefusal (Publish first.0 told)) (sym c.in-Some.is) (c.went_published.ensures.refused is first.0),
      λ is. absurd (c.went_published.ensures.some is),
    )

pub returns-in-None : goal.returns-in-None
returns-in-None g c =
    let first = c.publish.ensures in
    let next = c.take.ensures in (
      run_more g.D.Disk.model g.A.Settles.made (Take next.0 c.take.result) _ _ _ _ _ _
          (run_one g.D.Disk.model g.A.Settles.made (Publish first.0 c.publish.result) _ _ _ _ tt first.1) tt next.1,
      λ is. c.went_loaded.ensures.refused is next.0,
      λ is. subst
          (λ (told : Result (Option (Result (Unit {0}) StoreFault)) AllocError). EndsIdle (Take next.0 told ∷ (Publish first.0 c.publish.result ∷ [])))
          (sym (c.went_loaded.ensures.nothing is)) tt,
    )
