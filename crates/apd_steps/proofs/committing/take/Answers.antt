use Rattle.std.proofs.Common.{None, Ok, Err, inl, inr, refl}
use Rattle.apd_steps.proofs.StepLemmas.{hands_none, keeps_all, takes, without_a_call}
use Rattle.apd_steps.specs.Run.{Take}
use Rattle.apd_steps.proofs.committing.take.Goals as goal

pub returns-then-has_batch : goal.returns-then-has_batch
returns-then-has_batch g c =
    let disk = g.D.Disk.model in
    let made = g.A.Settles.made in
    let t = c.load.ensures in (
      None,
      without_a_call disk made (Take None (Ok c.load.result)) _ _ _ _
          (takes made c.load.result None _ _ _ _ (inl (c.has_batch.ensures.some c.if-has_batch.true, refl, refl)) t.loaded t.none t.device)
          (record { waits = t.whole; handed_in = t.handed_in }) t.keeps c.show_images.ensures.any_moment t.device,
    )

pub returns-in-Err : goal.returns-in-Err
returns-in-Err g c =
    let disk = g.D.Disk.model in
    let made = g.A.Settles.made in (
      None,
      without_a_call disk made (Take None (Err c.in-Err.short)) _ _ _ _
          (refl, c.has_batch.ensures.none c.if-has_batch.false, c.in-Err.ensures, refl)
          (hands_none disk _) (keeps_all disk _) c.show_images.ensures.any_moment refl,
    )

pub returns-in-Ok : goal.returns-in-Ok
returns-in-Ok g c =
    let disk = g.D.Disk.model in
    let made = g.A.Settles.made in
    let given = c.in-Ok.given in
    let t = c.load-in-Ok.ensures in (
      given,
      without_a_call disk made (Take given (Ok c.load-in-Ok.result)) _ _ _ _
          (takes made c.load-in-Ok.result given _ _ _ _ (inr (c.has_batch.ensures.none c.if-has_batch.false, c.in-Ok.ensures)) t.loaded t.none t.device)
          (record { waits = t.whole; handed_in = t.handed_in }) t.keeps c.show_images.ensures.any_moment t.device,
    )
