use Rattle.std.proofs.Common.{◌≡◌, ◌⊎◌, Some, None, Ok, Err, refl, sym, ap, subst, ◌∙◌}
use Rattle.apd_flusher.specs.Handing.{IsUnloaded}
use Rattle.apd_flusher.specs.Outside.{flusher_device, flusher_of, waiting_receipt}
use Rattle.apd_flusher.specs.declared.flusher.Flusher.{Flusher}
use Rattle.apd_store.specs.Outside.{held_batch}
use Rattle.apd_store.specs.declared.store.Receipt.{Receipt}
use Rattle.apd_steps.proofs.StepLemmas.{keeps_on, without_a_call}
use Rattle.apd_steps.specs.Run.{Publish}
use Rattle.apd_steps.proofs.committing.publish.Goals as goal

pub returns-in_default : goal.returns-in_default
returns-in_default g c =
    let disk = g.D.Disk.model in
    let none = c.in_default.ensures in (
      None,
      without_a_call disk g.A.Settles.made (Publish None None) _ _ _ _
          ((none.none refl).0, refl, (none.none refl).1) tt none.keeps c.show_images.ensures.any_moment none.device,
    )

pub returns-in-Ok : goal.returns-in-Ok
returns-in-Ok g c =
    let disk = g.D.Disk.model in
    let r = c.in-Some.ensures in
    let receipt = c.in-Some.receipt in (
      Some receipt,
      without_a_call disk g.A.Settles.made (Publish (Some receipt) (Some (Ok tt))) _ _ _ _
          (record { next = r.given.next; tells = c.in-Ok.ensures.told; kept = r.given.none; batch = r.given.batch; device = r.device })
          r.whole r.keeps c.show_images.ensures.any_moment r.device,
    )

pub returns-in-Err : goal.returns-in-Err
returns-in-Err g c =
    let disk = g.D.Disk.model in
    let old = c.args.committer.now in
    let r = c.in-Some.ensures in
    let receipt = c.in-Some.receipt in
    let back = c.take_back.ensures in
    let own : c.in-Err.receipt ≡ receipt = c.in-Err.ensures.back in
    let device = ap flusher_device back.flusher ∙ r.device in (
      Some receipt,
      without_a_call disk g.A.Settles.made (Publish (Some receipt) (Some (Err c.in-Err.fault))) _ _ _ _
          (record {
            next = subst (λ (f : Flusher _). ((waiting_receipt old ≡ Some receipt) × (f ≡ flusher_of old)) ⊎ ((waiting_receipt old ≡ None) × IsUnloaded receipt (flusher_of old) f)) (sym back.flusher) r.given.next;
            tells = c.in-Err.ensures.told;
            kept = back.receipt ∙ ap Some own;
            batch = back.batch ∙ r.given.batch;
            device = device;
          })
          (λ s flight failed is.
          let k = r.whole s flight failed is in
          let at = k.0 ∙ ap (λ (r : Receipt). Some (held_batch r)) (sym own) in
          (k.0, rw at (back.whole s failed (rw at at k.1))))
          (keeps_on disk _ _ _ r.keeps back.keeps) c.show_images.ensures.any_moment device,
    )
