use Rattle.std.proofs.Common.{◌≡◌, ◌⊎◌, Ok, Err, refl, sym, subst, ◌∙◌}
use Rattle.apd_flusher.specs.declared.phase.Phase.{Phase}
use Rattle.apd_flusher.specs.declared.phase.Phase.TheVariants as phase
use Rattle.apd_steps.proofs.StepLemmas.{called, fails_so, rests_so}
use Rattle.apd_steps.proofs.committing.call.Goals as goal

pub returns-in-Ok : goal.returns-in-Ok
returns-in-Ok g c =
    let t = c.in-Ok.ensures in
    let some = subst (λ (p : Phase). (p ≡ phase.Busy) ⊎ (p ≡ phase.Failed)) c.phase.ensures.phase c.in-Busy.is in
    record {
      does = called g.D.Disk.model g.A.Settles.made (Ok tt) _ _ _ _ some t.made refl;
      whole = record { turn = t.made; whole = t.whole };
      keeps = t.keeps;
      before = c.show_images.ensures.any_moment;
      since = t.any_moment;
    }

pub returns-then-eq : goal.returns-then-eq
returns-then-eq g c =
    let t = c.in-Err.ensures in
    let made = g.A.Settles.made in
    let some = subst (λ (p : Phase). (p ≡ phase.Busy) ⊎ (p ≡ phase.Failed)) c.phase.ensures.phase c.in-Busy.is in
    record {
      does = called g.D.Disk.model made (Err c.in-Err.fault) _ _ _ _ some t.made
          (fails_so made c.args.core.now c.fail.new.self c.in-Err.fault (sym c.eq.ensures ∙ c.if-eq.true) c.fail.ensures);
      whole = record { turn = t.made; whole = t.whole };
      keeps = t.keeps;
      before = c.show_images.ensures.any_moment;
      since = t.any_moment;
    }

pub returns-else-eq : goal.returns-else-eq
returns-else-eq g c =
    let t = c.in-Err.ensures in
    let made = g.A.Settles.made in
    let core = c.args.core.now in
    let some = subst (λ (p : Phase). (p ≡ phase.Busy) ⊎ (p ≡ phase.Failed)) c.phase.ensures.phase c.in-Busy.is in
    record {
      does = called g.D.Disk.model made (Err c.in-Err.fault) _ _ _ _ some t.made
          (rests_so made core core c.in-Err.fault (sym c.eq.ensures ∙ c.if-eq.false) refl);
      whole = record { turn = t.made; whole = t.whole };
      keeps = t.keeps;
      before = c.show_images.ensures.any_moment;
      since = t.any_moment;
    }
