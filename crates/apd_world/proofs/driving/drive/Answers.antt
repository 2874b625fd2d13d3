use Rattle.std.proofs.Common.{◌+◌, ap, subst, sym, ◌∙◌, List, []}
use Rattle.std.proofs.lemmas.List.{take_all}
use Rattle.apd_world.proofs.Words.{AreSafelyMade, IsWorldStep, Step}
use Rattle.apd_world.proofs.RunLemmas.{next_made, none_made}
use Rattle.apd_world.proofs.driving.drive.Goals as goal

pub loop-step-init : goal.loop-step-init
loop-step-init g c =
    let made = c.in_ok-tolds.ensures in
    let w = c.args.world.now in
    record {
      driven = subst (λ (ts : List _). AreSafelyMade g.D.Disk.model g.R.Radio.model [] ts w w) (sym made.items) (none_made g.D.Disk.model g.R.Radio.model w c.stops.ensures);
      room = made.exact;
      made = made.len;
    }

pub loop-step-preserved : goal.loop-step-preserved
loop-step-preserved g c =
    let k = c.loop-step.invariant in
    let x = c.step-item.result in
    let step = subst (λ (y : Step). IsWorldStep g.R.Radio.model y c.step.result c.loop-step.world c.step.new.self) c.step-item.is c.step.ensures.step in
    record {
      driven = next_made g.D.Disk.model g.R.Radio.model c.args.steps.now c.loop-step.step-index c.loop-step.tolds.items
          c.push_reserved.new.self.items x c.step.result c.args.world.now c.loop-step.world c.step.new.self k.driven c.loop-step-test.true step c.step.ensures.made c.step.ensures.stops c.push_reserved.ensures.items;
      room = c.push_reserved.ensures.capacity ∙ k.room;
      made = c.push_reserved.ensures.len ∙ ap (λ n. n + 1) k.made;
    }

pub returns-clause-made : goal.returns-clause-made
returns-clause-made g c =
    subst (λ (xs : List Step). AreSafelyMade g.D.Disk.model g.R.Radio.model xs c.loop-step.tolds.items c.args.world.now c.loop-step.world) (take_all c.loop-step.step-index c.args.steps.now c.loop-step-test.false) c.loop-step.invariant.driven

pub returns-clause-between : goal.returns-clause-between
returns-clause-between g c = λ proper. c.show_images.ensures.images (c.loop-step.invariant.driven.proper proper)
