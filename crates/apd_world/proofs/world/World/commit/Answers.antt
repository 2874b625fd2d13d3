use Rattle.std.proofs.Common.{◌≡◌, Option, None, refl, ap, subst, ◌∙◌}
use Rattle.std.specs.Option.{option_or, unwrap_or}
use Rattle.apd_world.proofs.Words.{Commit, HasNoCall, durable_of, commit_of}
use Rattle.apd_world.specs.declared.step.Commit.TheVariants.{Nothing}
use Rattle.apd_world.proofs.RoundLemmas.{Outcome, calling_begun, calling_on, commits, committed, none_when, whole_comes, some_when}
use Rattle.apd_world.proofs.world.World.commit.Goals.{then-loop-self-test+else-has_call, else-loop-self-test}
use Rattle.apd_world.proofs.world.World.commit.Goals as goal

pub loop-self-init : goal.loop-self-init
loop-self-init g c =
    calling_begun g.D.Disk.model g.R.Radio.model c.step.result c.commit_of-taken.result None c.args.self.now c.step.new.self c.step.ensures.step c.step.ensures.made c.step.ensures.stops c.commit_of-taken.ensures refl

pub loop-self-preserved : goal.loop-self-preserved
loop-self-preserved g c =
    let none = none_when c.loop-self.called c.is_none.result c.is_none.ensures c.loop-self-test.true in
    calling_on g.D.Disk.model g.R.Radio.model c.step-in-loop-self.result c.commit_of-taken.result c.loop-self.called c.commit_of-called.result c.args.self.now c.loop-self.self c.step-in-loop-self.new.self c.loop-self.invariant
    none (c.has_call.ensures.some c.if-has_call.true) c.has_call.ensures.left c.step-in-loop-self.ensures.step c.step-in-loop-self.ensures.made c.step-in-loop-self.ensures.stops c.commit_of-called.ensures

pub returns : goal.returns
returns g c =
    let old = c.args.self.now in
    let new = c.step-2.new.self in
    let result = c.unwrap_or.result in
    let none : c.loop-self.called ≡ None → HasNoCall (durable_of c.loop-self.self) = elim c.loop-self-test.branch [
      | then-loop-self-test+else-has_call w ↦ (λ no. w.has_call.ensures.none w.if-has_call.false)
      | else-loop-self-test w ↦ some_when c.loop-self.called c.is_none.result c.is_none.ensures w.loop-self-test.false
    ] in
    let is : result ≡ unwrap_or (option_or (option_or c.commit_of-taken.result c.loop-self.called) (commit_of c.step-2.result)) Nothing =
    c.unwrap_or.ensures ∙ ap (λ (o : Option Commit). unwrap_or o Nothing) (c.or-2.ensures ∙ (λ i. option_or (c.or.ensures i) (c.commit_of-published.ensures i))) in
    let k = committed g.D.Disk.model g.R.Radio.model c.commit_of-taken.result c.loop-self.called c.step-2.result old c.loop-self.self new c.loop-self.invariant none c.step-2.ensures.step c.step-2.ensures.made c.step-2.ensures.stops result is in
    let comes = whole_comes g.D.Disk.model result (durable_of old) (durable_of new) k.outcome in
    record {
      round = k.round;
      comes_to = comes;
      commits = λ p. commits g.D.Disk.model result (durable_of old) (durable_of new) (comes p);
      rest_stays = k.rest;
      settled = λ is. subst (λ (a : Commit). Outcome g.D.Disk.model a (durable_of old) (durable_of new)) is k.outcome;
      nothing = λ is. subst (λ (a : Commit). Outcome g.D.Disk.model a (durable_of old) (durable_of new)) is k.outcome;
      rests = k.rests;
      quiet = k.quiet;
    }
