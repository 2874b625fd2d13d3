use Rattle.std.proofs.Common.{◌≡◌, ◌∙◌, List, length, take, get_or, refl, ap, subst, arith}
use Rattle.std.proofs.lemmas.List.{take_all}
use Rattle.apd_world.proofs.Words.{Apply, AreAllApplied, Conf, DurableCore, durable_of}
use Rattle.apd_world.specs.CutShort.{AreAtRadios, IsAtMost}
use Rattle.apd_world.proofs.CutShort.{made_before, one_applied_more}
use Rattle.apd_world.proofs.Moving.{fewer}
use Rattle.apd_world.proofs.RunLemmas.{applying_begun, applying_done, applying_on, hands_then, none_applied, none_made, on_err, unrefused_then}
use Rattle.apd_world.proofs.world.World.apply_all.Goals as goal

pub loop-place-init : goal.loop-place-init
loop-place-init g c = record {
  applied = none_applied g.D.Disk.model g.R.Radio.model c.args.answers.now.items c.args.self.now (none_made g.D.Disk.model g.R.Radio.model c.args.self.now c.stops.ensures);
  only = refl;
  replies = refl;
}

-- the configurations are the same as before all hands
pub bounds-list-place-in-loop-place : goal.bounds-list-place-in-loop-place
bounds-list-place-in-loop-place g c =
    let same = ap length (c.list.ensures.list ∙ c.confs-in-loop-place.ensures ∙ ap (λ (w : DurableCore _). w.core.confs) c.loop-place.invariant.only) in
    let end = ap length (c.list-place-end.ensures.list ∙ c.confs.ensures) in
    let lt = c.loop-place-test.true in
    omega (arith, same, end, lt)

pub loop-bssid-init : goal.loop-bssid-init
loop-bssid-init g c =
    let k = c.loop-place.invariant in
    record {
      applying = applying_begun g.D.Disk.model g.R.Radio.model (take c.loop-place.place (durable_of c.args.self.now).core.confs) _ c.args.answers.now.items c.loop-place.answers.items c.args.self.now c.loop-place.self k.applied;
      only = k.only;
      replies = k.replies;
    }

pub loop-bssid-preserved : goal.loop-bssid-preserved
loop-bssid-preserved g c =
    let k = c.loop-bssid.invariant in
    record {
      applying = applying_on g.D.Disk.model g.R.Radio.model (take c.loop-place.place (durable_of c.args.self.now).core.confs) _ c.args.answers.now.items c.loop-bssid.answers.items c.answer.new.answers.items
          c.args.self.now c.loop-bssid.self c.answer.new.self k.applying (c.in_ok-answer.ensures.ok tt refl);
      only = hands_then (durable_of c.args.self.now) (durable_of c.loop-bssid.self) (durable_of c.answer.new.self) k.only (c.answer.ensures.only tt);
      replies = c.answer.ensures.replies tt ∙ k.replies;
    }

pub loop-bssid-smaller : goal.loop-bssid-smaller
loop-bssid-smaller g c =
    let step = c.in_ok-answer.ensures.step in
    fewer g.R.Radio.model c.loop-bssid.self c.answer.new.self _ step.2.inside step.0 step.2.joins step.1 (c.has_out.ensures.some c.loop-bssid-test.true)

pub loop-place-preserved : goal.loop-place-preserved
loop-place-preserved g c =
    let k = c.loop-bssid.invariant in
    let confs = (durable_of c.args.self.now).core.confs in
    let i = c.loop-place.place in
    let conf = get_or c.list.result.now i c.index-list-place.result in
    let same : c.list.result.now ≡ confs = c.list.ensures.list ∙ c.confs-in-loop-place.ensures ∙ ap (λ (w : DurableCore _). w.core.confs) c.loop-place.invariant.only in
    let end = ap length (c.list-place-end.ensures.list ∙ c.confs.ensures) in
    let lt = c.loop-place-test.true in
    record {
      applied = applying_done g.D.Disk.model g.R.Radio.model confs i conf c.args.answers.now.items c.loop-bssid.answers.items c.args.self.now c.loop-bssid.self
          (omega (arith, end, lt)) (ap (λ (cs : List Conf). get_or cs i c.index-list-place.result) same ∙ ap (get_or confs i) c.index-list-place.is) k.applying (c.has_out.ensures.none c.loop-bssid-test.false);
      only = k.only;
      replies = k.replies;
    }

pub returns-in_err-answer-clause-err : goal.returns-in_err-answer-clause-err
returns-in_err-answer-clause-err g c =
    on_err c.from_residual.result
    (unrefused_then g.D.Disk.model g.R.Radio.model _ _ c.args.self.now c.loop-bssid.self c.answer.new.self c.loop-bssid.invariant.applying.answered.made c.loop-bssid.invariant.applying.answered.none (c.in_err-answer.ensures.err tt))

pub returns-in_err-answer-clause-replies : goal.returns-in_err-answer-clause-replies
returns-in_err-answer-clause-replies g c = c.answer.ensures.replies tt ∙ c.loop-bssid.invariant.replies

pub returns-in_err-answer-clause-cut : goal.returns-in_err-answer-clause-cut
returns-in_err-answer-clause-cut g c =
    let k = c.loop-bssid.invariant.applying in
    let confs = (durable_of c.args.self.now).core.confs in
    let i = c.loop-place.place in
    let conf = get_or c.list.result.now i c.index-list-place.result in
    let same : c.list.result.now ≡ confs = c.list.ensures.list ∙ c.confs-in-loop-place.ensures ∙ ap (λ (w : DurableCore _). w.core.confs) c.loop-place.invariant.only in
    let is = ap (λ (cs : List Conf). get_or cs i c.index-list-place.result) same ∙ ap (get_or confs i) c.index-list-place.is in
    let end = ap length (c.list-place-end.ensures.list ∙ c.confs.ensures) in
    let lt = c.loop-place-test.true in
    on_err c.from_residual.result
    (made_before g.D.Disk.model g.R.Radio.model (IsAtMost (Apply conf.bssid)) (AreAtRadios confs) _ _ c.args.self.now c.loop-bssid.self c.answer.new.self k.answered.made
    (λ ys most. one_applied_more confs i conf k.counts k.count (omega (arith, end, lt)) is k.each ys most) (c.in_err-answer.ensures.cut tt))

pub returns-clause-ok : goal.returns-clause-ok
returns-clause-ok g c =
    let end = ap length (c.list-place-end.ensures.list ∙ c.confs.ensures) in
    let past = c.loop-place-test.false in
    subst (λ (cs : List Conf). AreAllApplied g.D.Disk.model g.R.Radio.model cs c.args.answers.now.items c.loop-place.answers.items c.args.self.now c.loop-place.self)
    (take_all c.loop-place.place (durable_of c.args.self.now).core.confs (omega (arith, end, past))) c.loop-place.invariant.applied
