use Rattle.std.proofs.Common.{◌≡◌, [], ◌∷◌, ◌++◌, ◌∙◌, List, length, take, get_or, refl, sym, ap, subst, arith}
use Rattle.std.proofs.lemmas.List.{take_all}
use Rattle.apd_world.proofs.Words.{AreAnswered, Conf, DurableCore, Hand, Radio, Step, durable_of, radio_hands}
use Rattle.apd_world.proofs.RunLemmas.{answered_then, hands_then, none_answered, none_made, on_err, radio_hands_more, unrefused_then}
use Rattle.apd_world.specs.CutShort.{AreToRadios, IsAtMost}
use Rattle.apd_world.proofs.CutShort.{made_before, one_radio_more}
use Rattle.apd_world.proofs.world.World.hand_to_radios.Goals as goal

pub loop-place-init : goal.loop-place-init
loop-place-init g c = record {
  answered = none_answered g.D.Disk.model g.R.Radio.model c.args.answers.now.items c.args.self.now (none_made g.D.Disk.model g.R.Radio.model c.args.self.now c.stops.ensures);
  only = refl;
  replies = refl;
}

-- the configurations are the same as before all hands
pub bounds-list-place-in-loop-place : goal.bounds-list-place-in-loop-place
bounds-list-place-in-loop-place g c =
    let same = ap length (c.list.ensures.list ∙ c.confs-in-loop-place.ensures ∙ ap (λ (w : DurableCore _). w.core.confs) c.loop-place.invariant.only) in
    let end = ap length (c.list-place-end.ensures.list ∙ c.confs.ensures) in
    let lt = c.loop-place-test.true in
    omega (arith, same, end, lt)

pub loop-place-preserved : goal.loop-place-preserved
loop-place-preserved g c =
    let k = c.loop-place.invariant in
    let confs = (durable_of c.args.self.now).core.confs in
    let i = c.loop-place.place in
    let conf = get_or c.list.result.now i c.index-list-place.result in
    let x = Hand (Radio conf.bssid) in
    let same : c.list.result.now ≡ confs = c.list.ensures.list ∙ c.confs-in-loop-place.ensures ∙ ap (λ (w : DurableCore _). w.core.confs) k.only in
    let end = ap length (c.list-place-end.ensures.list ∙ c.confs.ensures) in
    let lt = c.loop-place-test.true in
    record {
      answered = subst (λ (xs : List Step). AreAnswered g.D.Disk.model g.R.Radio.model xs c.args.answers.now.items c.answer.new.answers.items c.args.self.now c.answer.new.self)
          (ap (λ (cs : List Conf). radio_hands (take i confs) ++ Hand (Radio (get_or cs i c.index-list-place.result).bssid) ∷ []) same
          ∙ sym (radio_hands_more confs i c.index-list-place.result (omega (arith, end, lt))))
          (answered_then g.D.Disk.model g.R.Radio.model (radio_hands (take i confs)) (x ∷ []) c.args.answers.now.items c.loop-place.answers.items c.answer.new.answers.items c.args.self.now c.loop-place.self c.answer.new.self k.answered
          (c.in_ok-answer.ensures.ok tt refl));
      only = hands_then (durable_of c.args.self.now) (durable_of c.loop-place.self) (durable_of c.answer.new.self) k.only (c.answer.ensures.only tt);
      replies = c.answer.ensures.replies tt ∙ k.replies;
    }

pub returns-in_err-answer-clause-err : goal.returns-in_err-answer-clause-err
returns-in_err-answer-clause-err g c =
    let k = c.loop-place.invariant.answered in
    on_err c.from_residual.result
    (unrefused_then g.D.Disk.model g.R.Radio.model _ _ c.args.self.now c.loop-place.self c.answer.new.self k.made k.none (c.in_err-answer.ensures.err tt))

pub returns-in_err-answer-clause-cut : goal.returns-in_err-answer-clause-cut
returns-in_err-answer-clause-cut g c =
    let k = c.loop-place.invariant in
    let confs = (durable_of c.args.self.now).core.confs in
    let i = c.loop-place.place in
    let d = c.index-list-place.result in
    let same : c.list.result.now ≡ confs = c.list.ensures.list ∙ c.confs-in-loop-place.ensures ∙ ap (λ (w : DurableCore _). w.core.confs) k.only in
    let end = ap length (c.list-place-end.ensures.list ∙ c.confs.ensures) in
    let lt = c.loop-place-test.true in
    on_err c.from_residual.result
    (made_before g.D.Disk.model g.R.Radio.model (IsAtMost (Hand (Radio (get_or c.list.result.now i d).bssid))) (AreToRadios confs) (radio_hands (take i confs)) _ c.args.self.now c.loop-place.self c.answer.new.self k.answered.made
    (λ ys most. one_radio_more confs i d ys (omega (arith, end, lt)) (subst (λ (cs : List Conf). IsAtMost (Hand (Radio (get_or cs i d).bssid)) ys) same most)) (c.in_err-answer.ensures.cut tt))

pub returns-clause-ok : goal.returns-clause-ok
returns-clause-ok g c =
    let confs = (durable_of c.args.self.now).core.confs in
    let end = ap length (c.list-place-end.ensures.list ∙ c.confs.ensures) in
    let past = c.loop-place-test.false in
    subst (λ (xs : List Step). AreAnswered g.D.Disk.model g.R.Radio.model xs c.args.answers.now.items c.loop-place.answers.items c.args.self.now c.loop-place.self)
    (ap radio_hands (take_all c.loop-place.place confs (omega (arith, end, past)))) c.loop-place.invariant.answered

pub returns-in_err-answer-clause-replies : goal.returns-in_err-answer-clause-replies
returns-in_err-answer-clause-replies g c = c.answer.ensures.replies tt ∙ c.loop-place.invariant.replies
