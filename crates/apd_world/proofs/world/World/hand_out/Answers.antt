use Rattle.std.proofs.Common.{◌++◌, List, ap, refl, subst}
use Rattle.std.specs.Prelude.{map}
use Rattle.apd_world.proofs.Words.{AreAnswered, AreSafelyMade, Conf, Control, DurableCore, Hand, Recipient, Told, applies, durable_of, radio_hands}
use Rattle.apd_world.specs.CutShort.{AreAtRadios, AreOfHanding, AreToRadios, IsAtMost}
use Rattle.apd_world.proofs.CutShort.{applied_front, control_front, made_before, radios_front, weaker_made}
use Rattle.apd_world.proofs.RunLemmas.{handed_out, made_then, on_err, unrefused_then}
use Rattle.apd_world.proofs.world.World.hand_out.Goals as goal

pub returns-in_err-apply_all-clause-err : goal.returns-in_err-apply_all-clause-err
returns-in_err-apply_all-clause-err g c =
    let k = c.in_ok-hand_to_radios.ensures.ok in
    on_err c.from_residual-in_err-apply_all.result
    (unrefused_then g.D.Disk.model g.R.Radio.model _ _ c.args.self.now c.hand_to_radios.new.self c.apply_all.new.self k.made k.none c.in_err-apply_all.ensures.err)

pub returns-in_err-answer-clause-err : goal.returns-in_err-answer-clause-err
returns-in_err-answer-clause-err g c =
    let k = c.in_ok-hand_to_radios.ensures.ok in
    let l = c.in_ok-apply_all.ensures.ok.answered in
    on_err c.from_residual-in_err-answer.result
    (unrefused_then g.D.Disk.model g.R.Radio.model _ _ c.args.self.now c.hand_to_radios.new.self c.answer.new.self k.made k.none
    (unrefused_then g.D.Disk.model g.R.Radio.model _ _ c.hand_to_radios.new.self c.apply_all.new.self c.answer.new.self l.made l.none (c.in_err-answer.ensures.err tt)))

pub returns-clause-handed : goal.returns-clause-handed
returns-clause-handed g c =
    handed_out g.D.Disk.model g.R.Radio.model c.hand_to_radios.new.answers.items c.apply_all.new.answers.items c.answer.new.answers.items c.args.self.now c.hand_to_radios.new.self c.apply_all.new.self c.answer.new.self
    (subst (λ xs. AreAnswered g.D.Disk.model g.R.Radio.model (radio_hands (durable_of c.args.self.now).core.confs) xs c.hand_to_radios.new.answers.items c.args.self.now c.hand_to_radios.new.self) c.new-answers.ensures.items c.in_ok-hand_to_radios.ensures.ok)
    c.in_ok-apply_all.ensures.ok (c.in_ok-answer.ensures.ok tt refl)

pub returns-in_err-hand_to_radios-clause-cut : goal.returns-in_err-hand_to_radios-clause-cut
returns-in_err-hand_to_radios-clause-cut g c =
    let confs = (durable_of c.args.self.now).core.confs in
    on_err c.from_residual.result
    (weaker_made g.D.Disk.model g.R.Radio.model (AreToRadios confs) (AreOfHanding confs) c.args.self.now c.hand_to_radios.new.self (radios_front confs) c.in_err-hand_to_radios.ensures.cut)

pub returns-in_err-apply_all-clause-cut : goal.returns-in_err-apply_all-clause-cut
returns-in_err-apply_all-clause-cut g c =
    let k = c.in_ok-hand_to_radios.ensures.ok in
    let confs = (durable_of c.args.self.now).core.confs in
    let same = ap (λ (w : DurableCore _). w.core.confs) c.hand_to_radios.ensures.only in
    on_err c.from_residual-in_err-apply_all.result
    (made_before g.D.Disk.model g.R.Radio.model (AreAtRadios (durable_of c.hand_to_radios.new.self).core.confs) (AreOfHanding confs) _ _ c.args.self.now c.hand_to_radios.new.self c.apply_all.new.self k.made
    (λ ys are. applied_front confs ys (subst (λ (cs : List Conf). AreAtRadios cs ys) same are)) c.in_err-apply_all.ensures.cut)

pub returns-in_err-answer-clause-cut : goal.returns-in_err-answer-clause-cut
returns-in_err-answer-clause-cut g c =
    let k = c.in_ok-hand_to_radios.ensures.ok in
    let l = c.in_ok-apply_all.ensures.ok in
    let confs = (durable_of c.args.self.now).core.confs in
    let same = ap (λ (w : DurableCore _). w.core.confs) c.hand_to_radios.ensures.only in
    let first = map (λ (x : Recipient × Told). x.1) k.more in
    let second = map (λ (x : Recipient × Told). x.1) l.answered.more in
    let both = made_then g.D.Disk.model g.R.Radio.model (radio_hands confs) (applies confs l.counts) first second c.args.self.now c.hand_to_radios.new.self c.apply_all.new.self k.made
    (subst (λ (cs : List Conf). AreSafelyMade g.D.Disk.model g.R.Radio.model (applies cs l.counts) second c.hand_to_radios.new.self c.apply_all.new.self) same l.answered.made) in
    on_err c.from_residual-in_err-answer.result
    (made_before g.D.Disk.model g.R.Radio.model (IsAtMost (Hand Control)) (AreOfHanding confs) (radio_hands confs ++ applies confs l.counts) (first ++ second) c.args.self.now c.apply_all.new.self c.answer.new.self both
    (control_front confs l.counts) (c.in_err-answer.ensures.cut tt))
