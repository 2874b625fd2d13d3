use Rattle.std.proofs.Common.{List, ◌∙◌, subst}
use Rattle.std.proofs.lemmas.Result.{IfOk-weaker}
use Rattle.apd_world.proofs.Words.{Conf, durable_of, rounds}
use Rattle.apd_world.proofs.EndLemmas.{if_ended_then, memory_ends}
use Rattle.apd_world.specs.CutShort.{AreOfFlush, AreOfHanding, AreRoundsOf}
use Rattle.apd_world.proofs.CutShort.{handing_front, made_before, on_cut, rounds_front, weaker_made}
use Rattle.apd_world.proofs.RunLemmas.{flushed_from, last_stays, on_err, same_confs}
use Rattle.apd_world.proofs.world.World.flush.Goals as goal

pub returns-clause-flushed : goal.returns-clause-flushed
returns-clause-flushed g c =
    let k = c.in_ok-settle.ensures.ok in
    IfOk-weaker c.hand_out.result _ _
    (λ answers h. flushed_from g.D.Disk.model g.R.Radio.model k.calls k.tolds answers.items c.args.self.now c.settle.new.self c.hand_out.new.self k.made k.settled k.works k.rests c.hand_out.ensures.only h)
    c.hand_out.ensures.handed

pub returns-clause-err : goal.returns-clause-err
returns-clause-err g c =
    let k = c.in_ok-settle.ensures.ok in
    if_ended_then g.D.Disk.model g.R.Radio.model c.hand_out.result _ k.tolds c.args.self.now c.settle.new.self c.hand_out.new.self k.made k.none
    (memory_ends g.D.Disk.model g.R.Radio.model c.hand_out.result c.settle.new.self c.hand_out.new.self c.hand_out.ensures.fault c.hand_out.ensures.err)

pub returns-clause-none_entered : goal.returns-clause-none_entered
returns-clause-none_entered g c =
    last_stays g.D.Disk.model g.R.Radio.model (durable_of c.settle.new.self) (durable_of c.hand_out.new.self) c.hand_out.ensures.only ∙ c.settle.ensures.none_entered

pub returns-in_err-settle-clause-cut : goal.returns-in_err-settle-clause-cut
returns-in_err-settle-clause-cut g c =
    let confs = (durable_of c.args.self.now).core.confs in
    on_err c.from_residual.result
    (weaker_made g.D.Disk.model g.R.Radio.model AreRoundsOf (AreOfFlush confs) c.args.self.now c.settle.new.self (rounds_front confs) c.in_err-settle.ensures.cut)

pub returns-clause-cut : goal.returns-clause-cut
returns-clause-cut g c =
    let k = c.in_ok-settle.ensures.ok in
    let confs = (durable_of c.args.self.now).core.confs in
    let same = same_confs g.D.Disk.model g.R.Radio.model (rounds k.calls) k.tolds c.args.self.now c.settle.new.self k.made.in_turn in
    on_cut g.D.Disk.model g.R.Radio.model (AreOfHanding (durable_of c.settle.new.self).core.confs) (AreOfFlush confs) c.hand_out.result c.args.self.now c.settle.new.self c.hand_out.new.self
    (made_before g.D.Disk.model g.R.Radio.model (AreOfHanding (durable_of c.settle.new.self).core.confs) (AreOfFlush confs) (rounds k.calls) k.tolds c.args.self.now c.settle.new.self c.hand_out.new.self k.made
    (λ ys are. handing_front confs k.calls ys (subst (λ (cs : List Conf). AreOfHanding cs ys) same are)))
    c.hand_out.ensures.cut
