use Rattle.std.proofs.Common.{List, inl, subst}
use Rattle.std.proofs.lemmas.Result.{IfOk-weaker}
use Rattle.apd_world.proofs.Words.{Conf, durable_of}
use Rattle.apd_world.specs.CutShort.{AreFirstConfigured, AreOfFlush, AreOfStart}
use Rattle.apd_world.proofs.CutShort.{flush_front, made_before, on_cut, weaker_made}
use Rattle.apd_world.proofs.EndLemmas.{if_ended_then, if_residual, memory_end}
use Rattle.apd_world.proofs.RunLemmas.{on_err, same_confs, started_from}
use Rattle.apd_world.proofs.world.World.start.Goals as goal

pub returns-clause-started : goal.returns-clause-started
returns-clause-started g c =
    let k = c.in_ok-configure.ensures.ok in
    IfOk-weaker c.flush.result _ _
    (λ answers h. started_from g.D.Disk.model g.R.Radio.model k.steps k.tolds answers.items c.args.self.now c.configure.new.self c.flush.new.self k.configuring k.told k.made h)
    c.flush.ensures.flushed

pub returns-in_err-configure-clause-err : goal.returns-in_err-configure-clause-err
returns-in_err-configure-clause-err g c =
    if_residual _ c.from_residual.result _ c.from_residual.ensures.1
    (memory_end g.D.Disk.model g.R.Radio.model c.in_err-configure.field-0.0 c.args.self.now c.configure.new.self c.in_err-configure.ensures.fault c.in_err-configure.ensures.err)

pub returns-clause-err : goal.returns-clause-err
returns-clause-err g c =
    let k = c.in_ok-configure.ensures.ok in
    if_ended_then g.D.Disk.model g.R.Radio.model c.flush.result k.steps k.tolds c.args.self.now c.configure.new.self c.flush.new.self k.made k.none c.flush.ensures.err

pub returns-in_err-configure-clause-cut : goal.returns-in_err-configure-clause-cut
returns-in_err-configure-clause-cut g c =
    let confs = (durable_of c.args.self.now).core.confs in
    on_err c.from_residual.result
    (weaker_made g.D.Disk.model g.R.Radio.model (AreFirstConfigured confs) (AreOfStart confs) c.args.self.now c.configure.new.self (λ xs are. inl are) c.in_err-configure.ensures.cut)

pub returns-clause-cut : goal.returns-clause-cut
returns-clause-cut g c =
    let k = c.in_ok-configure.ensures.ok in
    let confs = (durable_of c.args.self.now).core.confs in
    let same = same_confs g.D.Disk.model g.R.Radio.model k.steps k.tolds c.args.self.now c.configure.new.self k.made.in_turn in
    on_cut g.D.Disk.model g.R.Radio.model (AreOfFlush (durable_of c.configure.new.self).core.confs) (AreOfStart confs) c.flush.result c.args.self.now c.configure.new.self c.flush.new.self
    (made_before g.D.Disk.model g.R.Radio.model (AreOfFlush (durable_of c.configure.new.self).core.confs) (AreOfStart confs) k.steps k.tolds c.args.self.now c.configure.new.self c.flush.new.self k.made
    (λ ys are. flush_front confs k.steps ys k.configuring (subst (λ (cs : List Conf). AreOfFlush cs ys) same are)))
    c.flush.ensures.cut
