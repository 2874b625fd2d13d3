use Rattle.std.proofs.Common.{◌∙◌, sym, subst}
use Rattle.apd_world.proofs.CutShort.{ends_cut}
use Rattle.apd_world.proofs.EndLemmas.{ends_err, ends_failed, ends_ok}
use Rattle.apd_world.proofs.Words.{durable_of}
use Rattle.apd_world.proofs.RunLemmas.{IsUnrefused, no_round, none_made, quiet_replies, round_more}
use Rattle.apd_world.proofs.world.World.settle.Goals as goal

pub loop-end-init : goal.loop-end-init
loop-end-init g c = no_round g.D.Disk.model g.R.Radio.model c.args.self.now (none_made g.D.Disk.model g.R.Radio.model c.args.self.now c.stops.ensures)

pub loop-end-preserved : goal.loop-end-preserved
loop-end-preserved g c =
    round_more g.D.Disk.model g.R.Radio.model c.commit-answer.result c.args.self.now c.loop-end.self c.commit-answer.new.self c.loop-end.invariant c.commit-answer.ensures.round c.commit-answer.ensures.quiet
    (subst IsUnrefused (sym c.in_default.ensures) tt)

pub returns-in-Some-clause-ok : goal.returns-in-Some-clause-ok
returns-in-Some-clause-ok g c =
    ends_ok g.D.Disk.model g.R.Radio.model c.commit-answer.result c.args.self.now c.loop-end.self c.commit-answer.new.self c.loop-end.invariant c.commit-answer.ensures.round
    c.commit-answer.ensures.quiet c.commit-answer.ensures.nothing c.in-Some.end c.in-Some.ensures

pub returns-in-Some-clause-ended : goal.returns-in-Some-clause-ended
returns-in-Some-clause-ended g c =
    ends_err g.D.Disk.model g.R.Radio.model c.commit-answer.result c.args.self.now c.loop-end.self c.commit-answer.new.self c.loop-end.invariant c.commit-answer.ensures.round c.in-Some.end c.in-Some.ensures

pub returns-in-Some-clause-failed : goal.returns-in-Some-clause-failed
returns-in-Some-clause-failed g c = λ was.
    ends_failed g.D.Disk.model g.R.Radio.model c.commit-answer.result c.args.self.now c.loop-end.self c.commit-answer.new.self c.loop-end.invariant c.commit-answer.ensures.round c.in-Some.end c.in-Some.ensures
    (c.commit-answer.ensures.comes_to (c.loop-end.invariant.made.whole was))

pub returns-in-Some-clause-cut : goal.returns-in-Some-clause-cut
returns-in-Some-clause-cut g c =
    ends_cut g.D.Disk.model g.R.Radio.model c.commit-answer.result c.args.self.now c.loop-end.self c.commit-answer.new.self c.loop-end.invariant c.commit-answer.ensures.round c.in-Some.end

pub returns-in-Some-clause-replies : goal.returns-in-Some-clause-replies
returns-in-Some-clause-replies g c =
    quiet_replies (durable_of c.loop-end.self) (durable_of c.commit-answer.new.self) c.commit-answer.ensures.quiet ∙ c.loop-end.invariant.replies
