use Rattle.std.proofs.Common.{◌∙◌, [], ap, refl}
use Rattle.apd_world.proofs.Words.{durable_of}
use Rattle.apd_core.proofs.Settling.{front_sound}
use Rattle.apd_world.proofs.CutShort.{one_configured_more}
use Rattle.apd_world.proofs.Replies.{configured_replies}
use Rattle.apd_world.proofs.RunLemmas.{accepted_more, asked_of, none_accepted, none_gone, none_made, one_gone, unrefused_then}
use Rattle.apd_world.proofs.world.World.configure.Goals as goal

pub loop-conf-init : goal.loop-conf-init
loop-conf-init g c = (none_accepted g.D.Disk.model g.R.Radio.model c.args.self.now (none_made g.D.Disk.model g.R.Radio.model c.args.self.now c.stops.ensures), refl)

pub loop-conf-preserved : goal.loop-conf-preserved
loop-conf-preserved g c = (
  accepted_more g.D.Disk.model g.R.Radio.model c.list-conf-items.result.now c.loop-conf.conf-index c.conf-item.result _ c.step.result c.args.self.now c.loop-conf.self c.step.new.self
      c.loop-conf-test.true c.loop-conf.invariant.0 (ap asked_of c.conf-item.is) c.in_default-step.not-NoMemory c.step.ensures.step c.step.ensures.made c.step.ensures.stops,
  configured_replies c.a_command_is_answered_truly.ensures c.conf-item.result g.R.Radio.model _ c.step.result c.loop-conf.self c.step.new.self refl (front_sound (durable_of c.loop-conf.self).core c.sound.ensures) c.step.ensures.step
      ∙ c.loop-conf.invariant.1,
)

pub returns-in_default-clause-err : goal.returns-in_default-clause-err
returns-in_default-clause-err g c = none_gone g.D.Disk.model g.R.Radio.model c.args.self.now (none_made g.D.Disk.model g.R.Radio.model c.args.self.now c.stops.ensures)

pub returns-in-NoMemory-clause-err : goal.returns-in-NoMemory-clause-err
returns-in-NoMemory-clause-err g c =
    let k = c.loop-conf.invariant.0 in
    unrefused_then g.D.Disk.model g.R.Radio.model k.steps k.tolds c.args.self.now c.loop-conf.self c.step.new.self k.made k.none
    (one_gone g.D.Disk.model g.R.Radio.model _ c.step.result c.loop-conf.self c.step.new.self tt c.step.ensures.step c.step.ensures.made c.step.ensures.stops)

pub returns-in_default-clause-cut : goal.returns-in_default-clause-cut
returns-in_default-clause-cut g c = record { steps = []; tolds = []; are = (0, refl); made = none_made g.D.Disk.model g.R.Radio.model c.args.self.now c.stops.ensures }

pub returns-in-NoMemory-clause-cut : goal.returns-in-NoMemory-clause-cut
returns-in-NoMemory-clause-cut g c =
    one_configured_more g.D.Disk.model g.R.Radio.model c.list-conf-items.result.now (durable_of c.args.self.now).core.confs c.loop-conf.conf-index c.conf-item.result _ c.step.result c.args.self.now c.loop-conf.self c.step.new.self
    (c.list-conf-items.ensures.list ∙ c.in-Ok.ensures ∙ c.confs.ensures) c.loop-conf-test.true c.loop-conf.invariant.0 (ap asked_of c.conf-item.is) c.step.ensures.step c.step.ensures.made c.step.ensures.stops

pub returns-in-NoMemory-clause-replies : goal.returns-in-NoMemory-clause-replies
returns-in-NoMemory-clause-replies g c =
    configured_replies c.a_command_is_answered_truly.ensures c.conf-item.result g.R.Radio.model _ c.step.result c.loop-conf.self c.step.new.self refl (front_sound (durable_of c.loop-conf.self).core c.sound.ensures) c.step.ensures.step
    ∙ c.loop-conf.invariant.1
