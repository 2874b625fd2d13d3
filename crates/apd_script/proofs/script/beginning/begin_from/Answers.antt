use Rattle.std.proofs.Common.{◌∙◌}
use Rattle.apd_script.proofs.Stopping.{beginning}
use Rattle.apd_script.proofs.script.beginning.begin_from.Goals as goal

pub returns-in-Ok-clause-ok : goal.returns-in-Ok-clause-ok
returns-in-Ok-clause-ok g c = λ each. record {
  shown = c.in-Ok.ensures.begun.shown;
  core = c.in-Ok.ensures.begun.core;
  heard = c.in-Ok.ensures.begun.heard;
  sound = c.in-Ok.ensures.begun.sound;
  begins = c.in-Ok.ensures.begins;
  count = c.in-Ok.ensures.begun.count;
  slots = c.in-Ok.ensures.resumed.same ∙ each;
  resumed = c.in-Ok.ensures.resumed.resumed;
  following = c.in-Ok.ensures.resumed.following;
  was_honest = c.in-Ok.ensures.begun.was_honest;
  proper = c.in-Ok.ensures.begun.proper;
  any_moment = c.in-Ok.ensures.begun.any_moment;
}

pub returns-in-Err-clause-err : goal.returns-in-Err-clause-err
returns-in-Err-clause-err g c = λ each. record {
  left = _;
  refused = c.in-Err.ensures.none;
  one = beginning g.D.Disk.model g.R.Radio.model _ _ _ c.args.confs c.args.slots.items _ each c.in-Err.ensures.only;
}
