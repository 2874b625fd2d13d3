use Rattle.std.proofs.Common.{[], refl, ◌∙◌}
use Rattle.apd_desk.proofs.Serving.{has_served, run_given, run_later}
use Rattle.apd_serve.proofs.Giving.{run_behind}
use Rattle.apd_serve.proofs.handing_out.hand_out.Goals as goal

pub returns : goal.returns
returns g c =
    let radio = g.R.Radio.model in
    let frames = g.R.Radio.frames in
    let run = run_behind radio frames _ _ _ _ _ _ _ _ c.mend_first.ensures.tends c.give_all.ensures.run in
    let given = run_given radio frames _ _ _ _ _ _ run in
    record {
      served = has_served radio frames [] c.args.seat.now c.give_all.new.seat _ _ _ _ _ _ refl refl (c.new-mending.ensures.spares ∙ c.new.ensures.items) c.new-mending.ensures.tries run;
      count = c.give_all.ensures.count;
      later = run_later radio frames _ _ _ _ _ _ run;
      given = given;
    }

pub returns-then-not-give_all : goal.returns-then-not-give_all
returns-then-not-give_all g c =
    let radio = g.R.Radio.model in
    let frames = g.R.Radio.frames in
    let run = run_behind radio frames _ _ _ _ _ _ _ _ c.mend_first.ensures.tends c.give_all.ensures.run in
    let given = run_given radio frames _ _ _ _ _ _ run in
    record {
      served = has_served radio frames [] c.args.seat.now c.give_all.new.seat _ _ _ _ _ _ refl refl (c.new-mending.ensures.spares ∙ c.new.ensures.items) c.new-mending.ensures.tries run;
      count = c.give_all.ensures.count;
      later = run_later radio frames _ _ _ _ _ _ run;
      given = given;
    }
