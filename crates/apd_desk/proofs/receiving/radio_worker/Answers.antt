use Rattle.apd_desk.specs.Asking.{by_seat}
use Rattle.apd_desk.proofs.Serving.{has_served, run_given, run_later}
use Rattle.apd_steps.proofs.ServingLemmas.{served_as}
use Rattle.apd_desk.proofs.receiving.radio_worker.Goals as goal

pub returns : goal.returns
returns g c =
    let radio = g.R.Radio.model in
    let frames = g.R.Radio.frames in
    let run = served_as radio frames (λ call old new. by_seat call old.seat new.seat) by_seat (λ asked. asked.seat) (λ call core after is. is) _ _ _ _ _ _ c.serve_by_steps.ensures.run in
    let served = has_served radio frames c.args.spares.items c.args.seat c.into_seat.result _ _ _ _ _ _ c.new-core.ensures c.into_seat.ensures c.new.ensures.spares c.new.ensures.tries run in
    let given = run_given radio frames _ _ _ _ _ _ served.run in
    record {
      served = served;
      seat = run_later radio frames _ _ _ _ _ _ served.run;
      exact = given.1.exact;
      bssid = given.1.bssid;
      given = given;
      none_waits = c.serve_by_steps.ensures.none_waits;
    }
