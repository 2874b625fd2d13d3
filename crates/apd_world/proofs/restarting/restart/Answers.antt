use Rattle.std.proofs.Common.{inl, inr, ⊎_elim, sym, ap, subst}
use Rattle.std.proofs.lemmas.Result.{IfErr-weaker, IfOk-weaker}
use Rattle.apd_world.proofs.ResumeLemmas.{begun_from, ends_so, not_begun_from, still_left}
use Rattle.apd_world.proofs.Words.{State}
use Rattle.apd_world.specs.StandsFor.{BeginsAt}
use Rattle.apd_world.specs.declared.fault.WorldFault.TheVariants as world_fault
use Rattle.apd_world.proofs.StepLemmas.{same_fault}
use Rattle.apd_world.proofs.restarting.restart.Goals as goal

pub returns-in-Ok-clause-begun : goal.returns-in-Ok-clause-begun
returns-in-Ok-clause-begun g c =
    IfOk-weaker c.begin_anew.result _ _
    (λ w h. begun_from g.D.Disk.model c.args.device c.in-Ok.store c.in-Ok.table c.in-Ok.ensures.found c.args.confs
    c.args.moment w.durable h
    (c.an_image_shows_one_state.ensures (g.D.Disk.model.reads c.args.device) c.in-Ok.table))
    c.begin_anew.ensures.begun

pub returns-in-Ok-clause-begins : goal.returns-in-Ok-clause-begins
returns-in-Ok-clause-begins g c =
    IfOk-weaker c.begin_anew.result _ _ (λ w h. subst (λ (s : State). BeginsAt c.args.confs s w) (sym h.settled) h) c.begin_anew.ensures.begins

pub returns-in-Ok-clause-none : goal.returns-in-Ok-clause-none
returns-in-Ok-clause-none g c =
    IfErr-weaker c.begin_anew.result _ _
    (λ e h. not_begun_from g.D.Disk.model c.args.device c.in-Ok.store c.in-Ok.table c.in-Ok.ensures.found
    g.R.Radio.model c.args.slots.items e.1.items e.0 e.2 h (g.met.D.Disk.reads_may_be_left c.args.device))
    c.begin_anew.ensures.none

pub returns-in-Ok-clause-only : goal.returns-in-Ok-clause-only
returns-in-Ok-clause-only g c =
    IfErr-weaker c.begin_anew.result _ _
    (λ e h. inr (inr (inr (inr (inr (ends_so g.D.Disk.model c.args.device c.in-Ok.store c.in-Ok.table c.in-Ok.ensures.found
    g.R.Radio.model e.0 c.args.slots.items e.1.items e.2
    (λ left. c.in-Ok.ensures.found.shown (subst g.D.Disk.model.honest h.device_is left)) h.slots_are)))))) c.begin_anew.ensures.none

pub returns-in-Ok-clause-still_slots : goal.returns-in-Ok-clause-still_slots
returns-in-Ok-clause-still_slots g c =
    IfErr-weaker c.begin_anew.result _ _ (λ e h other. still_left g.R.Radio.model c.in-Ok.table c.args.slots.items
    e.1.items e.2 h.slots_are other) c.begin_anew.ensures.none

pub returns-in-Ok-clause-slots_err : goal.returns-in-Ok-clause-slots_err
returns-in-Ok-clause-slots_err g c = IfErr-weaker c.begin_anew.result _ _ (λ e h. h.same) c.begin_anew.ensures.none

pub returns-in-Err-clause-none : goal.returns-in-Err-clause-none
returns-in-Err-clause-none g c =
    let e = c.in-Err.ensures.none in
    record {
      device_failed = λ told. e.device_failed (same_fault _ _ told);
      no_fault = λ other. e.no_fault (λ is. other (ap world_fault.Store is));
      was_honest = e.was_honest;
      not_a_store = λ honest told. e.not_a_store honest (same_fault _ _ told);
      old_version = λ honest told. e.old_version honest (same_fault _ _ told);
      damaged = λ honest told. e.damaged honest (same_fault _ _ told);
      durable = λ honest. ⊎_elim (λ only. inl only) (λ synced. inr (ap world_fault.Store synced.0, synced.1)) (e.durable honest);
      still = e.still;
      any_moment = e.any_moment;
    }
