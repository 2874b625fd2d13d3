use Rattle.std.proofs.Common.{◌≡◌, length, sym, ap, subst, ◌∙◌, arith, rules}
use Rattle.apd_core.proofs.Queues.{whole}
use Rattle.apd_world.proofs.Words.{AreExact, AreResumed, CoreState, HasNotResumed, HaveSameBssids}
use Rattle.apd_flusher.specs.Outside as flusher
use Rattle.apd_store.specs.Outside.{store_device}
use Rattle.apd_world.proofs.HistoryBegins.{begins_at}
use Rattle.apd_world.proofs.ResumeLemmas.{begun_following, no_out_waits, resumed_exact}
use Rattle.apd_world.proofs.restarting.begin_anew.Goals as goal

pub returns-in-Ok-resume_all-clause-resumed : goal.returns-in-Ok-resume_all-clause-resumed
returns-in-Ok-resume_all-clause-resumed g c =
    let xs = c.resume_all.new.slots in
    let many : c.args.slots.len ≡ length xs = omega (
      arith,
      c.args.slots.ok.0,
      c.resume_all.auto.slots,
      c.as_mut_slice.ensures.len,
    ) in
    let core = c.in-Ok.durable.core in
    let begun = c.in-Ok.ensures.begun in
    let same : core.settled ≡ c.args.table = ap (λ (s : CoreState). s.settled) begun.core in
    let are = whole c.args.slots.len xs c.args.slots.items (sym many) in
    let ok = c.in-Ok-resume_all.ensures.ok in
    let resumed = subst (AreResumed g.R.Radio.model c.args.table) (sym are)
    (subst (λ s. AreResumed g.R.Radio.model s xs) (c.table.ensures ∙ same) ok) in
    record {
      resumed = subst (AreResumed g.R.Radio.model core.settled) (sym are)
          (subst (λ s. AreResumed g.R.Radio.model s xs) c.table.ensures ok);
      exact = subst (AreExact g.R.Radio.model) (sym are) (resumed_exact g.R.Radio.model c.table.result.now xs ok);
      following = λ b configured slot at a. begun_following g.R.Radio.model _ c.args.table resumed core c.args.confs
          core.heard begun.core b slot at a;
      queues = λ b. no_out_waits g.R.Radio.model _ c.args.table resumed b;
      same = search rules;
    }

pub returns-in-Ok-resume_all-clause-begins : goal.returns-in-Ok-resume_all-clause-begins
returns-in-Ok-resume_all-clause-begins g c =
    let begun = c.in-Ok.ensures.begun in
    begins_at _ c.args.confs c.args.table begun.core begun.sound (returns-in-Ok-resume_all-clause-resumed g c).queues

pub returns-in-Err-resume_all-clause-none : goal.returns-in-Err-resume_all-clause-none
returns-in-Err-resume_all-clause-none g c =
    let xs = c.resume_all.new.slots in
    let many : c.args.slots.len ≡ length xs = omega (
      arith,
      c.args.slots.ok.0,
      c.resume_all.auto.slots,
      c.as_mut_slice.ensures.len,
    ) in
    let bssid = c.in-Err-resume_all.bssid in
    let fault = c.in-Err-resume_all.fault in
    let same : c.in-Ok.durable.core.settled ≡ c.args.table =
    ap (λ (s : CoreState). s.settled) c.in-Ok.ensures.begun.core in
    let are = whole c.args.slots.len xs c.args.slots.items (sym many) in
    let first = subst (λ zs. HasNotResumed g.R.Radio.model c.table.result.now bssid fault zs xs)
    c.as_mut_slice.ensures.value c.in-Err-resume_all.ensures.err in
    let failed = subst (λ s. HasNotResumed g.R.Radio.model s bssid fault c.args.slots.items xs)
    (c.table.ensures ∙ same) first in
    record {
      device_is = c.into_device.ensures ∙ ap flusher.flusher_device c.into_parts-flusher.ensures.flusher
          ∙ ap store_device c.in-Ok.ensures.begun.over;
      slots_are = subst (HasNotResumed g.R.Radio.model c.args.table bssid fault c.args.slots.items) (sym are) failed;
      same = subst (HaveSameBssids c.args.slots.items) (sym are)
          (subst (λ zs. HaveSameBssids zs xs) c.as_mut_slice.ensures.value c.resume_all.ensures.same);
    }
