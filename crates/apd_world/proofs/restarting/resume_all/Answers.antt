use Rattle.std.proofs.Common.{◌<◌, sym, ap, subst, ◌∙◌, arith, length, get_or, set}
use Rattle.std.proofs.lemmas.List.{get_or_default}
use Rattle.apd_world.proofs.Words.{HasNotResumed, IsResumed, installed_rows, radio_of}
use Rattle.apd_world.proofs.ResumeLemmas.{one_failed, one_resumed, HasSameFrames, Resumes}
use Rattle.apd_world.proofs.SoFar.{all_so_far, none_so_far, one_so_far, still_same, zip_firsts, zip_same}
use Rattle.apd_world.proofs.restarting.resume_all.Goals as goal

pub loop-slot-init : goal.loop-slot-init
loop-slot-init g c = none_so_far (Resumes g.R.Radio.model g.R.Radio.frames c.args.table.now) c.args.slots.now

pub loop-slot-preserved : goal.loop-slot-preserved
loop-slot-preserved g c =
    let h = c.loop-slot.invariant in
    let given = c.in_default.ensures.given in
    let now = c.loop-slot.slots in
    let i = c.loop-slot.slot-index in
    let before = get_or now i c.slot-item.result in
    let lt : i < length now = omega (arith, h.many, c.loop-slot-test.true) in
    let s = c.args.table.now in
    let own = ap (installed_rows s) (sym given.bssid) in
    let resumed = one_resumed g.R.Radio.model s c.resume.new.self given.up (given.wanted ∙ own) (given.installed ∙ own) given.queue in
    one_so_far (Resumes g.R.Radio.model g.R.Radio.frames s) i c.args.slots.now now before c.resume.new.self (get_or_default now i c.slot-item.result before lt) given.bssid h lt (resumed, c.in_default.ensures.frames)

pub returns-in-Err : goal.returns-in-Err
returns-in-Err g c =
    let h = c.loop-slot.invariant in
    let given = c.in-Err.ensures.given in
    let now = c.loop-slot.slots in
    let i = c.loop-slot.slot-index in
    let before = get_or now i c.slot-item.result in
    let after = c.resume.new.self in
    let lt : i < length now = omega (arith, h.many, c.loop-slot-test.true) in
    let is = get_or_default now i c.slot-item.result before lt in
    let s = c.args.table.now in
    record {
      ok = tt;
      frames = tt;
      same = still_same (Resumes g.R.Radio.model g.R.Radio.frames s) i c.args.slots.now now before after is given.bssid h;
      err = subst (λ b. HasNotResumed g.R.Radio.model s b c.in-Err.fault c.args.slots.now (set now i after))
          (sym (c.bssid.ensures ∙ given.bssid))
          (one_failed g.R.Radio.model g.R.Radio.frames s i c.args.slots.now now before after c.in-Err.fault lt is given h);
    }

pub returns : goal.returns
returns g c =
    let s = c.args.table.now in
    let h = c.loop-slot.invariant in
    let frames = g.R.Radio.frames in
    let all = all_so_far (Resumes g.R.Radio.model frames s) c.loop-slot.slot-index c.args.slots.now c.loop-slot.slots
    c.loop-slot-test.false h in
    record {
      ok = zip_firsts (IsResumed g.R.Radio.model s) (HasSameFrames g.R.Radio.model frames s) c.args.slots.now
          c.loop-slot.slots all;
      frames = zip_same (λ slot. frames (radio_of slot)) (IsResumed g.R.Radio.model s) c.args.slots.now c.loop-slot.slots all;
      same = h.same;
      err = tt;
    }
