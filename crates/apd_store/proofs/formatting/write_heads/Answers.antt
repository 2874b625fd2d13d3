use Rattle.std.proofs.Common.{◌≡◌, ℕ, List, length, take, sym, ◌∙◌, ap, subst, arith}
use Rattle.apd_store.proofs.Words.{DEVICE_LENGTH, IsLaidOut, one_call, quiet_call, then_run}
use Rattle.apd_store.proofs.Heads.{first_stays, on_map, heads_written}
use Rattle.apd_store.proofs.formatting.write_heads.Goals as goal

pub returns-in_err-write_at-clause-any_moment : goal.returns-in_err-write_at-clause-any_moment
returns-in_err-write_at-clause-any_moment g c = λ h only.
    let d = g.D.Disk in
    let old = c.args.device.now in
    let mid = c.write_at.new.self in
    one_call d.model old mid (λ i. take 8 i ≡ take 8 (d.model.reads old)) c.write_at.ensures.call.goes_on (c.write_at.ensures.call.time h)
    (first_stays (take 8 (d.model.reads old)) 64 (length c.args.a.now) (d.model.may_leave old) (d.model.left_since mid (d.model.moment old)) (omega arith) (λ i left. ap (λ (l : List ℕ). take 8 l) (only i left)) (c.write_at.ensures.call.stop h))

pub returns-in_err-write_at-2-clause-any_moment : goal.returns-in_err-write_at-2-clause-any_moment
returns-in_err-write_at-2-clause-any_moment g c = λ h only.
    let d = g.D.Disk in
    let old = c.args.device.now in
    let mid = c.write_at.new.self in
    let new = c.write_at-2.new.self in
    let P = λ (i : List ℕ). take 8 i ≡ take 8 (d.model.reads old) in
    let here = c.write_at.ensures.call.stays_honest.0 h in
    let first = one_call d.model old mid P c.write_at.ensures.call.goes_on (c.write_at.ensures.call.time h)
    (first_stays (take 8 (d.model.reads old)) 64 (length c.args.a.now) (d.model.may_leave old) (d.model.left_since mid (d.model.moment old)) (omega arith) (λ i left. ap (λ (l : List ℕ). take 8 l) (only i left)) (c.write_at.ensures.call.stop h)) in
    then_run d.model old mid new P first (one_call d.model mid new P c.write_at-2.ensures.call.goes_on (c.write_at-2.ensures.call.time here)
    (first_stays (take 8 (d.model.reads old)) 1048640 (length c.args.b.now) (d.model.may_leave mid) (d.model.left_since new (d.model.moment mid)) (omega arith) (λ i left. first.each i (g.met.D.Disk.counts_now mid (d.model.moment old) i here first.later left)) (c.write_at-2.ensures.call.stop here)))

pub returns-clause-any_moment : goal.returns-clause-any_moment
returns-clause-any_moment g c = λ h only.
    let d = g.D.Disk in
    let old = c.args.device.now in
    let mid = c.write_at.new.self in
    let new = c.write_at-2.new.self in
    let P = λ (i : List ℕ). take 8 i ≡ take 8 (d.model.reads old) in
    let here = c.write_at.ensures.call.stays_honest.0 h in
    let there = c.write_at-2.ensures.call.stays_honest.0 here in
    let first = one_call d.model old mid P c.write_at.ensures.call.goes_on (c.write_at.ensures.call.time h)
    (first_stays (take 8 (d.model.reads old)) 64 (length c.args.a.now) (d.model.may_leave old) (d.model.left_since mid (d.model.moment old)) (omega arith) (λ i left. ap (λ (l : List ℕ). take 8 l) (only i left)) (c.write_at.ensures.call.stop h)) in
    let second = then_run d.model old mid new P first (one_call d.model mid new P c.write_at-2.ensures.call.goes_on (c.write_at-2.ensures.call.time here)
    (first_stays (take 8 (d.model.reads old)) 1048640 (length c.args.b.now) (d.model.may_leave mid) (d.model.left_since new (d.model.moment mid)) (omega arith) (λ i left. first.each i (g.met.D.Disk.counts_now mid (d.model.moment old) i here first.later left)) (c.write_at-2.ensures.call.stop here))) in
    quiet_call d.model old new c.sync.new.self P (λ t i le left. g.met.D.Disk.counts_now new t i there le left) second c.sync.ensures.call.goes_on (c.sync.ensures.call.time there) (c.sync.ensures.call.stop there)

pub returns-clause-heads : goal.returns-clause-heads
returns-clause-heads g c = λ epoch gate state h only shows closed.
    let d = g.D.Disk in
    let old = c.args.device.now in
    let mid = c.write_at.new.self in
    let new = c.write_at-2.new.self in
    let here = c.write_at.ensures.call.stays_honest.0 h in
    let there = c.write_at-2.ensures.call.stays_honest.0 here in
    let size : length (d.model.reads old) ≡ DEVICE_LENGTH = g.met.D.Disk.same_size old (d.model.moment old) (d.model.reads old) h (g.met.D.Disk.counts_now old (d.model.moment old) (d.model.reads old) h (omega arith) (g.met.D.Disk.reads_may_be_left old h)) ∙ c.requires.size in
    let heads = heads_written c.args.a.now c.args.b.now (d.model.reads old) (d.model.reads mid) (d.model.reads new) c.requires.fits.0 c.requires.fits.1 size (c.in_ok-write_at.ensures.call.written h) (c.in_ok-write_at-2.ensures.call.written here) epoch gate state shows closed in
    on_map c.sync.result _ _ _ (c.sync.ensures.call.stays there) (c.sync.ensures.call.durable there)
    (λ same durable. (subst (λ (l : List ℕ). IsLaidOut l epoch gate state) (sym same) heads, λ i left. durable i left ∙ sym same))
