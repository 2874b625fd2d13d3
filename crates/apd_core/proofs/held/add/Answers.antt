use Rattle.std.proofs.Common.{List, ◌<◌, length, map, sym, ap, subst, ◌∙◌, arith}
use Rattle.apd_core.proofs.Words.{AllByRecursion, MayFollow, Out, Queue, Recipient, before, queue_place, queues_with_outs}
use Rattle.apd_core.proofs.Places.{queue_place_below}
use Rattle.apd_core.proofs.Queues.{added_at, length-queues_with_out, before-queues_with_out}
use Rattle.apd_core.proofs.HeldLemmas.{follow_more}
use Rattle.apd_core.proofs.held.add.Goals as goal

pub bounds-queues-place : goal.bounds-queues-place
bounds-queues-place c = omega (arith, queue_place_below c.args.confs.now c.in-Some.to c.in-Some-place_of.place (sym c.in-Some-place_of.ensures.place), c.loop-to.invariant.size)

pub loop-to-preserved-in-Continue-1 : goal.loop-to-preserved-in-Continue-1
loop-to-preserved-in-Continue-1 c =
    let confs = c.args.confs.now in let n = c.args.number in let qs = c.loop-to.queues in let out = c.in-Some.out in
    let p = queue_place confs c.in-Some.to in
    let lt : c.in-Some-place_of.place < length qs = omega (arith, queue_place_below confs c.in-Some.to c.in-Some-place_of.place (sym c.in-Some-place_of.ensures.place), c.loop-to.invariant.size) in
    let e = added_at qs p c.in-Some-place_of.place c.index-queues-place.result c.push.new.self (n, out) c.in-Some-place_of.ensures.place lt c.in_ok-push.ensures.ok in
    record {
      next = tt;
      finite = tt;
      size = ap length e ∙ length-queues_with_out qs p (n, out) ∙ c.loop-to.invariant.size;
      added = ap (queues_with_outs confs n c.next.new.self.rest.items) e ∙ sym (ap (λ (l : List (Recipient × Out)). queues_with_outs confs n l qs) c.in-Some.ensures.steps.0) ∙ c.loop-to.invariant.added;
      before = ap (map (before n)) e ∙ before-queues_with_out n qs p (n, out) (omega arith) ∙ c.loop-to.invariant.before;
      order = λ f. subst (λ (l : List Queue). AllByRecursion (MayFollow n) l) (sym e) (follow_more n qs p out (c.loop-to.invariant.order f));
    }
