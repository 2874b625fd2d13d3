use Rattle.std.proofs.Common.{refl, sym, ap, ◌∙◌, ◌++◌, length, map, arith}
use Rattle.apd_core.specs.Held.{up_to}
use Rattle.apd_core.proofs.Queues.{front_is, none_left}
use Rattle.apd_core.proofs.held.give.Goals as goal

pub loop-of-init : goal.loop-of-init
loop-of-init c = record {
  order = c.requires;
  room = omega (arith, c.in_ok-outs.ensures.len, c.in_ok-outs.ensures.capacity, c.count_up_to.ensures, ap length (front_is c.args.number c.args.queue.now c.requires));
  outs = ap (λ v. v ++ map (λ x. x.1) (up_to c.args.number c.args.queue.now)) c.in_ok-outs.ensures.items;
  rest = refl;
  left = refl;
  given = refl;
}

pub returns-clause-queue : goal.returns-clause-queue
returns-clause-queue c =
    c.in_default.ensures.1 ∙ sym (none_left c.args.number c.loop-of.queue c.loop-of.invariant.order c.in_default.ensures.0) ∙ c.loop-of.invariant.rest
