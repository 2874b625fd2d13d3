use Rattle.std.proofs.Common.{◌≡◌, ◌+◌, ◌++◌, ◌≤◌, map, length, vec_len, vec_capacity}
use Rattle.apd_core.specs.Held.{up_to, beyond, after_given, greatest_number, IsInOrder}
use Rattle.apd_core.proofs.held.give.Given as goal

-- what is still to be given, from what was given
abbrev pub invariant-loop-of : goal.invariant-loop-of
invariant-loop-of l = record {
  order : IsInOrder l.queue;
  room : vec_len l.outs + length (up_to l.number l.queue) ≤ vec_capacity l.outs;
  outs : l.outs.items ++ map (λ x. x.1) (up_to l.number l.queue) ≡ map (λ x. x.1) (up_to l.number l.fn.queue);
  rest : beyond l.number l.queue ≡ beyond l.number l.fn.queue;
  left : after_given l.remaining (up_to l.number l.queue) ≡ after_given l.fn.remaining (up_to l.number l.fn.queue);
  given : greatest_number l.given (up_to l.number l.queue) ≡ greatest_number l.fn.given (up_to l.number l.fn.queue);
}

abbrev pub decreases-loop-of : goal.decreases-loop-of
decreases-loop-of l = length l.queue
