use Rattle.std.proofs.Common.{◌≡◌, ◌∷◌, List, [], ap, subst, ◌∙◌, length, rules, tests}
use Rattle.std.specs.Prelude.{nat_le, reverse}
use Rattle.apd_core.proofs.Words.{length-reverse, reverse-append, take_while}
use Rattle.std.specs.Iterator.Adapters.{rev_source, rev_steps}
use Rattle.std.specs.VecDeque.Iter.{deque_iter_rest, deque_iter_steps_back}
use Rattle.std.proofs.lemmas.Iterator.{YieldsList}
use Rattle.std.proofs.lemmas.Iterator.Consumers.{count_from_yields_List, YieldsList-from_shown}
use Rattle.std.proofs.lemmas.Iterator.Search.{YieldsList-from_take_while}
use Rattle.apd_core.proofs.queue.Queue.count_from.Goals as goal

-- a queue's items from the back
reversed : {A : Type 0} → {s : _} (xs : List A) → deque_iter_rest (rev_source s) ≡ xs → YieldsList (rev_steps (deque_iter_steps_back {X = A})) (λ y. y.now) s (reverse xs)
reversed {A} {s} xs e = subst (λ k. YieldsList (rev_steps (deque_iter_steps_back {X = A})) (λ y. y.now) s (reverse k)) e
    (YieldsList-from_shown (rev_steps deque_iter_steps_back) (λ y. y.now) (λ u. reverse (deque_iter_rest (rev_source u))) (λ u t p. length-reverse _ ∙ p.0)
    (λ u x t p. ap reverse p ∙ reverse-append (deque_iter_rest (rev_source t)) (x.now ∷ [])) s)

pub returns : goal.returns
returns c =
    count_from_yields_List c.take_while.result _ c.count.ensures.ran (YieldsList-from_take_while _ (λ x. nat_le c.args.number x.0) (reversed c.self.inside.outs.items (cc)) c.take_while.ensures.closure c.take_while.ensures.done (λ x b q k. search (rules, tests)))
    ∙ ap (λ q. length (take_while (λ x. nat_le c.args.number x.0) (reverse q))) c.self.view_is
