use Rattle.std.proofs.Common.{List, take, sym, ap, subst, ◌∙◌}
use Rattle.apd_core.proofs.Words.{Change, CoreState, IsCore, StaySound, changes_of}
use Rattle.apd_core.proofs.Taking.{front_stays}
use Rattle.apd_core.proofs.request_core.Core.take.Goals as goal

pub returns-clause-sound : goal.returns-clause-sound
returns-clause-sound c =
    let s = c.args.self.now in
    let n = c.in_ok-count.count in
    let core = subst IsCore c.self.view_is c.self.invariant.core in
    let same = c.from_vec-2.ensures ∙ c.in_ok-count.ensures.changes ∙ ap (λ (t : CoreState). changes_of (take n t.unsettled)) c.self.view_is in
    subst (λ (cs : List Change). StaySound cs s.settled) (sym same) (front_stays s core n)
