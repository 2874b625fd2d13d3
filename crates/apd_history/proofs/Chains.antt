-- One more change.
use Rattle.std.proofs.Common.{◌≡◌, ◌+◌, List, [], ◌∷◌, ◌++◌, refl, arith}
use Rattle.apd_core.specs.Core.{CoreState}
use Rattle.apd_history.specs.Chain.{core_at, commits_by, commits_of, AreCalls, Call, IsCalled}

pub core_at-append : (first : CoreState) (cs : List Call) (c : Call) → core_at first (cs ++ c ∷ []) ≡ c.after
core_at-append first [] c = refl
core_at-append first (d ∷ cs) c = core_at-append d.after cs c

pub commits_of-append : (cs : List Call) (c : Call) → commits_of (cs ++ c ∷ []) ≡ commits_of cs + commits_by c.kind
commits_of-append [] c = omega arith
commits_of-append (d ∷ cs) c = omega (arith, commits_of-append cs c)

pub commits_of-both : (cs ds : List Call) → commits_of (cs ++ ds) ≡ commits_of cs + commits_of ds
commits_of-both [] ds = omega arith
commits_of-both (c ∷ cs) ds = omega (arith, commits_of-both cs ds)

pub calls_append : (first : CoreState) (cs : List Call) (c : Call) → AreCalls first cs → c.before ≡ core_at first cs
    → IsCalled c → AreCalls first (cs ++ c ∷ [])
calls_append first [] c h e k = (e, k, tt)
calls_append first (d ∷ cs) c h e k = (h.0, h.1, calls_append d.after cs c h.2 e k)
