-- Lists of calls in parts.
use Rattle.std.proofs.Common.{◌≡◌, ◌+◌, List, [], ◌∷◌, ◌++◌, inl, inr, ◌⊎◌, refl, sym, ap, ◌∙◌, arith, append_assoc}
use mathlib.Core.List.{IsPrefix}
use Rattle.apd_core.specs.Core.{CoreState}
use Rattle.apd_history.specs.Calling.{AreLogged}
use Rattle.apd_history.specs.Chain.{AreCalls, Call, commits_of, core_at, given_as, given_by}
use Rattle.apd_mlme.specs.declared.decision.Recipient.{Recipient}

pub core_at-append : (first : CoreState) (cs ds : List Call) → core_at first (cs ++ ds) ≡ core_at (core_at first cs) ds
core_at-append first [] ds = refl
core_at-append first (c ∷ cs) ds = core_at-append c.after cs ds

pub commits_of-append : (cs ds : List Call) → commits_of (cs ++ ds) ≡ commits_of cs + commits_of ds
commits_of-append [] ds = omega arith
commits_of-append (c ∷ cs) ds = omega (arith, commits_of-append cs ds)

pub given_by-append : (r : Recipient) (cs ds : List Call) → given_by r (cs ++ ds) ≡ given_by r cs ++ given_by r ds
given_by-append r [] ds = refl
given_by-append r (c ∷ cs) ds =
    ap (λ os. given_as r c.kind c.before ++ os) (given_by-append r cs ds) ∙ sym (append_assoc (given_as r c.kind c.before) (given_by r cs) (given_by r ds))

pub calls_split : (first : CoreState) (cs ds : List Call) → AreCalls first (cs ++ ds) → AreCalls first cs × AreCalls (core_at first cs) ds
calls_split first [] ds h = (tt, h)
calls_split first (c ∷ cs) ds h = let rest = calls_split c.after cs ds h.2 in ((h.0, h.1, rest.0), rest.1)

-- ---- what is logged of one call
pub logged_core : (core after : CoreState) (logged later : List Call) → AreLogged core after logged → core_at core (logged ++ later) ≡ core_at after later
logged_core core after [] later is = ap (λ (s : CoreState). core_at s later) (sym is)
logged_core core after (c ∷ []) later is = ap (λ (s : CoreState). core_at s later) is.1
logged_core core after (c ∷ d ∷ cs) later is = absurd is

-- a beginning of it and of what stands behind it is empty, or goes on behind it
pub begins_or_goes_on : (core after : CoreState) (logged later begins : List Call) → AreLogged core after logged → IsPrefix begins (logged ++ later)
    → (core_at core begins ≡ core) ⊎ ((rest : List Call) × IsPrefix rest later × (core_at core begins ≡ core_at after rest))
begins_or_goes_on core after logged later [] is prefix = inl refl
begins_or_goes_on core after [] later (b ∷ begins) is prefix = inr (b ∷ begins, prefix, refl)
begins_or_goes_on core after (c ∷ []) later (b ∷ begins) is prefix =
    let same : b ≡ c = (let e = prefix.1 in cc) in
    let more : begins ++ prefix.0 ≡ later = (let e = prefix.1 in cc) in
    inr (begins, (prefix.0, more), ap (λ (s : CoreState). core_at s begins) (ap (λ (x : Call). x.after) same ∙ is.1))
begins_or_goes_on core after (c ∷ d ∷ cs) later begins is prefix = absurd is
