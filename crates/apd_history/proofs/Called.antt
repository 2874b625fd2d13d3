-- A call of a shared core, by what was seen of its history.
use Rattle.std.proofs.Common.{◌≡◌, ◌+◌, List, [], ◌∷◌, ◌++◌, refl, sym, ap, ◌∙◌, append_assoc, arith}
use Rattle.std.proofs.lemmas.List.{append-nil}
use mathlib.Core.List.{IsPrefix}
use Rattle.apd_core.specs.Core.{CoreState}
use Rattle.apd_steps.specs.Calls.{exactly}
use Rattle.apd_history.specs.Calling.{by_committer, HasCalled}
use Rattle.apd_history.specs.Chain.{call_of, commits_of, core_at, Call, IsOneMore}
use Rattle.apd_history.specs.declared.entry.Kind.{Kind}
use Rattle.apd_history.proofs.Chains.{commits_of-both}

-- of the core with which the history begins
pub at : (core known : CoreState) (all : List Call) (first : CoreState) → core ≡ core_at known all → known ≡ first → core ≡ core_at first all
at core known all first is same = is ∙ ap (λ (s : CoreState). core_at s all) same

none_between : (old all : List Call) (begins : IsPrefix old all) → commits_of all ≡ commits_of old → commits_of begins.0 ≡ 0
none_between old all begins alone =
    let both : commits_of (old ++ begins.0) ≡ commits_of old + commits_of begins.0 = commits_of-both old begins.0 in
    let is : commits_of (old ++ begins.0) ≡ commits_of all = ap (λ (l : List Call). commits_of l) begins.1 in
    omega (arith, both, is, alone)

-- the core was there, behind what had been seen, and all is seen then
module _ (first core after : CoreState) (old new all then : List Call) (there : core ≡ core_at first all) (begins : IsPrefix old all) (shows : new ≡ then)
    (call : CoreState → CoreState → Type 0) (went : exactly call core after) where
  -- the call was noted
  abbrev pub called_noted : (kind : Kind) → IsOneMore kind core after all then → HasCalled first call old new
  called_noted kind more = record {
    between = begins.0;
    logged = call_of kind core after ∷ [];
    core = core;
    after = after;
    at = there ∙ ap (λ (l : List Call). core_at first l) (sym begins.1);
    went = went;
    stands = (refl, refl);
    all = shows ∙ (more ∙ ap (λ (l : List Call). l ++ call_of kind core after ∷ []) (sym begins.1));
  }

  -- nothing was, since the core stayed as it was
  abbrev pub called_unnoted : after ≡ core → then ≡ all → HasCalled first call old new
  called_unnoted rests same = record {
    between = begins.0;
    logged = [];
    core = core;
    after = after;
    at = there ∙ ap (λ (l : List Call). core_at first l) (sym begins.1);
    went = went;
    stands = rests;
    all = shows ∙ (same ∙ (sym begins.1 ∙ sym (append-nil (old ++ begins.0))));
  }

  -- the same of who alone commits, and made all commits that there are
  pub commit_noted : (kind : Kind) → IsOneMore kind core after all then → commits_of all ≡ commits_of old → by_committer first call old new
  commit_noted kind more alone = (called_noted kind more, none_between old all begins alone)

  pub commit_unnoted : after ≡ core → then ≡ all → commits_of all ≡ commits_of old → by_committer first call old new
  commit_unnoted rests same alone = (called_unnoted rests same, none_between old all begins alone)

-- who called has seen more, or as much
pub has_grown : (first : CoreState) (call : CoreState → CoreState → Type 0) (old new : List Call) → HasCalled first call old new → IsPrefix old new
has_grown first call old new called = (called.between ++ called.logged, sym (append_assoc old called.between called.logged) ∙ sym called.all)

-- and what had been seen before the call
pub was_seen : (first : CoreState) (call : CoreState → CoreState → Type 0) (old new : List Call) → HasCalled first call old new
    → (seen : List Call) × IsPrefix seen new × (core : CoreState) × (after : CoreState) × (core ≡ core_at first seen) × exactly call core after
was_seen first call old new called = (old ++ called.between, (called.logged, sym called.all), called.core, called.after, called.at, called.went)
