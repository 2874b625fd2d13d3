-- A call that was noted.
use Rattle.std.proofs.Common.{◌≡◌, ◌+◌, List, [], ◌∷◌, ◌++◌, sym, ap, ◌∙◌}
use Rattle.apd_core.specs.Core.{CoreState}
use Rattle.apd_history.specs.declared.entry.Kind.{Kind}
use Rattle.apd_history.specs.Chain.{call_of, commits_by, commits_of, core_at, Call, IsOneMore}
use Rattle.apd_history.proofs.Chains.{core_at-append, commits_of-append}

module _ (kind : Kind) (before after : CoreState) (old new : List Call) (m : IsOneMore kind before after old new) where
  pub at_after : (first : CoreState) → after ≡ core_at first new
  at_after first = sym (ap (λ (l : List Call). core_at first l) m ∙ core_at-append first old (call_of kind before after))

  pub commits_after : commits_of new ≡ commits_of old + commits_by kind
  commits_after = ap (λ (l : List Call). commits_of l) m ∙ commits_of-append old (call_of kind before after)

-- the same of the same core and history
pub one_more_of : (kind : Kind) (b before after : CoreState) (o old new : List Call) → b ≡ before → o ≡ old → IsOneMore kind b after o new
    → IsOneMore kind before after old new
one_more_of kind b before after o old new eb eo m =
    m ∙ (ap (λ (l : List Call). l ++ call_of kind b after ∷ []) eo ∙ ap (λ (s : CoreState). old ++ call_of kind s after ∷ []) eb)
