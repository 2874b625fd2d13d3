-- What one knows of a call that one made of a shared core, by the beginnings of its history that one had seen before it
-- and after it (own).
use Rattle.std.specs.Prelude.{◌≡◌, List, [], ◌∷◌, ◌++◌}
use Rattle.apd_core.specs.Core.{CoreState}
use Rattle.apd_disk.specs.Disk.{DiskModel}
use Rattle.apd_flusher.specs.declared.committer.Committer.{Committer}
use Rattle.apd_steps.specs.Calls.{Made, exactly}
use Rattle.apd_steps.specs.Run.{IsRun}
use Rattle.apd_history.specs.Chain.{commits_of, core_at, Call}

-- the call stands there, or nothing does, where it left the core as it was
abbrev pub AreLogged : CoreState → CoreState → List Call → Type 0
AreLogged core after [] = after ≡ core
AreLogged core after (c ∷ []) = (c.before ≡ core) × (c.after ≡ after)
AreLogged core after (c ∷ d ∷ cs) = ⊥

-- others made calls meanwhile, and then this one was made of the core that was there; the history stands so up to it
pub record HasCalled (first : CoreState) (call : CoreState → CoreState → Type 0) (old new : List Call) : Type 0 where
  pub between : List Call
  pub logged : List Call
  pub core : CoreState
  pub after : CoreState
  pub at : core ≡ core_at first (old ++ between)
  pub went : exactly call core after
  pub stands : AreLogged core after logged
  pub all : new ≡ (old ++ between) ++ logged

-- by who has a front
abbrev pub by_front : CoreState → Made (List Call)
by_front first call old new = HasCalled first call old new

-- by who alone commits: nobody else made such a call meanwhile
abbrev pub by_committer : CoreState → Made (List Call)
by_committer first call old new = (called : HasCalled first call old new) × (commits_of called.between ≡ 0)

-- steps lead from the committer with which it began to its own; each call of the core that they made stands in its front,
-- and others' calls in between
abbrev pub HasRun : {D : Type 0} → DiskModel D → CoreState → Committer D → List Call → Committer D → Type 0
HasRun disk first begun front committer = IsRun disk (by_committer first) [] front begun committer
