-- What the committing worker did, by the front that it saw, to the core that was there.
use Rattle.std.proofs.Common.{◌≡◌, List, [], ◌++◌, Option, Some, None, Result, Ok, Err, ⊎_elim, inl, inr, refl, sym, ap, subst, ◌∙◌}
use Rattle.std.proofs.lemmas.List.{append-nil}
use Rattle.apd_core.specs.Core.{CoreState}
use Rattle.apd_flusher.specs.declared.committer.Committer.{Committer}
use Rattle.apd_history.specs.Calling.{AreLogged, by_committer}
use Rattle.apd_history.specs.Chain.{Call, commits_of, core_at}
use Rattle.apd_journal.specs.declared.batch.Batch.{Batch}
use Rattle.apd_steps.specs.Calls.{FailTells, PublishTells, TakeTells, exactly}
use Rattle.apd_steps.specs.Run.{Call as Calling, Does, Fail, Publish, Step, Take}
use Rattle.apd_store.specs.declared.fault.StoreFault.{StoreFault}
use Rattle.apd_store.specs.declared.fault.StoreFault.TheVariants as store_fault
use Rattle.apd_moment.proofs.Calls.{core_at-append, logged_core}

module _ (first : CoreState) where
  -- others made calls, none of which commits, and then one call was logged or none
  pub record IsBehind (old new : List Call) : Type 0 where
    pub others : List Call
    pub quiet : commits_of others ≡ 0
    pub logged : List Call
    pub is : AreLogged (core_at first (old ++ others)) (core_at first new) logged
    pub all : new ≡ (old ++ others) ++ logged

  -- nothing at all
  abbrev same_behind : (old new : List Call) → new ≡ old → IsBehind old new
  same_behind old new same = record {
    others = [];
    quiet = refl;
    logged = [];
    is = ap (core_at first) (same ∙ sym (append-nil old));
    all = same ∙ sym (append-nil old) ∙ sym (append-nil (old ++ []));
  }

  module _ (call : CoreState → CoreState → Type 0) (old new : List Call) (h : by_committer first call old new) where
    ends : h.0.after ≡ core_at first new
    ends =
        sym (ap (core_at first) h.0.all ∙ core_at-append first (old ++ h.0.between) h.0.logged ∙ ap (λ (s : CoreState). core_at s h.0.logged) (sym h.0.at)
        ∙ ap (core_at h.0.core) (sym (append-nil h.0.logged)) ∙ logged_core h.0.core h.0.after h.0.logged [] h.0.stands)

    abbrev called_behind : IsBehind old new
    called_behind = record {
      others = h.0.between;
      quiet = h.1;
      logged = h.0.logged;
      is = subst (λ (s : CoreState). AreLogged s (core_at first new) h.0.logged) h.0.at (subst (λ (s : CoreState). AreLogged h.0.core s h.0.logged) ends h.0.stands);
      all = h.0.all;
    }

    called_exactly : exactly call (core_at first (old ++ called_behind.others)) (core_at first new)
    called_exactly = subst (λ (s : CoreState). exactly call s (core_at first new)) h.0.at (subst (λ (s : CoreState). exactly call h.0.core s) ends h.0.went)

  -- ---- any step of the worker
  pub record WentBehind {D : Type 0} (step : Step) (old new : List Call) (b c : Committer D) : Type 0 where
    pub behind : IsBehind old new
    pub does : Does exactly step (core_at first (old ++ behind.others)) (core_at first new) b c

  module _ {D : Type 0} (old new : List Call) (b c : Committer D) where
    abbrev Went : Step → Type 0
    Went step = WentBehind step old new b c

    takes_behind : (given : Option Batch) (answer : Result (Unit {0}) StoreFault) → Does (by_committer first) (Take given (Ok (Some answer))) old new b c
        → Went (Take given (Ok (Some answer)))
    takes_behind given answer h = ⊎_elim
        (λ waits. record {
          behind = same_behind old new waits.2;
          does = record { from = inl (waits.0, waits.1, (same_behind old new waits.2).is); load = h.load; device = h.device };
        })
        (λ gives. record {
          behind = called_behind (TakeTells (Ok given)) old new gives.1;
          does = record { from = inr (gives.0, called_exactly (TakeTells (Ok given)) old new gives.1); load = h.load; device = h.device };
        })
        h.from

    calls_behind : (answer : Result (Unit {0}) StoreFault) → Does (by_committer first) (Calling (Some answer)) old new b c → Went (Calling (Some answer))
    calls_behind (Ok x) h = record {
      behind = same_behind old new h.core_goes;
      does = record { some_call = h.some_call; core_goes = (same_behind old new h.core_goes).is; tells = h.tells; batch_is = h.batch_is; table = h.table; next = h.next; batch = h.batch; receipt = h.receipt };
    }
    calls_behind (Err store_fault.Device) h = record {
      behind = called_behind FailTells old new h.core_goes;
      does = record { some_call = h.some_call; core_goes = called_exactly FailTells old new h.core_goes; tells = h.tells; batch_is = h.batch_is; table = h.table; next = h.next; batch = h.batch; receipt = h.receipt };
    }
    calls_behind (Err fault) h = record {
      behind = same_behind old new h.core_goes;
      does = record { some_call = h.some_call; core_goes = (same_behind old new h.core_goes).is; tells = h.tells; batch_is = h.batch_is; table = h.table; next = h.next; batch = h.batch; receipt = h.receipt };
    }

    pub went_behind : (step : Step) → Does (by_committer first) step old new b c → Went step
    went_behind (Take given (Ok (Some answer))) h = takes_behind given answer h
    went_behind (Take given (Ok None)) h = record {
      behind = called_behind (TakeTells (Ok None)) old new h.2;
      does = (h.0, h.1, called_exactly (TakeTells (Ok None)) old new h.2, h.3);
    }
    went_behind (Take given (Err short)) h = record {
      behind = called_behind (TakeTells (Err short)) old new h.2;
      does = (h.0, h.1, called_exactly (TakeTells (Err short)) old new h.2, h.3);
    }
    went_behind (Calling (Some answer)) h = calls_behind answer h
    went_behind (Calling None) h = record { behind = same_behind old new h.1; does = (h.0, (same_behind old new h.1).is, h.2) }
    went_behind (Publish (Some receipt) (Some answer)) h = record {
      behind = called_behind (PublishTells answer receipt) old new h.tells;
      does = record { next = h.next; tells = called_exactly (PublishTells answer receipt) old new h.tells; kept = h.kept; batch = h.batch; device = h.device };
    }
    went_behind (Publish None None) h = record { behind = same_behind old new h.1; does = (h.0, (same_behind old new h.1).is, h.2) }
    went_behind (Publish (Some receipt) None) h = absurd h
    went_behind (Publish None (Some answer)) h = absurd h
    went_behind Fail h = record { behind = called_behind FailTells old new h.0; does = (called_exactly FailTells old new h.0, h.1) }
