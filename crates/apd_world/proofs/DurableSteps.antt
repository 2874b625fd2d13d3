-- What a step does to a durable core: where its committer stands, and what a stop since its start leaves.
use Rattle.std.proofs.Common.{◌≡◌, ℕ, zero, suc, ◌≤◌, ◌+◌, Err, true, false, Bool, List, take, Option, Some, None, ◌⊎◌, inl, inr, ⊎_elim, refl, sym, ap, subst, ◌∙◌, arith}
use Rattle.std.specs.Prelude.{IsTrue, if◌then◌else◌, nat_le, ◌||◌, ◌==◌, length}
use Rattle.std.proofs.lemmas.Bool.{le-leb, ne_eqb}
use Rattle.apd_world.proofs.Words.{AreUnsettled, Batch, Called, Committer, CoreState, Device, DiskModel, DurableCore, Happening, IsFlight, IsImaged, IsSafe, IsStepMade, IsTaken, IsWhole, LeavesOnly, Receipt, Shows, ShowsEither, ShowsFlight, State, Told, batch_of, cannot_take, device_of, flight_of, held_batch, after_publish, run}
use Rattle.apd_record.specs.Meaning.{meaning_of}
use Rattle.apd_core.proofs.Keeping.{decided_means}
use Rattle.apd_core.proofs.Settling.{decided_split}
use Rattle.apd_flusher.specs.Committing.{IsWhole as IsCommitter, state_after_flight}
use Rattle.apd_flusher.specs.Outside.{flusher_device, flusher_of as flusher_in}

-- not both
pub none_some : {A B : Type 0} (o : Option A) (x : A) → o ≡ None → o ≡ Some x → B
none_some {A = A} o x none some = absurd (let no : ◌≡◌ {A = Option A} None (Some x) = sym none ∙ some in cc)

-- ---- the batch in flight
not_none : (n : ℕ) → (suc n == 0) ≡ false
not_none n = ne_eqb (suc n) 0 (λ e. absurd (omega (arith, e)))

-- none, or some
flight_is : (n : ℕ) (batch : Batch) → ((n ≡ 0) × ((if n == 0 then None else Some batch) ≡ None)) ⊎ ((1 ≤ n) × ((if n == 0 then None else Some batch) ≡ Some batch))
flight_is zero batch = inl (refl, refl)
flight_is (suc n) batch = inr (omega arith, ap (λ (t : Bool). if t then None else Some batch) (not_none n))

pub in_flight : (s : CoreState) → 1 ≤ s.flight → flight_of s ≡ Some (batch_of s)
in_flight s some = ⊎_elim (λ none. let n = none.0 in absurd (omega (arith, n, some))) (λ is. is.1) (flight_is s.flight (batch_of s))

pub none_flies : (s : CoreState) → flight_of s ≡ None → s.flight ≡ 0
none_flies s none = ⊎_elim (λ is. is.0) (λ some. (let no : None ≡ Some (batch_of s) = sym none ∙ some.1 in cc)) (flight_is s.flight (batch_of s))

pub is_flight : (s : CoreState) (batch : Batch) → flight_of s ≡ Some batch → IsFlight batch s
is_flight s batch is =
    ⊎_elim
    (λ none. (let no : None ≡ Some batch = sym none.1 ∙ is in cc))
    (λ some. (some.0, (let both : Some batch ≡ Some (batch_of s) = sym is ∙ some.1 in cc)))
    (flight_is s.flight (batch_of s))

cannot_twice : (s : CoreState) → 1 ≤ s.flight → IsTrue (cannot_take s)
cannot_twice s some =
    elim s.failed as (λ t. IsTrue (t || (nat_le 1 s.flight || (length s.unsettled == 0)))) [
      | true ↦ refl
      | false ↦ ap (λ t. t || (length s.unsettled == 0)) (le-leb 1 s.flight some)
    ]

pub can_take_none : (s : CoreState) → ¬ IsTrue (cannot_take s) → flight_of s ≡ None
can_take_none s can = ⊎_elim (λ none. none.1) (λ some. absurd (can (cannot_twice s some.0))) (flight_is s.flight (batch_of s))

-- the state after it, by what happened
after_is : (n : ℕ) (batch : ℕ → Batch) (s : State) → meaning_of (batch 0).changes s ≡ s → state_after_flight s (if n == 0 then None else Some (batch n)) ≡ meaning_of (batch n).changes s
after_is zero batch s none = sym none
after_is (suc n) batch s none = ap (λ (t : Bool). state_after_flight s (if t then None else Some (batch (suc n)))) (not_none n)

pub after_flight_runs : (s : CoreState) (hs : List Happening) → AreUnsettled hs s → state_after_flight s.settled (flight_of s) ≡ run s.settled s.confs (take s.flight hs)
after_flight_runs s hs u =
    after_is s.flight (λ n. batch_of (record s { flight = n })) s.settled refl
    ∙ decided_means s.confs (take s.flight hs) (take s.flight s.unsettled) s.settled (decided_split s.confs s.flight hs s.unsettled s.settled u).0

pub shows_flight : (s : CoreState) (hs : List Happening) → AreUnsettled hs s → (c : List ℕ) → ShowsEither s c → ShowsFlight s hs c
shows_flight s hs u c h = ⊎_elim
    (λ a. record { count = 0; some_of = inl refl; shows = a })
    (λ b. record { count = s.flight; some_of = inr refl; shows = subst (Shows c) (after_flight_runs s hs u) b })
    h

module _ {D : Type 0} (disk : DiskModel D) where
  -- ---- a step that makes no call
  pub safe_same : (old new : DurableCore D) → device_of new ≡ device_of old → IsSafe disk old old → (IsWhole disk old → IsWhole disk new) → (IsImaged disk old.committer → IsImaged disk new.committer)
      → IsSafe disk old new
  safe_same old new device here whole imaged = record {
    whole = whole;
    proper = λ p. record { whole = whole p.whole; imaged = imaged p.imaged };
    inside = λ p. subst (λ (d : D). LeavesOnly disk (device_of old) d (ShowsEither old.core)) (sym device) (here.inside p);
  }

  -- the same committer beside a core with the same batch in flight
  pub safe_beside : (old new : DurableCore D) → new.committer ≡ old.committer → new.core.settled ≡ old.core.settled → flight_of new.core ≡ flight_of old.core → new.core.failed ≡ old.core.failed
      → IsSafe disk old old → IsSafe disk old new
  safe_beside old new same settled flight failed here =
      safe_same old new (ap (λ (c : Committer D). flusher_device (flusher_in c)) same) here (λ h. rw (same, settled, flight, failed) h) (λ h. rw same h)

  pub safe_unchanged : (old new : DurableCore D) → new ≡ old → IsSafe disk old old → IsSafe disk old new
  safe_unchanged old new same here = subst (λ (w : DurableCore D). IsSafe disk old w) (sym same) here

  -- and so it is made, whatever it tells but a failed device
  pub made_beside : (told : Told) (old new : DurableCore D) → device_of new ≡ device_of old → (told ≡ Called (Err Device) → ⊥)
      → IsSafe disk old new → IsStepMade disk told old new
  made_beside told old new same other safe = record {
    safe = safe;
    one_call = λ h. subst (λ (d : D). disk.moment d ≤ disk.moment (device_of old) + 1) (sym same) (omega arith);
    count = subst (λ (d : D). disk.failed (device_of old) ≤ disk.failed d) (sym same) (omega arith);
    fault = λ told. absurd (other told);
  }

  pub made_unchanged : (told : Told) (old new : DurableCore D) → new ≡ old → (told ≡ Called (Err Device) → ⊥) → IsSafe disk old old → IsStepMade disk told old new
  made_unchanged told old new same other here = made_beside told old new (ap device_of same) other (safe_unchanged old new same here)

  -- ---- what a batch or a receipt does to a whole one
  -- the core gives a batch
  pub gives_whole : (batch : Batch) (old : DurableCore D) (core : CoreState) (c : Committer D) → ¬ IsTrue (cannot_take old.core) → IsTaken batch old.core core
      → (IsCommitter disk old.committer old.core.settled None old.core.failed → IsCommitter disk c old.core.settled (Some batch) old.core.failed)
      → IsWhole disk old → IsWhole disk (record old { core = core; committer = c })
  gives_whole batch old core c can taken handed_in h =
      let some : flight_of core ≡ Some batch = in_flight core taken.some ∙ ap Some (sym taken.batch_is) in
      let settled = ap (λ (s : CoreState). s.settled) taken.only in
      let failed = ap (λ (s : CoreState). s.failed) taken.only in
      rw (settled, some, failed) (handed_in (rw (can_take_none old.core can) at h))

  -- it settles the batch of a receipt
  pub settled_whole : (receipt : Receipt) (old : DurableCore D) (core : CoreState) (c : Committer D) → IsFlight (held_batch receipt) old.core → core ≡ after_publish old.core
      → IsCommitter disk c (state_after_flight old.core.settled (flight_of old.core)) None old.core.failed → IsWhole disk (record old { core = core; committer = c })
  settled_whole receipt old core c flight is h =
      subst (λ (s : CoreState). IsWhole disk (record old { core = s; committer = c })) (sym is) (rw (in_flight old.core flight.0) at h)
