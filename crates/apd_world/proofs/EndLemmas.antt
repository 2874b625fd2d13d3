-- What ends a start or a flush early.
use Rattle.std.proofs.Common.{◌⊎◌, inl, inr, ⊎_elim, Result, Ok, Err, None, Some, true, ◌≡◌, ℕ, zero, suc, List, [], ◌∷◌, ◌++◌, refl, sym, ap, subst, ◌∙◌, arith}
use Rattle.std.specs.List.{All}
use Rattle.std.specs.Option.{unwrap_or}
use Rattle.std.specs.Prelude.{IfErr, IsErrAnd, OnErr, OnOk, replicate}
use Rattle.std.proofs.lemmas.List.Elements.{All-cons, All-nil}
use Rattle.std.proofs.lemmas.Result.{IfErr-weaker}
use Rattle.apd_world.proofs.Words.{AreMadeInTurn, AreSafelyMade, AreSettled, Call, Called, IsRoundAnswer, Commit, DiskModel, Done, DurableCore, Ends, GoesQuietly, HasEnded, HasFailedCore, HasMetNoRefusal, HasNoBatch, HasNoCall, HasNoReceipt, Idle, IsAtRest, IsEnd, IsInStep, IsNoOtherRefusal, IsNoRefusal, IsRound, IsWhole, Loaded, NoMemory, Nothing, Publish, Published, RadioModel, Step, StoreFault, Take, Tells, Told, World, WorldFault, answer_of, durable_of, flusher_of, phase_of, round, commit_of, waiting_receipt}
use Rattle.apd_store.specs.declared.fault.StoreFault.TheVariants as store_fault
use Rattle.apd_core.specs.declared.publish_fault.PublishFault.TheVariants as publish_fault
use Rattle.apd_world.specs.declared.fault.WorldFault.TheVariants as world_fault
use Rattle.apd_world.specs.declared.step.Commit.TheVariants as commit
use Rattle.apd_world.proofs.RunLemmas.{AreRounds, IsUnrefused, failures, gone_rounds, gone_then, kept, risen_since, round_more, unrefused_then}
use Rattle.apd_world.proofs.RoundLemmas.{no_call_left}
use Rattle.apd_world.proofs.Speaking.{stays_failed}
use Rattle.apd_world.proofs.DurableSteps.{can_take_none, none_some}

-- ---- an error that `?` makes
pub if_residual : {A E : Type 0} (P : E → Type 0) (r : Result A E) (e : E) → IsErrAnd r (λ x. x ≡ e) → P e → IfErr r P
if_residual P (Ok x) e is p = absurd is
if_residual P (Err x) e is p = subst P (sym is) p

-- ---- where memory is refused, no failure is told
pub memory_fails : {D R : Type 0} (fault : WorldFault) (b : World D R) → fault ≡ world_fault.NoMemory → HasFailedCore fault b
memory_fails fault b is = subst (λ (e : WorldFault). HasFailedCore e b) (sym is) tt

pub memory_fails_none : {D R A : Type 0} (r : Result A WorldFault) (b : World D R) → IfErr r (λ fault. fault ≡ world_fault.NoMemory) → IfErr r (λ fault. HasFailedCore fault b)
memory_fails_none r b = IfErr-weaker r _ _ (λ fault. memory_fails fault b)

-- the device is told as failed where the round told it
device_told : {D : Type 0} (answer : Commit) (fault : StoreFault) (w : DurableCore D) → Ends answer fault w → fault ≡ store_fault.Device → answer ≡ commit.Refused store_fault.Device
device_told (commit.Refused told) fault w ends is = ap commit.Refused (sym ends ∙ is)
device_told commit.Nothing fault w ends is = absurd (let no : store_fault.Failed ≡ store_fault.Device = sym ends.0 ∙ is in cc)
device_told commit.Foreign fault w ends is = absurd (let no : store_fault.Failed ≡ store_fault.Device = sym ends ∙ is in cc)
device_told answer fault w ends is = absurd ends

failed_core : {D : Type 0} (disk : DiskModel D) (old new : DurableCore D) (answer : Commit) → Ends answer store_fault.Failed new → IsRoundAnswer disk answer old new → (old.core.failed ≡ true → new.core.failed ≡ true) → new.core.failed ≡ true
failed_core disk old new (commit.Refused told) ends comes still = still (subst (λ (e : StoreFault). IsRoundAnswer disk (commit.Refused e) old new) (sym ends) comes)
failed_core disk old new commit.Nothing ends comes still =
    ⊎_elim still (λ none. ⊎_elim (λ fails. fails) (λ some. absurd (some (ap (λ (w : DurableCore _). w.core.unsettled) comes.0 ∙ none))) ends.1) comes.1
failed_core disk old new commit.Foreign ends comes still = absurd comes
failed_core disk old new answer ends comes still = absurd ends

-- ---- a round that comes to want of memory
module _ {D R : Type 0} (disk : DiskModel D) (radio : RadioModel R) where
  -- no call and no receipt is left, or want of memory is said
  abbrev IsShort : DurableCore D → Commit → Type 0
  IsShort w answer = (HasNoCall w × HasNoReceipt w) ⊎ (answer ≡ commit.NoMemory)

  publish_short : (t : Told) (d e : DurableCore D) → Tells Publish t d e → IsShort d (unwrap_or (commit_of t) commit.Nothing) → IsNoOtherRefusal t
  publish_short (Published (Ok x)) d e h way = inl tt
  publish_short (Published (Err publish_fault.NoMemory)) d e h way = inr refl
  publish_short (Published (Err publish_fault.Foreign)) d e h way = ⊎_elim
      (λ none. ⊎_elim (λ waits. none_some (waiting_receipt d.committer) h.0 none.1.0 waits.0) (λ given. absurd (none.1.1 given.1.done)) h.1.next)
      (λ is. absurd (let no : commit.Foreign ≡ commit.NoMemory = is in cc)) way
  publish_short Nothing d e h way = inl tt
  publish_short t d e h way = absurd h

  call_short : (t : Told) (rest : Commit) (d e : DurableCore D) → Tells Call t d e → IsShort d (unwrap_or (commit_of t) rest) → IsNoOtherRefusal t × IsShort e rest
  call_short (Called (Ok x)) rest d e h way = (inl tt, ⊎_elim (λ none. no_call_left (phase_of (flusher_of d)) none.0 h.some_call) (λ is. inr is) way)
  call_short (Called (Err fault)) rest d e h way =
      ⊎_elim (λ none. no_call_left (phase_of (flusher_of d)) none.0 h.some_call) (λ is. absurd (let no : commit.Refused fault ≡ commit.NoMemory = is in cc)) way
  call_short Nothing rest d e h way = (inl tt, subst (λ w. IsShort w rest) (sym h.1) way)
  call_short t rest d e h way = absurd h

  calls_short : (n : ℕ) (ts : List Told) (a b : World D R) → AreMadeInTurn disk radio (replicate n Call ++ Publish ∷ []) ts a b → IsShort (durable_of a) (answer_of ts) → All IsNoOtherRefusal ts
  calls_short zero (t ∷ []) a b h way =
      All-cons IsNoOtherRefusal t [] (publish_short t (durable_of a) (durable_of h.0) (subst (λ z. Tells Publish z (durable_of a) (durable_of h.0)) (sym h.1.joins.0) h.1.durable.tells) way) (All-nil IsNoOtherRefusal)
  calls_short (suc n) (t ∷ ts) a b h way =
      let one = call_short t (answer_of ts) (durable_of a) (durable_of h.0) (subst (λ z. Tells Call z (durable_of a) (durable_of h.0)) (sym h.1.joins.0) h.1.durable.tells) way in
      All-cons IsNoOtherRefusal t ts one.0 (calls_short n ts h.0 b h.3 one.1)
  calls_short zero (t ∷ ts) a b h way = absurd h.3
  calls_short n ts a b h way = absurd h

  -- a core that can give a batch has none in flight, so no call and no receipt is left
  take_short : (t : Told) (rest : Commit) (d e : DurableCore D) → Tells Take t d e → IsWhole disk d → unwrap_or (commit_of t) rest ≡ commit.NoMemory → IsNoOtherRefusal t × IsShort e rest
  take_short (Loaded (Ok x)) rest d e h whole is = (inl tt, inr is)
  take_short (Loaded (Err fault)) rest d e h whole is = absurd (let no : commit.Refused fault ≡ commit.NoMemory = is in cc)
  take_short Nothing rest d e h whole is = (inl tt, inr is)
  take_short NoMemory rest d e h whole is =
      let between : IsInStep d.committer d.core.settled None d.core.failed = subst (λ o. IsInStep d.committer d.core.settled o d.core.failed) (can_take_none d.core h.0.1) whole.in_step in
      (inl tt, subst (λ w. IsShort w rest) (sym h.1) (inl (inl between.idle, (between.receipt, λ done. let no : Idle ≡ Done = sym between.idle ∙ done in cc))))
  take_short t rest d e h whole is = absurd h

  round_short : (n : ℕ) (ts : List Told) (a b : World D R) → AreMadeInTurn disk radio (round n) ts a b → IsWhole disk (durable_of a) → commit.NoMemory ≡ answer_of ts → All IsNoOtherRefusal ts
  round_short n (t ∷ ts) a b h whole is_short =
      let one = take_short t (answer_of ts) (durable_of a) (durable_of h.0) (subst (λ z. Tells Take z (durable_of a) (durable_of h.0)) (sym h.1.joins.0) h.1.durable.tells) whole (sym is_short) in
      All-cons IsNoOtherRefusal t ts one.0 (calls_short n ts h.0 b h.3 one.1)
  round_short n ts a b h whole is_short = absurd h

module _ {D R : Type 0} (disk : DiskModel D) (radio : RadioModel R) where
  -- ---- what a last round ends
  module _ (answer : Commit) (a b c : World D R) (before : AreRounds disk radio a b) (one : IsRound disk radio answer b c) where
    pub ends_ok : GoesQuietly (durable_of b).core (durable_of c).core
        → (answer ≡ commit.Nothing → HasNoBatch (durable_of b) × HasNoCall (durable_of b) × HasNoReceipt (durable_of b) × (durable_of c ≡ durable_of b))
        → (r : Result (Unit {0}) WorldFault) → IsEnd answer (durable_of c) (Some r) → OnOk r (AreSettled disk radio a c)
    ends_ok quiet nothing (Ok x) end =
        let more = round_more disk radio answer a b c before one quiet (subst IsUnrefused (sym end.0) tt) in
        let none = nothing end.0 in
        record {
          calls = more.calls;
          tolds = more.tolds;
          none = more.none;
          made = more.made;
          settled = end.2;
          works = end.1;
          rests = subst IsAtRest (sym none.3) (record { batch = none.0; call = none.1; receipt = none.2 });
        }
    ends_ok quiet nothing (Err fault) end = tt

    pub ends_err : (r : Result (Unit {0}) WorldFault) → IsEnd answer (durable_of c) (Some r) → IfErr r (λ fault. HasEnded disk radio fault a c)
    ends_err (Ok x) end = tt
    ends_err (Err (world_fault.Store fault)) end =
        let gone = (gone_rounds disk radio a b before).gone_on in
        record { last = b; before = gone; answer = answer; round_is = one; ends = end; risen = λ is. risen_since (failures disk radio a) (failures disk radio b) (failures disk radio c) (one.risen (device_told answer fault (durable_of c) end is)) gone.made.count one.made.count }
    ends_err (Err (world_fault.Slot at fault)) end = absurd end
    ends_err (Err world_fault.NoSlot) end = absurd end
    ends_err (Err world_fault.NoMemory) end =
        let last = subst (λ (x : Commit). IsRound disk radio x b c) end one in
        record { last = b; before = gone_rounds disk radio a b before; way = inr (record { round_is = last; none = λ whole. round_short disk radio last.calls last.tolds b c last.made.in_turn whole last.answer_is }) }

    -- where it is told that the store has failed, the core has
    still_fails : (durable_of b).core.failed ≡ true → (durable_of c).core.failed ≡ true
    still_fails = kept disk radio (λ w. (durable_of w).core.failed ≡ true) (λ x t v w step made. stays_failed (durable_of v) (durable_of w) x step.inside step.durable.tells) (round one.calls) one.tolds b c one.made.in_turn

    pub ends_failed : (r : Result (Unit {0}) WorldFault) → IsEnd answer (durable_of c) (Some r) → IsRoundAnswer disk answer (durable_of b) (durable_of c) → IfErr r (λ fault. HasFailedCore fault c)
    ends_failed (Err (world_fault.Store store_fault.Failed)) end comes = failed_core disk (durable_of b) (durable_of c) answer end comes still_fails
    ends_failed r end comes = tt

  -- ---- it is ended also where other steps were made before
  ended_then : (fault : WorldFault) (xs : List Step) (ts : List Told) (a b c : World D R) → AreSafelyMade disk radio xs ts a b → All IsNoRefusal ts → HasEnded disk radio fault b c → HasEnded disk radio fault a c
  ended_then (world_fault.Store fault) xs ts a b c past none h = record { last = h.last; before = gone_then disk radio xs ts a b h.last past h.before; answer = h.answer; round_is = h.round_is; ends = h.ends; risen = λ is. let later = h.before.made.count in let more = h.round_is.made.count in risen_since (failures disk radio a) (failures disk radio b) (failures disk radio c) (h.risen is) past.count (omega (arith, later, more)) }
  ended_then (world_fault.Slot at fault) xs ts a b c past none h = absurd h
  ended_then world_fault.NoSlot xs ts a b c past none h = absurd h
  ended_then world_fault.NoMemory xs ts a b c past none h = record { last = h.last; before = unrefused_then disk radio xs ts a b h.last past none h.before; way = h.way }

  pub if_ended_then : {A : Type 0} (r : Result A WorldFault) (xs : List Step) (ts : List Told) (a b c : World D R) → AreSafelyMade disk radio xs ts a b → All IsNoRefusal ts → IfErr r (λ fault. HasEnded disk radio fault b c)
      → IfErr r (λ fault. HasEnded disk radio fault a c)
  if_ended_then r xs ts a b c past none = IfErr-weaker r _ _ (λ fault. ended_then fault xs ts a b c past none)

  -- for want of memory after some steps
  pub memory_end : (fault : WorldFault) (a b : World D R) → fault ≡ world_fault.NoMemory → HasMetNoRefusal disk radio a b → HasEnded disk radio fault a b
  memory_end fault a b is gone = subst (λ (e : WorldFault). HasEnded disk radio e a b) (sym is) (record { last = b; before = gone; way = inl refl })

  pub memory_ends : {A : Type 0} (r : Result A WorldFault) (a b : World D R) → IfErr r (λ fault. fault ≡ world_fault.NoMemory) → OnErr r (HasMetNoRefusal disk radio a b) → IfErr r (λ fault. HasEnded disk radio fault a b)
  memory_ends (Ok x) a b is gone = tt
  memory_ends (Err fault) a b is gone = memory_end fault a b is gone
