-- What a stop shows of a flusher, and within one turn.
use Rattle.std.proofs.Common.{◌≡◌, ◌≢◌, ◌≤◌, ◌+◌, ◌⊎◌, inl, inr, ⊎_elim, ℕ, List, [], ◌∷◌, refl, sym, ◌∙◌, ap, subst, arith}
use Rattle.std.specs.Prelude.{◌↔◌, Result, Ok, Err, OnOk, OnErr, Option, Some, None, IsSome, OnSome}
use Rattle.std.proofs.lemmas.Bool.{false≢true}
use Rattle.apd_base.specs.State.{State}
use Rattle.apd_journal.specs.declared.batch.Batch.{Batch}
use Rattle.apd_record.specs.Meaning.{meaning_of}
use Rattle.apd_record.specs.declared.change.Change.{Change}
use Rattle.apd_disk.specs.Disk.{LeavesOnly, DiskModel}
use Rattle.apd_disk.proofs.Moments.{started}
use Rattle.apd_table.specs.Staged.{StagedTables, alone}
use Rattle.apd_store.specs.Beginning.{IsBegun}
use Rattle.apd_store.specs.Image.{Shows}
use Rattle.apd_store.specs.Commit.{AtPhase, IsIdle, IsCommitting, HasFailed, MayShow}
use Rattle.apd_store.specs.Layout.{opposite}
use Rattle.apd_store.specs.Outside.{IsInside as StoreIsInside}
use Rattle.apd_store.specs.Phases.{calls_from}
use Rattle.apd_store.specs.Switch.{AtSwitch}
use Rattle.apd_store.specs.declared.half.Half.{Half}
use Rattle.apd_store.specs.declared.phase.Phase.{Phase as StorePhase}
use Rattle.apd_store.specs.declared.phase.Phase.TheVariants.{Idle as StoreIdle, CloseOther, SyncClosed, WriteHalf, SyncHalf, OpenHalf, SyncOpened, WriteGroup, SyncGroup, OpenGate, SyncGate, Done as StoreDone, Failed as StoreFailed}
use Rattle.apd_store.specs.declared.store.Store.{Store}
use Rattle.apd_flusher.specs.Flushing.{IsSteady, IsFlushing, IsGood, Stands, StopShows}
use Rattle.apd_flusher.specs.Loading.{IsLoaded}
use Rattle.apd_flusher.specs.Outside.{flusher_device, next_of, phase_of, table_of}
use Rattle.apd_flusher.specs.Phases.{phase_from}
use Rattle.apd_flusher.specs.declared.flusher.Flusher.{Flusher}
use Rattle.apd_flusher.specs.declared.phase.Phase.{Phase}
use Rattle.apd_flusher.specs.declared.phase.Phase.TheVariants.{Idle, Busy, Done, Failed}

-- no call is left, or it is busy
pub quiet_or_busy : (phase : StorePhase) → (calls_from phase ≡ 0) ⊎ (phase_from phase ≡ Busy)
quiet_or_busy StoreIdle = inl refl
quiet_or_busy CloseOther = inr refl
quiet_or_busy SyncClosed = inr refl
quiet_or_busy WriteHalf = inr refl
quiet_or_busy SyncHalf = inr refl
quiet_or_busy OpenHalf = inr refl
quiet_or_busy SyncOpened = inr refl
quiet_or_busy WriteGroup = inr refl
quiet_or_busy SyncGroup = inr refl
quiet_or_busy OpenGate = inr refl
quiet_or_busy SyncGate = inr refl
quiet_or_busy StoreDone = inl refl
quiet_or_busy StoreFailed = inl refl

-- it is busy where a call is left
busy_of : (phase : StorePhase) → 1 ≤ calls_from phase → phase_from phase ≡ Busy
busy_of phase some = ⊎_elim (λ none. absurd (omega (arith, some, none))) (λ busy. busy) (quiet_or_busy phase)

-- a batch has no changes, or some
pub empty_or_some : (changes : List Change) → (changes ≡ []) ⊎ (changes ≢ [])
empty_or_some [] = inl refl
empty_or_some (x ∷ changes) = inr (λ is. cc)

-- the store began a batch, over the flusher's table
pub loads : {D : Type 0} (disk : DiskModel D) (batch : Batch) (table : State) (old new : Flusher D) → IsBegun disk batch table old.store new.store
    → IsGood batch.changes (table_of old) → table_of new ≡ table_of old → next_of new ≡ meaning_of batch.changes (table_of old)
    → flusher_device new ≡ flusher_device old → IsLoaded batch old new
loads disk batch table old new begun good stays next device = record {
  was_idle = ap phase_from begun.was_idle;
  done = λ empty. ap phase_from (begun.no_calls empty);
  busy = λ some. busy_of new.store.phase (let calls = begun.some_calls some in omega (arith, calls.0));
  some_calls = begun.some_calls;
  four_calls = begun.four_calls;
  batch_is = begun.batch_is;
  device = device;
  good = good;
  lasts = begun.lasts;
  table = stays;
  next = next;
}

pub on_ok_as : {T E : Type 0} (r : Result T E) (A B : Type 0) → OnOk r A → (A → B) → OnOk r B
on_ok_as (Ok t) A B a go = go a
on_ok_as (Err e) A B a go = tt

-- a switch is under way in one phase alone
busy_at : (phase : StorePhase) (side : Half) (reserved half current bytes : List ℕ) (reads : List ℕ) (images : List ℕ → Type 0)
    → AtSwitch phase side reserved half current bytes reads images → phase_from phase ≡ Busy
busy_at CloseOther side reserved half current bytes reads images at = refl
busy_at SyncClosed side reserved half current bytes reads images at = refl
busy_at WriteHalf side reserved half current bytes reads images at = refl
busy_at SyncHalf side reserved half current bytes reads images at = refl
busy_at OpenHalf side reserved half current bytes reads images at = refl
busy_at SyncOpened side reserved half current bytes reads images at = refl
busy_at StoreIdle side reserved half current bytes reads images at = absurd at
busy_at WriteGroup side reserved half current bytes reads images at = absurd at
busy_at SyncGroup side reserved half current bytes reads images at = absurd at
busy_at OpenGate side reserved half current bytes reads images at = absurd at
busy_at SyncGate side reserved half current bytes reads images at = absurd at
busy_at StoreDone side reserved half current bytes reads images at = absurd at
busy_at StoreFailed side reserved half current bytes reads images at = absurd at

-- a group in two alone
busy_or_done : (phase : StorePhase) (side : Half) (reserved half other : List ℕ) (gate : ℕ) (group : List Change) (reads : List ℕ) (images : List ℕ → Type 0)
    → AtPhase phase side reserved half other gate group reads images → (phase_from phase ≡ Busy) ⊎ (phase ≡ StoreDone)
busy_or_done StoreIdle side reserved half other gate group reads images at = absurd at
busy_or_done CloseOther side reserved half other gate group reads images at = absurd at
busy_or_done SyncClosed side reserved half other gate group reads images at = absurd at
busy_or_done WriteHalf side reserved half other gate group reads images at = absurd at
busy_or_done SyncHalf side reserved half other gate group reads images at = absurd at
busy_or_done OpenHalf side reserved half other gate group reads images at = absurd at
busy_or_done SyncOpened side reserved half other gate group reads images at = absurd at
busy_or_done WriteGroup side reserved half other gate group reads images at = inl refl
busy_or_done SyncGroup side reserved half other gate group reads images at = inl refl
busy_or_done OpenGate side reserved half other gate group reads images at = inl refl
busy_or_done SyncGate side reserved half other gate group reads images at = inl refl
busy_or_done StoreDone side reserved half other gate group reads images at = inr refl
busy_or_done StoreFailed side reserved half other gate group reads images at = absurd at

module _ {D : Type 0} (disk : DiskModel D) (flusher : Flusher D) (state after : State) where
  abbrev store : Store D
  store = flusher.store

  pub under_way : IsCommitting disk flusher.store state after → (phase_from flusher.store.phase ≡ Busy) ⊎ (flusher.store.phase ≡ StoreDone)
  under_way s = ⊎_elim
      (λ switching. inl (busy_at store.phase (opposite store.half) switching.reserved switching.other switching.half store.fresh.bytes (disk.reads store.device) (disk.may_leave store.device) switching.at))
      (⊎_elim
      (λ writing. busy_or_done store.phase store.half writing.reserved writing.half writing.other store.gate store.batch.changes (disk.reads store.device) (disk.may_leave store.device) writing.at)
      (λ none. inr none.phase)) s

  -- what the store tells of one image, as the flusher tells it
  pub shows : (c : List ℕ) → (IsIdle disk flusher.store state → Shows c state) → (IsCommitting disk flusher.store state after → MayShow (calls_from flusher.store.phase) state after c)
      → (IsCommitting disk flusher.store state after → flusher.store.phase ≡ StoreDone → Shows c after) → (HasFailed disk flusher.store state after → Shows c state ⊎ Shows c after)
      → Stands disk flusher state after → StopShows (phase_from flusher.store.phase) (calls_from flusher.store.phase) state after c
  shows c idle way done stuck stands = ⊎_elim
      (λ steady. subst (λ (p : StorePhase). StopShows (phase_from p) (calls_from p) state after c) (sym steady.idle.phase) (idle steady.idle))
      (λ late. ⊎_elim
      (λ flushing. ⊎_elim
      (λ busy. subst (λ (p : Phase). StopShows p (calls_from store.phase) state after c) (sym busy) (way flushing.committing))
      (λ is. subst (λ (p : StorePhase). StopShows (phase_from p) (calls_from p) state after c) (sym is) (done flushing.committing is))
      (under_way flushing.committing))
      (λ failed. subst (λ (p : StorePhase). StopShows (phase_from p) (calls_from p) state after c) (sym failed.phase) (stuck failed))
      late)
      stands

  -- of a busy flusher a batch is under way
  committing : phase_from flusher.store.phase ≡ Busy → Stands disk flusher state after → IsCommitting disk flusher.store state after
  committing busy stands = ⊎_elim
      (λ steady. let no : Idle ≡ Busy = ap phase_from (sym steady.idle.phase) ∙ busy in absurd (cc))
      (λ late. ⊎_elim (λ flushing. flushing.committing) (λ failed. let no : Failed ≡ Busy = ap phase_from (sym failed.phase) ∙ busy in absurd (cc)) late)
      stands

  -- one turn
  pub turn_run : (now : Store D) → Stands disk flusher state after
      → ((c : List ℕ) → disk.left_since flusher.store.device (disk.moment flusher.store.device) c → StopShows (phase_from flusher.store.phase) (calls_from flusher.store.phase) state after c)
      → (calls_from flusher.store.phase ≡ 0 → now ≡ flusher.store)
      → (IsCommitting disk flusher.store state after → LeavesOnly disk flusher.store.device now.device (MayShow (calls_from flusher.store.phase) state after))
      → LeavesOnly disk flusher.store.device now.device (StopShows (phase_from flusher.store.phase) (calls_from flusher.store.phase) state after)
  turn_run now stands here rest run =
      let P = StopShows (phase_from store.phase) (calls_from store.phase) state after in
      ⊎_elim
      (λ none. subst (λ (s : Store D). LeavesOnly disk store.device s.device P) (sym (rest none)) (started disk store.device P here))
      (λ busy. subst (λ (p : Phase). LeavesOnly disk store.device now.device (StopShows p (calls_from store.phase) state after)) (sym busy) (run (committing busy stands)))
      (quiet_or_busy store.phase)

-- the receipt is taken
pub settles : {D : Type 0} (disk : DiskModel D) (old now : Flusher D)
    → ((state after : State) → IsCommitting disk old.store state after → IsIdle disk now.store after) → now.tables ≡ alone old.tables.staged
    → (state after : State) → IsFlushing disk old state after → IsSteady disk now after
settles disk old now settled tables state after s = record { idle = settled state after s.committing; table = ap (λ (t : StagedTables). t.table) tables ∙ s.next }

-- of a receipt that is there, in an answer that hands it out
pub some_to_ok : {T E : Type 0} (o : Option T) (r : Result T E) (Q : Type 0) → IsSome o → OnSome o Q → OnOk r Q
some_to_ok (Some t) (Ok u) Q is q = q
some_to_ok (Some t) (Err e) Q is q = tt
some_to_ok None r Q is q = absurd (false≢true is)

-- what is so is so where a result is a fault
pub on_fault : {T E : Type 0} (r : Result T E) (Q : Type 0) → Q → OnErr r Q
on_fault (Ok t) Q q = tt
on_fault (Err e) Q q = q

-- ---- turns one after another, as long as it is busy

pub record Turned {D : Type 0} (disk : DiskModel D) (old now : Flusher D) : Type 0 where
  pub flushing : (state after : State) → disk.honest old.store.device → IsFlushing disk old state after → IsFlushing disk now state after
  pub batch : now.store.batch ≡ old.store.batch
  pub inside : StoreIsInside disk old.store → StoreIsInside disk now.store
  pub stays : disk.honest old.store.device ↔ disk.honest now.store.device
  pub calls : disk.honest old.store.device → disk.moment now.store.device + calls_from now.store.phase ≤ disk.moment old.store.device + calls_from old.store.phase
  pub count : disk.failed now.store.device ≡ disk.failed old.store.device
  pub phase : (phase_of now ≡ Busy) ⊎ (phase_of now ≡ Done)
  pub rest : phase_of old ≡ Done → now ≡ old

pub turned_none : {D : Type 0} (disk : DiskModel D) (now : Flusher D) → (phase_of now ≡ Busy) ⊎ (phase_of now ≡ Done)
    → Turned disk now now
turned_none disk now phase = record {
  flushing = λ state after h s. s;
  batch = refl;
  inside = λ i. i;
  stays = (λ h. h, λ h. h);
  calls = λ h. omega arith;
  count = refl;
  phase = phase;
  rest = λ done. refl;
}

-- and one more
pub turned_more : {D : Type 0} (disk : DiskModel D) (old now next : Flusher D)
    → Turned disk old now → phase_of now ≡ Busy
    → ((state after : State) → disk.honest now.store.device → IsFlushing disk now state after → IsFlushing disk next state after)
    → next.store.batch ≡ now.store.batch → (StoreIsInside disk now.store → StoreIsInside disk next.store) → (disk.honest now.store.device ↔ disk.honest next.store.device)
    → (disk.honest now.store.device → disk.moment next.store.device ≤ disk.moment now.store.device + 1) → calls_from next.store.phase + 1 ≡ calls_from now.store.phase
    → disk.failed next.store.device ≡ disk.failed now.store.device → (phase_of next ≡ Busy) ⊎ (phase_of next ≡ Done) → Turned disk old next
turned_more disk old now next turned busy on batch inside stays one step count phase = record {
  flushing = λ state after h s. on state after (turned.stays.0 h) (turned.flushing state after h s);
  batch = batch ∙ turned.batch;
  inside = λ i. inside (turned.inside i);
  stays = (λ h. stays.0 (turned.stays.0 h), λ h. turned.stays.1 (stays.1 h));
  calls = λ h. omega (arith, turned.calls h, one (turned.stays.0 h), step);
  count = count ∙ turned.count;
  phase = phase;
  rest = λ done. let no : Busy ≡ Done = sym busy ∙ ap phase_of (turned.rest done) ∙ done in absurd (cc);
}
