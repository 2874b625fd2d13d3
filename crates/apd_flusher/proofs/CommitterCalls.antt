-- That a flusher stands at its own tables after each call of a committer, and what a stop then shows.
use Rattle.std.proofs.Common.{◌≡◌, ◌⊎◌, inl, inr, ⊎_elim, ℕ, List, Bool, Option, Some, None, Result, Ok, Err, refl, sym, ap, subst}
use Rattle.std.specs.Prelude.{◌≢◌, ◌↔◌, IsSome, OnSome}
use Rattle.std.proofs.lemmas.Bool.{false≢true}
use Rattle.apd_base.specs.State.{State}
use Rattle.apd_disk.specs.Disk.{DiskModel}
use Rattle.apd_journal.specs.declared.batch.Batch.{Batch}
use Rattle.apd_record.specs.Meaning.{meaning_of}
use Rattle.apd_store.specs.Commit.{IsIdle}
use Rattle.apd_store.specs.Image.{Shows}
use Rattle.apd_store.specs.declared.fault.StoreFault.{StoreFault}
use Rattle.apd_store.specs.declared.store.Receipt.{Receipt}
use Rattle.apd_store.specs.declared.store.Store.{Store}
use Rattle.apd_flusher.specs.Committing.{IsDurable, IsInStep, IsUnderWay, IsWaiting, ShowsEither, state_after_flight}
use Rattle.apd_flusher.specs.Flushing.{IsFlushing, IsInside, IsSteady, IsStuck, Stands, StopShows}
use Rattle.apd_flusher.specs.Handing.{Keeps}
use Rattle.apd_flusher.specs.Loading.{IsLoaded, IsNotLoaded}
use Rattle.apd_flusher.specs.Outside.{calls_left, flusher_device, flusher_of, next_of, phase_of, table_of, waiting_receipt}
use Rattle.apd_flusher.specs.Phases.{phase_from}
use Rattle.apd_flusher.specs.Turning.{IsTurnBetween, IsTurn}
use Rattle.apd_flusher.specs.declared.committer.Committer.{Committer}
use Rattle.apd_flusher.specs.declared.flusher.Flusher.{Flusher}
use Rattle.apd_flusher.specs.declared.phase.Phase.{Phase}
use Rattle.apd_flusher.specs.declared.phase.Phase.TheVariants.{Idle, Busy, Done, Failed}
use Rattle.apd_flusher.proofs.Turns.{under_way}

-- what is not both
idle_busy : {A : Type 0} (p : Phase) → p ≡ Idle → p ≡ Busy → A
idle_busy p is also = cc

idle_done : {A : Type 0} (p : Phase) → p ≡ Idle → p ≡ Done → A
idle_done p is also = cc

failed_idle : {A : Type 0} (p : Phase) → p ≡ Failed → p ≡ Idle → A
failed_idle p is also = cc

failed_busy : {A : Type 0} (p : Phase) → p ≡ Failed → p ≡ Busy → A
failed_busy p is also = cc

failed_done : {A : Type 0} (p : Phase) → p ≡ Failed → p ≡ Done → A
failed_done p is also = cc

none_not_some : {A B : Type 0} (o : Option A) → o ≡ None → IsSome o → B
none_not_some {A = A} o none some = absurd (subst (λ (z : Option A). IsSome z → ⊥) (sym none) (λ h. false≢true h) some)

module _ {D : Type 0} (disk : DiskModel D) where
  -- at its own tables
  abbrev StandsThere : Flusher D → Type 0
  StandsThere f = Stands disk f (table_of f) (next_of f)

  there_same : (f g : Flusher D) → g ≡ f → StandsThere f → StandsThere g
  there_same f g same stands = subst StandsThere (sym same) stands

  there_steady : (f : Flusher D) (s : State) → table_of f ≡ s → IsSteady disk f s → StandsThere f
  there_steady f s table steady = inl (subst (λ (z : State). IsSteady disk f z) (sym table) steady)

  -- one call after another
  pub keeps_then : (old mid new : Committer D) → Keeps disk old mid → Keeps disk mid new → Keeps disk old new
  keeps_then old mid new first second = record {
    inside = λ h. second.inside (first.inside h);
    honest = (λ h. second.honest.0 (first.honest.0 h), λ h. first.honest.1 (second.honest.1 h));
    imaged = λ h. second.imaged (first.imaged h);
  }

  -- a call that leaves the device
  keeps_beside : (old new : Committer D) → flusher_device (flusher_of new) ≡ flusher_device (flusher_of old) → (IsInside disk (flusher_of old) → IsInside disk (flusher_of new))
      → (StandsThere (flusher_of old) → StandsThere (flusher_of new)) → Keeps disk old new
  keeps_beside old new device inside stands = record {
    inside = inside;
    honest = (λ h. subst disk.honest (sym device) h, λ h. subst disk.honest device h);
    imaged = λ imaged. record { honest = subst disk.honest (sym device) imaged.honest; stands = stands imaged.stands };
  }

  -- ---- loading
  idle_or_not : (f : Flusher D) → StandsThere f → IsSteady disk f (table_of f) ⊎ (phase_of f ≢ Idle)
  idle_or_not f stands =
      ⊎_elim
      (λ steady. inl steady)
      (⊎_elim
      (λ flushing. inr (λ idle. ⊎_elim
      (λ busy. idle_busy (phase_of f) idle busy)
      (λ done. idle_done (phase_of f) idle (ap phase_from done))
      (under_way disk f (table_of f) (next_of f) flushing.committing)))
      (λ stuck. inr (λ idle. failed_idle (phase_of f) (ap phase_from stuck.phase) idle)))
      stands

  loaded_there : (batch : Batch) (f g : Flusher D) → IsLoaded batch f g → IsFlushing disk g (table_of f) (meaning_of batch.changes (table_of f)) → StandsThere g
  loaded_there batch f g loaded flushing =
      inr (inl (subst (λ (z : State). IsFlushing disk g z (next_of g)) (sym loaded.table) (subst (λ (z : State). IsFlushing disk g (table_of f) z) (sym loaded.next) flushing)))

  pub loaded_keeps : (batch : Batch) (old new : Committer D) → IsLoaded batch (flusher_of old) (flusher_of new)
      → ((s : State) → IsSteady disk (flusher_of old) s → IsFlushing disk (flusher_of new) s (meaning_of batch.changes s))
      → flusher_device (flusher_of new) ≡ flusher_device (flusher_of old) → (IsInside disk (flusher_of old) → IsInside disk (flusher_of new)) → Keeps disk old new
  loaded_keeps batch old new loaded flushing device inside =
      let f = flusher_of old in
      keeps_beside old new device inside
      (λ stands. ⊎_elim (λ steady. loaded_there batch f (flusher_of new) loaded (flushing (table_of f) steady)) (λ other. absurd (other loaded.was_idle)) (idle_or_not f stands))

  pub refused_keeps : (fault : StoreFault) (batch : Batch) (old new : Committer D) → IsNotLoaded fault batch (flusher_of old) (flusher_of new)
      → (phase_of (flusher_of old) ≢ Idle → flusher_of new ≡ flusher_of old)
      → flusher_device (flusher_of new) ≡ flusher_device (flusher_of old) → (IsInside disk (flusher_of old) → IsInside disk (flusher_of new)) → Keeps disk old new
  refused_keeps fault batch old new refused rest device inside =
      let f = flusher_of old in
      let g = flusher_of new in
      keeps_beside old new device inside
      (λ stands. ⊎_elim
      (λ steady. there_steady g (table_of f) refused.table (record { idle = subst (λ (z : Store D). IsIdle disk z (table_of f)) (sym refused.stays) steady.idle; table = refused.table }))
      (λ other. there_same f g (rest other) stands) (idle_or_not f stands))

  -- ---- a turn
  turned_there : (r : Result (Unit {0}) StoreFault) (f g : Flusher D) → disk.honest (flusher_device f) → IsTurn disk f g
      → IsTurnBetween disk (table_of f) (next_of f) r f g → IsFlushing disk f (table_of f) (next_of f) → StandsThere g
  turned_there (Ok _) f g honest turn between flushing =
      inr (inl (subst (λ (z : State). IsFlushing disk g z (next_of g)) (sym turn.table) (subst (λ (z : State). IsFlushing disk g (table_of f) z) (sym turn.next) (between.on honest flushing))))
  turned_there (Err fault) f g honest turn between flushing =
      inr (inr (subst (λ (z : State). IsStuck disk g z (next_of g)) (sym turn.table) (subst (λ (z : State). IsStuck disk g (table_of f) z) (sym turn.next) (between.stuck honest flushing))))

  turn_stands : (r : Result (Unit {0}) StoreFault) (f g : Flusher D) → disk.honest (flusher_device f) → IsTurn disk f g
      → IsTurnBetween disk (table_of f) (next_of f) r f g → StandsThere f → StandsThere g
  turn_stands r f g honest turn between stands =
      ⊎_elim
      (λ steady. there_same f g (turn.rest (λ busy. idle_busy (phase_of f) (ap phase_from steady.idle.phase) busy)) stands)
      (⊎_elim
      (λ flushing. turned_there r f g honest turn between flushing)
      (λ stuck. there_same f g (turn.rest (λ busy. failed_busy (phase_of f) (ap phase_from stuck.phase) busy)) stands))
      stands

  pub turn_keeps : (r : Result (Unit {0}) StoreFault) (old new : Committer D) → IsTurn disk (flusher_of old) (flusher_of new)
      → ((s t : State) → IsTurnBetween disk s t r (flusher_of old) (flusher_of new)) → Keeps disk old new
  turn_keeps r old new turn between =
      let f = flusher_of old in
      record {
        inside = turn.inside;
        honest = turn.stays_honest;
        imaged = λ imaged. record {
          honest = turn.stays_honest.0 imaged.honest;
          stands = turn_stands r f (flusher_of new) imaged.honest turn (between (table_of f) (next_of f)) imaged.stands;
        };
      }

  -- ---- a receipt
  done_flushing : (f : Flusher D) → phase_of f ≡ Done → StandsThere f → IsFlushing disk f (table_of f) (next_of f)
  done_flushing f done stands =
      ⊎_elim
      (λ steady. idle_done (phase_of f) (ap phase_from steady.idle.phase) done)
      (⊎_elim (λ flushing. flushing) (λ stuck. failed_done (phase_of f) (ap phase_from stuck.phase) done))
      stands

  unload_stands : (o : Option Receipt) (f g : Flusher D) → (IsSome o ↔ (phase_of f ≡ Done)) → ((s t : State) → IsFlushing disk f s t → OnSome o (IsSteady disk g t))
      → OnSome o (table_of g ≡ next_of f) → (phase_of f ≢ Done → g ≡ f) → StandsThere f → StandsThere g
  unload_stands (Some receipt) f g exactly settled table none stands =
      there_steady g (next_of f) table (settled (table_of f) (next_of f) (done_flushing f (exactly.0 refl) stands))
  unload_stands None f g exactly settled table none stands = there_same f g (none (λ done. false≢true (exactly.1 done))) stands

  pub unload_keeps : (o : Option Receipt) (old new : Committer D) → (IsSome o ↔ (phase_of (flusher_of old) ≡ Done))
      → ((s t : State) → IsFlushing disk (flusher_of old) s t → OnSome o (IsSteady disk (flusher_of new) t)) → OnSome o (table_of (flusher_of new) ≡ next_of (flusher_of old))
      → (phase_of (flusher_of old) ≢ Done → flusher_of new ≡ flusher_of old) → flusher_device (flusher_of new) ≡ flusher_device (flusher_of old) → (IsInside disk (flusher_of old) → IsInside disk (flusher_of new)) → Keeps disk old new
  unload_keeps o old new exactly settled table none device inside =
      keeps_beside old new device inside (unload_stands o (flusher_of old) (flusher_of new) exactly settled table none)

-- ---- what a stop shows
stop_either : (p : Phase) (calls : ℕ) (s t : State) (image : List ℕ) → StopShows p calls s t image → Shows image s ⊎ Shows image t
stop_either Idle calls s t image h = inl h
stop_either Busy calls s t image h = ⊎_elim (λ a. inl a) (λ b. inr b.1) h
stop_either Done calls s t image h = inr h
stop_either Failed calls s t image h = h

module _ {D : Type 0} (c : Committer D) (image : List ℕ) where
  abbrev ShowsAt : Phase → Type 0
  ShowsAt p = StopShows p (calls_left (flusher_of c)) (table_of (flusher_of c)) (next_of (flusher_of c)) image

  abbrev ShowsTables : Type 0
  ShowsTables = ShowsAt (phase_of (flusher_of c))

  idle_shows : (s : State) → phase_of (flusher_of c) ≡ Idle → table_of (flusher_of c) ≡ s → ShowsTables → Shows image s
  idle_shows s idle table shows = subst (Shows image) table (subst ShowsAt idle shows)

  pub shows_either : (s : State) (flight : Option Batch) (failed : Bool) → IsInStep c s flight failed → ShowsTables → ShowsEither s flight image
  shows_either s None failed between shows = inl (idle_shows s between.idle between.table shows)
  shows_either s (Some b) failed h shows =
      ⊎_elim
      (λ (w : IsWaiting c s b). inl (idle_shows s w.idle w.table shows))
      (⊎_elim
      (λ (w : IsUnderWay c s b failed). ⊎_elim (λ a. inl (subst (Shows image) w.table a)) (λ a. inr (subst (Shows image) w.next a))
      (stop_either (phase_of (flusher_of c)) (calls_left (flusher_of c)) (table_of (flusher_of c)) (next_of (flusher_of c)) image shows))
      (λ (w : IsDurable c s b). inr (idle_shows (meaning_of b.changes s) w.idle w.table shows)))
      h

  -- once the last call of a batch has succeeded
  pub shows_after : (s : State) (flight : Option Batch) (failed : Bool) → IsInStep c s flight failed → (phase_of (flusher_of c) ≡ Done) ⊎ IsSome (waiting_receipt c) → ShowsTables → Shows image (state_after_flight s flight)
  shows_after s None failed between late shows = idle_shows s between.idle between.table shows
  shows_after s (Some b) failed h late shows =
      ⊎_elim
      (λ (w : IsWaiting c s b). ⊎_elim (λ done. idle_done (phase_of (flusher_of c)) w.idle done) (λ some. none_not_some (waiting_receipt c) w.receipt some) late)
      (⊎_elim
      (λ (w : IsUnderWay c s b failed). ⊎_elim (λ done. subst (Shows image) w.next (subst ShowsAt done shows)) (λ some. none_not_some (waiting_receipt c) w.receipt some) late)
      (λ (w : IsDurable c s b). idle_shows (meaning_of b.changes s) w.idle w.table shows))
      h
