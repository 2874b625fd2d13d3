-- How a round of steps goes, and what it comes to.
use Rattle.std.proofs.Common.{◌≡◌, ℕ, zero, suc, ◌+◌, ◌<◌, ◌≤◌, Bool, true, false, List, [], ◌∷◌, ◌++◌, length, Option, Some, None, ◌⊎◌, inl, inr, ⊎_elim, refl, sym, ap, subst, ◌∙◌, arith, append_assoc, Ok, Err}
use Rattle.std.proofs.lemmas.Bool.{false≢true, lt-leb, ne_eqb}
use Rattle.std.specs.Prelude.{⊤, ◌≢◌, IsTrue, is_some, not, replicate, nat_le, ◌||◌, ◌==◌}
use Rattle.std.specs.Option.{option_or, unwrap_or}
use Rattle.std.proofs.lemmas.List.{replicate_more}
use Rattle.apd_world.proofs.Words.{AreMadeInTurn, AreSafelyMade, Batch, Busy, Call, Called, Change, IsRoundAnswer, Commit, Commits, Committer, CoreState, DiskModel, Done, DurableCore, Failed, Flusher, GoesQuietly, HasNoBatch, HasNoCall, HasNoChangesNext, HasNoReceipt, HasRisen, HasRoomForNext, Idle, IsCalled, IsDurable, IsFlight, IsGood, IsInStep, IsNext, IsPublished, IsRound, IsSafeAtBoth, IsStepMade, IsTakenUp, IsUnderWay, IsWaiting, IsWhole, IsWorldStep, Loaded, NoMemory, Nothing, Phase, Publish, Published, RadioModel, Receipt, RestStays, State, Step, Store, StoreFault, Take, Tells, Told, World, answer_of, calls_left, device_of, durable_of, flight_of, flusher_of, held_batch, phase_of, round, commit_of, waiting_batch, waiting_receipt}
use Rattle.apd_store.specs.Outside.{store_device}
use Rattle.apd_store.specs.Phases.{calls_from}
use Rattle.apd_store.specs.declared.fault.StoreFault.TheVariants as store_fault
use Rattle.apd_store.specs.declared.phase.Phase.{Phase as StorePhase}
use Rattle.apd_store.specs.declared.phase.Phase.TheVariants as store_phase
use Rattle.apd_core.specs.declared.publish_fault.PublishFault.TheVariants as publish_fault
use Rattle.apd_flusher.proofs.Turns.{empty_or_some, quiet_or_busy}
use Rattle.apd_flusher.specs.Handing.{HasNoReceipt as HasNone, IsNextReceipt}
use Rattle.apd_flusher.specs.Loading.{IsNotLoaded}
use Rattle.apd_flusher.specs.Outside.{flusher_of as flusher_in, table_of}
use Rattle.apd_flusher.specs.Phases.{phase_from}
use Rattle.apd_world.specs.declared.step.Commit.TheVariants as commit
use Rattle.apd_world.proofs.Goings.{quiet_then}
use Rattle.apd_world.proofs.RunLemmas.{made_then, one_made, risen_since}
use Rattle.apd_world.proofs.DurableSteps.{is_flight, none_flies, none_some}
use Rattle.apd_world.proofs.Speaking.{after_call, called_core, next_core, taken_next}

-- ---- what is said
-- each in turn
pub first_said : (a b c : Option Commit) (n : Commit) → unwrap_or (option_or (option_or a b) c) n ≡ unwrap_or a (unwrap_or b (unwrap_or c n))
first_said (Some x) b c n = refl
first_said None (Some y) c n = refl
first_said None None c n = refl

-- a step more
pub said_more : (tolds : List Told) (told : Told) (called : Option Commit) → called ≡ None → ((rest : List Told) → answer_of (tolds ++ rest) ≡ unwrap_or called (answer_of rest))
    → (rest : List Told) → answer_of ((tolds ++ told ∷ []) ++ rest) ≡ unwrap_or (commit_of told) (answer_of rest)
said_more tolds told called none says rest = ap answer_of (append_assoc tolds (told ∷ []) rest) ∙ says (told ∷ rest) ∙ ap (λ o. unwrap_or o (answer_of (told ∷ rest))) none

-- ---- phases, and how many calls are left
few_from : (p : StorePhase) → calls_from p ≤ 10
few_from store_phase.Idle = omega arith
few_from p = omega arith

pub busy_or_failed_not_idle : {A : Type 0} (p : Phase) → p ≡ Idle → (p ≡ Busy) ⊎ (p ≡ Failed) → A
busy_or_failed_not_idle p idle some = ⊎_elim (λ busy. (cc)) (λ failed. (cc)) some

busy_or_failed_not_done : {A : Type 0} (p : Phase) → p ≡ Done → (p ≡ Busy) ⊎ (p ≡ Failed) → A
busy_or_failed_not_done p is some = ⊎_elim (λ busy. (cc)) (λ failed. (cc)) some

pub no_call_left : {A : Type 0} (p : Phase) → (p ≡ Idle) ⊎ (p ≡ Done) → (p ≡ Busy) ⊎ (p ≡ Failed) → A
no_call_left p none some = ⊎_elim (λ idle. busy_or_failed_not_idle p idle some) (λ is. busy_or_failed_not_done p is some) none

busy_not_failed : {A : Type 0} (p : Phase) → p ≡ Busy → p ≡ Failed → A
busy_not_failed p busy failed = cc

-- ---- where a committer stands
module _ {D : Type 0} (c : Committer D) (s : State) (failed : Bool) where
  abbrev own_phase : Phase
  own_phase = phase_of (flusher_in c)

  waits_for : (flight : Option Batch) (batch : Batch) → waiting_batch c ≡ Some batch → IsInStep c s flight failed → IsWaiting c s batch
  waits_for None batch waits h = none_some (waiting_batch c) batch h.batch waits
  waits_for (Some b) batch waits h = ⊎_elim
      (λ (w : IsWaiting c s b). let own : b ≡ batch = (let both : Some b ≡ Some batch = sym w.waits ∙ waits in cc) in subst (λ z. IsWaiting c s z) own w)
      (⊎_elim (λ (w : IsUnderWay c s b failed). none_some (waiting_batch c) batch w.none waits) (λ (w : IsDurable c s b). none_some (waiting_batch c) batch w.none waits))
      h

  receipt_of_flight : (flight : Option Batch) (receipt : Receipt) → waiting_receipt c ≡ Some receipt → IsInStep c s flight failed → flight ≡ Some (held_batch receipt)
  receipt_of_flight None receipt kept h = none_some (waiting_receipt c) receipt h.receipt kept
  receipt_of_flight (Some b) receipt kept h = ⊎_elim
      (λ (w : IsWaiting c s b). none_some (waiting_receipt c) receipt w.receipt kept)
      (⊎_elim (λ (w : IsUnderWay c s b failed). none_some (waiting_receipt c) receipt w.receipt kept)
      (λ (w : IsDurable c s b). let own : w.given ≡ receipt = (let both : Some w.given ≡ Some receipt = sym w.receipt ∙ kept in cc) in ap Some (sym w.of_batch ∙ ap held_batch own)))
      h

  failed_too : (flight : Option Batch) → own_phase ≡ Failed → IsInStep c s flight failed → failed ≡ true
  failed_too None was h = busy_or_failed_not_idle own_phase h.idle (inr was)
  failed_too (Some b) was h = ⊎_elim
      (λ (w : IsWaiting c s b). busy_or_failed_not_idle own_phase w.idle (inr was))
      (⊎_elim (λ (w : IsUnderWay c s b failed). ⊎_elim (λ busy. busy_not_failed own_phase busy was) (λ late. ⊎_elim (λ is. busy_or_failed_not_done own_phase is (inr was)) (λ so. so.1) late) w.phase)
      (λ (w : IsDurable c s b). busy_or_failed_not_idle own_phase w.idle (inr was)))
      h

  none_in_flight : (flight : Option Batch) → waiting_batch c ≡ None → (own_phase ≡ Idle) ⊎ (own_phase ≡ Done) → HasNone c → IsInStep c s flight failed → flight ≡ None
  none_in_flight None free still done h = refl
  none_in_flight (Some b) free still done h = ⊎_elim
      (λ (w : IsWaiting c s b). none_some (waiting_batch c) b free w.waits)
      (⊎_elim (λ (w : IsUnderWay c s b failed). ⊎_elim (λ busy. no_call_left own_phase still (inl busy)) (λ late. ⊎_elim (λ is. absurd (done.1 is)) (λ so. no_call_left own_phase still (inr so.0)) late) w.phase)
      (λ (w : IsDurable c s b). none_some (waiting_receipt c) w.given done.0 w.receipt))
      h

none_taken : (fails : Bool) (flight : ℕ) (entries : List (List Change)) → flight ≡ 0 → IsTrue (fails || (nat_le 1 flight || (length entries == 0))) → (fails ≡ true) ⊎ (entries ≡ [])
none_taken true flight entries none cannot = inl refl
none_taken false flight [] none cannot = inr refl
none_taken false flight (x ∷ entries) none cannot =
    let few : flight < 1 = omega (arith, none) in
    let some : (length (x ∷ entries) == 0) ≡ false = ne_eqb (length (x ∷ entries)) 0 (λ e. absurd (omega (arith, e))) in
    absurd (false≢true (sym (λ i. lt-leb 1 flight few i || some i) ∙ cannot))

-- what a test says of an option
pub none_when : {A : Type 0} (o : Option A) (b : Bool) → is_some o ≡ not b → b ≡ true → o ≡ None
none_when None b is test = refl
none_when (Some x) b is test = absurd (false≢true (sym (is ∙ ap not test)))

pub some_when : {A B : Type 0} (o : Option A) (b : Bool) → is_some o ≡ not b → b ≡ false → o ≡ None → B
some_when None b is test none = absurd (false≢true (is ∙ ap not test))
some_when (Some x) b is test none = absurd (let wrong : Some x ≡ None = none in cc)

-- what is left of the calls of a round, where none was refused
abbrev pub left_by : Option Commit → ℕ → ℕ
left_by None calls = calls + 1
left_by (Some answer) calls = 0

-- no batch is refused as by a device that failed
never_device : {D : Type 0} (fault : StoreFault) (batch : Batch) (old new : Flusher D) → IsNotLoaded fault batch old new → fault ≢ store_fault.Device
never_device fault batch old new h is = ⊎_elim (λ x. cc) (⊎_elim (λ x. cc) (⊎_elim (λ x. cc) (⊎_elim (λ x. cc) (λ x. cc)))) h.few

-- ---- the calls of a round
module _ {D : Type 0} (disk : DiskModel D) where
  abbrev Whole : DurableCore D → Type 0
  Whole w = IsWhole disk w

  abbrev phase_in : DurableCore D → Phase
  phase_in w = phase_of (flusher_of w)

  -- so many calls were made, and none was refused
  pub record AreMade (calls : ℕ) (start now : DurableCore D) : Type 0 where
    pub core : now.core ≡ start.core
    pub left : calls + calls_left (flusher_of now) ≡ calls_left (flusher_of start)
    pub way : (now ≡ start) ⊎ ((phase_in start ≡ Busy) × ((phase_in now ≡ Busy) ⊎ (phase_in now ≡ Done)))

  -- the last of them was
  pub record IsRefusedFor (fault : StoreFault) (calls : ℕ) (old start now : DurableCore D) : Type 0 where
    pub few : calls ≤ 10
    pub some : (phase_in start ≡ Busy) ⊎ (phase_in start ≡ Failed)
    pub within : phase_in start ≡ Busy → calls ≤ calls_left (flusher_of start)
    pub kind : (fault ≡ store_fault.Device) ⊎ (fault ≡ store_fault.Failed)
    pub risen : fault ≡ store_fault.Device → HasRisen (disk.failed (device_of old)) (disk.failed (device_of now))
    pub same : fault ≡ store_fault.Failed → now.core ≡ start.core
    pub phase : phase_in now ≡ Failed

  pub record IsRefusedCall (answer : Commit) (calls : ℕ) (old start now : DurableCore D) : Type 0 where
    pub fault : StoreFault
    pub is : answer ≡ commit.Refused fault
    pub refused : IsRefusedFor fault calls old start now

  pub none_made : (start : DurableCore D) → AreMade 0 start start
  none_made start = record { core = refl; left = omega arith; way = inl refl }

  -- the one that is next
  module _ (calls : ℕ) (start mid new : DurableCore D) (made : AreMade calls start mid) (some : (phase_in mid ≡ Busy) ⊎ (phase_in mid ≡ Failed)) where
    was_busy : phase_in mid ≡ Busy → phase_in start ≡ Busy
    was_busy busy = ⊎_elim (λ same. sym (ap (λ (w : DurableCore D). phase_in w) same) ∙ busy) (λ way. way.0) made.way

    was_failed : phase_in mid ≡ Failed → mid ≡ start
    was_failed disk = ⊎_elim (λ same. same) (λ way. absurd (⊎_elim (λ busy. busy_not_failed (phase_in mid) busy disk) (λ is. busy_or_failed_not_done (phase_in mid) is (inr disk)) way.1)) made.way

    pub call_made : (x : Unit {0}) → IsCalled (Ok x) mid new → phase_in mid ≡ Busy → AreMade (calls + 1) start new
    call_made x h busy =
        let one = h.tells.0 in
        let l = made.left in
        record {
          core = called_core (Ok x) mid new h ∙ made.core;
          left = omega (arith, one, l);
          way = inr (was_busy busy, h.tells.2);
        }

    pub call_refused : (fault : StoreFault) (old : DurableCore D) → IsCalled (Err fault) mid new → disk.failed (device_of old) ≤ disk.failed (device_of mid) → disk.failed (device_of mid) ≤ disk.failed (device_of new)
        → (fault ≡ store_fault.Device → HasRisen (disk.failed (device_of mid)) (disk.failed (device_of new))) → (phase_in mid ≡ Busy → 1 ≤ calls_left (flusher_of mid))
        → IsRefusedFor fault (calls + 1) old start new
    call_refused fault old h count later rises more =
        let l = made.left in
        let limit = few_from (flusher_of start).store.phase in
        let at_once = λ (was : phase_in mid ≡ Failed). (let same = ap (λ (w : DurableCore D). calls_left (flusher_of w)) (was_failed was) in let none : calls ≤ 0 = omega (arith, l, same) in none) in
        record {
          few = ⊎_elim (λ busy. let m = more busy in omega (arith, l, m, limit)) (λ was. let none = at_once was in omega (arith, none)) some;
          some = ⊎_elim (λ busy. inl (was_busy busy)) (λ was. inr (sym (ap (λ (w : DurableCore D). phase_in w) (was_failed was)) ∙ was)) some;
          within = λ began. ⊎_elim (λ busy. let m = more busy in omega (arith, l, m))
              (λ was. absurd (busy_not_failed (phase_in start) began (sym (ap (λ (w : DurableCore D). phase_in w) (was_failed was)) ∙ was))) some;
          kind = h.tells.2;
          risen = λ is first. risen_since (disk.failed (device_of old)) (disk.failed (device_of mid)) (disk.failed (device_of new)) (rises is) count later first;
          same = λ is. called_core (Err fault) mid new h ∙ ap (λ (e : StoreFault). after_call (Err e) mid.core) is ∙ made.core;
          phase = h.tells.0;
        }

  -- ---- what a round comes to, whatever the durable core
  abbrev pub Outcome : Commit → DurableCore D → DurableCore D → Type 0
  Outcome commit.Settled old new = (old.core.number < new.core.number) × (new.core.flight ≡ 0)
  Outcome commit.Nothing old new = HasNoBatch old × HasNoCall old × HasNoReceipt old × (new ≡ old)
  Outcome (commit.Refused fault) old new = Whole old → IsRoundAnswer disk (commit.Refused fault) old new
  Outcome commit.Foreign old new = Whole old → ⊥
  Outcome commit.NoMemory old new = Unit {0}

  -- a batch is refused
  refused_comes : (fault : StoreFault) (old start new : DurableCore D) → IsTakenUp (Err fault) old start → Whole start → IsRoundAnswer disk (commit.Refused fault) old new
  refused_comes fault old start new h q =
      let batch = h.1.load.batch in
      let t = h.1.load.tells in
      let w = waits_for start.committer start.core.settled start.core.failed (flight_of start.core) batch h.1.load.waits q.in_step in
      let idle : phase_in old ≡ Idle = ap (λ (s : Store D). phase_from s.phase) (sym t.stays) ∙ w.idle in
      let good : IsGood batch.changes (table_of (flusher_of old)) = subst (λ (s : State). IsGood batch.changes s) (sym w.table ∙ t.table) w.good in
      ⊎_elim (λ is. busy_or_failed_not_idle (phase_in old) idle (inr (t.failed.0 is)))
      (⊎_elim (λ is. absurd (⊎_elim (λ busy. busy_or_failed_not_idle (phase_in old) idle (inl busy)) (λ was. (let no : Idle ≡ Done = sym idle ∙ was in cc)) (t.not_idle.0 is)))
      (⊎_elim (λ is. absurd (t.bad is good))
      (⊎_elim (λ is. subst (λ (e : StoreFault). IsRoundAnswer disk (commit.Refused e) old new) (sym is) (λ lasts. ⊎_elim (t.worn is).1 (λ left. let over = (t.worn is).2 in omega (arith, left, over)) (lasts batch start.core (taken_next (Err fault) old start h))))
      (λ is. subst (λ (e : StoreFault). IsRoundAnswer disk (commit.Refused e) old new) (sym is) tt))))
      t.few

  -- ---- the batch is taken, or there is none
  record IsBegun (old start : DurableCore D) : Type 0 where
    pub number : start.core.number ≡ old.core.number
    pub fails : start.core.failed ≡ old.core.failed
    pub way : (phase_in start ≡ Busy) ⊎ (phase_in start ≡ Done) ⊎ (HasNoBatch old × (start ≡ old))

  begun_loaded : (x : Unit {0}) (old start : DurableCore D) → IsTakenUp (Ok x) old start → IsBegun old start
  begun_loaded x old start h =
      let core = next_core h.1.load.batch old start.core (taken_next (Ok x) old start h) in
      record {
        number = ap (λ (s : CoreState). s.number) core;
        fails = ap (λ (s : CoreState). s.failed) core;
        way = ⊎_elim (λ empty. inr (inl (h.1.load.tells.done empty))) (λ some. inl (h.1.load.tells.busy some)) (empty_or_some h.1.load.batch.changes);
      }

  begun_none : (old start : DurableCore D) → HasNoBatch old × (start ≡ old) → IsBegun old start
  begun_none old start h = record { number = ap (λ (w : DurableCore D). w.core.number) h.1; fails = ap (λ (w : DurableCore D). w.core.failed) h.1; way = inr (inr h) }

  -- ---- a round, as it was made
  pub record IsMade (first last : Told) (called : Option Commit) (calls : ℕ) (old start now new : DurableCore D) : Type 0 where
    pub takes : Tells Take first old start
    pub made : called ≡ None → AreMade calls start now
    pub ended : (answer : Commit) → called ≡ Some answer → IsRefusedCall answer calls old start now
    pub none : called ≡ None → HasNoCall now
    pub publishes : Tells Publish last now new
    pub count_last : disk.failed (device_of now) ≤ disk.failed (device_of new)
    pub whole_start : Whole old → Whole start
    pub whole_now : Whole old → Whole now
    pub whole_new : Whole old → Whole new

  module _ (calls : ℕ) (old start now new : DurableCore D) where
    -- the receipt is published, or there is none
    nothing_published : IsBegun old start → AreMade calls start now → HasNoCall now → HasNoReceipt now × (new ≡ now) → HasNoBatch old × HasNoCall old × HasNoReceipt old × (new ≡ old)
    nothing_published begun made none h = ⊎_elim
        (λ same. ⊎_elim
        (λ busy. no_call_left (phase_in start) (subst (λ (w : DurableCore D). HasNoCall w) same none) (inl busy))
        (λ late. ⊎_elim
        (λ done. absurd (h.0.1 (ap (λ (w : DurableCore D). phase_in w) same ∙ done)))
        (λ was.
        let all = same ∙ was.1 in
        (was.0, subst (λ (w : DurableCore D). HasNoCall w) all none, subst (λ (w : DurableCore D). HasNoReceipt w) all h.0, h.1 ∙ all))
        late)
        begun.way)
        (λ way. ⊎_elim (λ busy. no_call_left (phase_in now) none (inl busy)) (λ is. absurd (h.0.1 is)) way.1)
        made.way

    settled_published : (x : Unit {0}) → IsBegun old start → AreMade calls start now → IsPublished (Ok x) now new → (old.core.number < new.core.number) × (new.core.flight ≡ 0)
    settled_published x begun made h =
        let some = h.1.tells.1.0.0 in
        let number = ap (λ (s : CoreState). s.number) h.1.tells.1.1 in
        let before = ap (λ (s : CoreState). s.number) made.core in
        let first = begun.number in
        (omega (arith, some, number, before, first), ap (λ (s : CoreState). s.flight) h.1.tells.1.1)

    not_foreign : IsPublished (Err publish_fault.Foreign) now new → Whole new → ⊥
    not_foreign h q =
        let is = receipt_of_flight new.committer new.core.settled new.core.failed (flight_of new.core) h.0 h.1.kept q.in_step in
        h.1.tells.1.0.0 refl (subst (λ (s : CoreState). IsFlight (held_batch h.0) s) h.1.tells.1.1 (is_flight new.core (held_batch h.0) is))

    published_comes : (last : Told) → IsBegun old start → AreMade calls start now → HasNoCall now → Tells Publish last now new → (Whole old → Whole new) → Outcome (unwrap_or (commit_of last) commit.Nothing) old new
    published_comes (Published (Ok x)) begun made none h whole = settled_published x begun made h
    published_comes (Published (Err publish_fault.Foreign)) begun made none h whole = λ p. not_foreign h (whole p)
    published_comes (Published (Err publish_fault.NoMemory)) begun made none h whole = tt
    published_comes Nothing begun made none h whole = nothing_published begun made none h
    published_comes told begun made none h whole = absurd h

    -- a call was refused
    call_comes : (fault : StoreFault) → IsBegun old start → IsRefusedFor fault calls old start now → disk.failed (device_of now) ≤ disk.failed (device_of new) → (Whole old → Whole now) → Whole old
        → IsRoundAnswer disk (commit.Refused fault) old new
    call_comes fault begun h count whole p = ⊎_elim
        (λ is. subst (λ (e : StoreFault). IsRoundAnswer disk (commit.Refused e) old new) (sym is) (λ first. let r = h.risen is first in omega (arith, r, count)))
        (λ is.
        let fails : now.core.failed ≡ true = failed_too now.committer now.core.settled now.core.failed (flight_of now.core) h.phase (whole p).in_step in
        subst (λ (e : StoreFault). IsRoundAnswer disk (commit.Refused e) old new) (sym is) (sym begun.fails ∙ sym (ap (λ (s : CoreState). s.failed) (h.same is)) ∙ fails))
        h.kind

    calls_come : (last : Told) (called : Option Commit) → IsBegun old start → (called ≡ None → AreMade calls start now) → ((answer : Commit) → called ≡ Some answer → IsRefusedCall answer calls old start now)
        → (called ≡ None → HasNoCall now) → Tells Publish last now new → disk.failed (device_of now) ≤ disk.failed (device_of new) → (Whole old → Whole now) → (Whole old → Whole new)
        → Outcome (unwrap_or called (unwrap_or (commit_of last) commit.Nothing)) old new
    calls_come last None begun made ended none publishes count whole_now whole_new = published_comes last begun (made refl) (none refl) publishes whole_new
    calls_come last (Some answer) begun made ended none publishes count whole_now whole_new =
        let r = ended answer refl in
        subst (λ (a : Commit). Outcome a old new) (sym r.is) (λ p. call_comes r.fault begun r.refused count whole_now p)

    -- what it comes to
    pub comes : (first last : Told) (called : Option Commit) → IsMade first last called calls old start now new → Outcome (unwrap_or (commit_of first) (unwrap_or called (unwrap_or (commit_of last) commit.Nothing))) old new
    comes (Loaded (Ok x)) last called m = calls_come last called (begun_loaded x old start m.takes) m.made m.ended m.none m.publishes m.count_last m.whole_now m.whole_new
    comes (Loaded (Err fault)) last called m = λ p. refused_comes fault old start new m.takes (m.whole_start p)
    comes Nothing last called m = calls_come last called (begun_none old start m.takes) m.made m.ended m.none m.publishes m.count_last m.whole_now m.whole_new
    comes NoMemory last called m = tt
    comes told last called m = absurd m.takes

    -- ---- with nothing to take, to call or to publish
    no_next : {A : Type 0} (batch : Batch) (core : CoreState) → HasNoBatch old → IsNext batch old core → A
    no_next batch core none next = ⊎_elim (λ waits. none_some (waiting_batch old.committer) batch none.0 waits.0) (λ taken. absurd (taken.1 none.1)) next

    no_receipt : {A : Type 0} (receipt : _) → HasNoReceipt now → IsNextReceipt receipt now.committer new.committer → A
    no_receipt receipt none next = ⊎_elim (λ waits. none_some (waiting_receipt now.committer) receipt none.0 waits.0) (λ given. absurd (none.1 given.1.done)) next

    rests_published : (last : Told) → HasNoReceipt now → Tells Publish last now new → unwrap_or (commit_of last) commit.Nothing ≡ commit.Nothing
    rests_published (Published r) none h = no_receipt h.0 none h.1.next
    rests_published Nothing none h = refl
    rests_published told none h = absurd h

    rests_called : (last : Told) (called : Option Commit) → start ≡ old → HasNoCall old → HasNoReceipt old → (called ≡ None → AreMade calls start now)
        → ((answer : Commit) → called ≡ Some answer → IsRefusedCall answer calls old start now) → Tells Publish last now new → unwrap_or called (unwrap_or (commit_of last) commit.Nothing) ≡ commit.Nothing
    rests_called last None same none free made ended publishes =
        let here = subst (λ (w : DurableCore D). HasNoCall w) (sym same) none in
        ⊎_elim (λ at_once. rests_published last (subst (λ (w : DurableCore D). HasNoReceipt w) (sym (at_once ∙ same)) free) publishes)
        (λ way. no_call_left (phase_in start) here (inl way.0)) (made refl).way
    rests_called last (Some answer) same none free made ended publishes =
        no_call_left (phase_in start) (subst (λ (w : DurableCore D). HasNoCall w) (sym same) none) (ended answer refl).refused.some

    pub rests : (first last : Told) (called : Option Commit) → IsMade first last called calls old start now new → HasNoBatch old → HasNoCall old → HasNoReceipt old
        → unwrap_or (commit_of first) (unwrap_or called (unwrap_or (commit_of last) commit.Nothing)) ≡ commit.Nothing
    rests (Loaded (Ok x)) last called m none still free = no_next m.takes.1.load.batch start.core none (taken_next (Ok x) old start m.takes)
    rests (Loaded (Err fault)) last called m none still free = no_next m.takes.1.load.batch start.core none (taken_next (Err fault) old start m.takes)
    rests Nothing last called m none still free = rests_called last called m.takes.1 still free m.made m.ended m.publishes
    rests NoMemory last called m none still free = absurd (m.takes.0.1 none.1)
    rests told last called m none still free = absurd m.takes

    -- ---- where the device is told as failed, its count rose
    last_risen : (last : Told) → Tells Publish last now new → unwrap_or (commit_of last) commit.Nothing ≢ commit.Refused store_fault.Device
    last_risen (Published (Ok x)) h is = cc
    last_risen (Published (Err publish_fault.Foreign)) h is = cc
    last_risen (Published (Err publish_fault.NoMemory)) h is = cc
    last_risen Nothing h is = cc
    last_risen told h is = absurd h

    calls_risen : (last : Told) (called : Option Commit) → ((answer : Commit) → called ≡ Some answer → IsRefusedCall answer calls old start now) → Tells Publish last now new → disk.failed (device_of now) ≤ disk.failed (device_of new)
        → unwrap_or called (unwrap_or (commit_of last) commit.Nothing) ≡ commit.Refused store_fault.Device → HasRisen (disk.failed (device_of old)) (disk.failed (device_of new))
    calls_risen last None ended publishes count is = absurd (last_risen last publishes is)
    calls_risen last (Some answer) ended publishes count is = λ below.
        let r = ended answer refl in
        let both : commit.Refused r.fault ≡ commit.Refused store_fault.Device = sym r.is ∙ is in
        let device : r.fault ≡ store_fault.Device = cc in
        let more = r.refused.risen device below in
        omega (arith, more, count)

    pub risen : (first last : Told) (called : Option Commit) → IsMade first last called calls old start now new
        → unwrap_or (commit_of first) (unwrap_or called (unwrap_or (commit_of last) commit.Nothing)) ≡ commit.Refused store_fault.Device → HasRisen (disk.failed (device_of old)) (disk.failed (device_of new))
    risen (Loaded (Ok x)) last called m is = calls_risen last called m.ended m.publishes m.count_last is
    risen (Loaded (Err fault)) last called m is = absurd (never_device fault m.takes.1.load.batch (flusher_of old) (flusher_of start) m.takes.1.load.tells (let both : commit.Refused fault ≡ commit.Refused store_fault.Device = is in cc))
    risen Nothing last called m is = calls_risen last called m.ended m.publishes m.count_last is
    risen NoMemory last called m is = absurd (let no : commit.NoMemory ≡ commit.Refused store_fault.Device = is in cc)
    risen told last called m is = absurd m.takes

    -- ---- how many calls
    pub few_calls : (called : Option Commit) → (called ≡ None → AreMade calls start now) → ((answer : Commit) → called ≡ Some answer → IsRefusedCall answer calls old start now) → calls ≤ 10
    few_calls None made ended = let l = (made refl).left in let limit = few_from (flusher_of start).store.phase in omega (arith, l, limit)
    few_calls (Some answer) made ended = (ended answer refl).refused.few

    none_called : (called : Option Commit) → (phase_in start ≡ Idle) ⊎ (phase_in start ≡ Done) → (called ≡ None → AreMade calls start now) → ((answer : Commit) → called ≡ Some answer → IsRefusedCall answer calls old start now) → calls ≡ 0
    none_called None still made ended = ⊎_elim
        (λ same. let l = (made refl).left in let at_once = ap (λ (w : DurableCore D). calls_left (flusher_of w)) same in omega (arith, l, at_once))
        (λ way. no_call_left (phase_in start) still (inl way.0)) (made refl).way
    none_called (Some answer) still made ended = no_call_left (phase_in start) still (ended answer refl).refused.some

    loaded_called : (called : Option Commit) → phase_in start ≡ Busy → calls_left (flusher_of start) ≡ 4 → (called ≡ None → AreMade calls start now)
        → ((answer : Commit) → called ≡ Some answer → IsRefusedCall answer calls old start now) → calls ≤ 4
    loaded_called None busy four made ended = let l = (made refl).left in omega (arith, l, four)
    loaded_called (Some answer) busy four made ended = let l = (ended answer refl).refused.within busy in omega (arith, l, four)

    none_moved : (called : Option Commit) → (phase_in start ≡ Idle) ⊎ (phase_in start ≡ Done) → (called ≡ None → AreMade calls start now) → ((answer : Commit) → called ≡ Some answer → IsRefusedCall answer calls old start now) → now ≡ start
    none_moved None still made ended = ⊎_elim (λ same. same) (λ way. no_call_left (phase_in start) still (inl way.0)) (made refl).way
    none_moved (Some answer) still made ended = no_call_left (phase_in start) still (ended answer refl).refused.some

    -- neither taking nor publishing calls the device
    taken_stays : (first : Told) → Tells Take first old start → device_of start ≡ device_of old
    taken_stays (Loaded (Ok x)) h = h.1.load.tells.device
    taken_stays (Loaded (Err fault)) h = ap (λ (s : Store D). store_device s) h.1.load.tells.stays
    taken_stays Nothing h = ap (λ (w : DurableCore D). device_of w) h.1
    taken_stays NoMemory h = ap (λ (w : DurableCore D). device_of w) h.1
    taken_stays told h = absurd h

    published_stays : (last : Told) → Tells Publish last now new → device_of new ≡ device_of now
    published_stays (Published result) h = h.1.device
    published_stays Nothing h = ap (λ (w : DurableCore D). device_of w) h.1
    published_stays told h = absurd h

    -- no batch is under way that has changes
    taken_still : (first : Told) → Tells Take first old start → phase_in old ≡ Idle → HasNoChangesNext old → (phase_in start ≡ Idle) ⊎ (phase_in start ≡ Done)
    taken_still (Loaded (Ok x)) h idle empty = inr (h.1.load.tells.done (empty h.1.load.batch start.core (taken_next (Ok x) old start h)))
    taken_still (Loaded (Err fault)) h idle empty = inl (ap (λ (s : Store D). phase_from s.phase) h.1.load.tells.stays ∙ idle)
    taken_still Nothing h idle empty = inl (ap (λ (w : DurableCore D). phase_in w) h.1 ∙ idle)
    taken_still NoMemory h idle empty = inl (ap (λ (w : DurableCore D). phase_in w) h.1 ∙ idle)
    taken_still told h idle empty = absurd h

    pub no_calls : (first last : Told) (called : Option Commit) → IsMade first last called calls old start now new → phase_in old ≡ Idle → HasNoChangesNext old
        → (calls ≡ 0) × (device_of new ≡ device_of old)
    no_calls first last called m idle empty =
        let still = taken_still first m.takes idle empty in
        (none_called called still m.made m.ended, published_stays last m.publishes ∙ ap (λ (w : DurableCore D). device_of w) (none_moved called still m.made m.ended) ∙ taken_stays first m.takes)

    few_none : calls ≡ 0 → calls ≤ 4
    few_none none = omega (arith, none)

    pub four_calls : (first last : Told) (called : Option Commit) → IsMade first last called calls old start now new → phase_in old ≡ Idle → HasRoomForNext old → calls ≤ 4
    four_calls (Loaded (Ok x)) last called m idle room = ⊎_elim
        (λ empty. few_none (none_called called (inr (m.takes.1.load.tells.done empty)) m.made m.ended))
        (λ some. loaded_called called (m.takes.1.load.tells.busy some) (m.takes.1.load.tells.four_calls some (room m.takes.1.load.batch start.core (taken_next (Ok x) old start m.takes))) m.made m.ended)
        (empty_or_some m.takes.1.load.batch.changes)
    four_calls (Loaded (Err fault)) last called m idle room = few_none (none_called called (inl (ap (λ (s : Store D). phase_from s.phase) m.takes.1.load.tells.stays ∙ idle)) m.made m.ended)
    four_calls Nothing last called m idle room = few_none (none_called called (inl (ap (λ (w : DurableCore D). phase_in w) m.takes.1 ∙ idle)) m.made m.ended)
    four_calls NoMemory last called m idle room = few_none (none_called called (inl (ap (λ (w : DurableCore D). phase_in w) m.takes.1 ∙ idle)) m.made m.ended)
    four_calls told last called m idle room = absurd m.takes

  -- ---- from a whole durable core
  pub whole_comes : (answer : Commit) (old new : DurableCore D) → Outcome answer old new → Whole old → IsRoundAnswer disk answer old new
  whole_comes commit.Settled old new o p = o
  whole_comes commit.Nothing old new o p = (o.3, none_taken old.core.failed old.core.flight old.core.unsettled (none_flies old.core (none_in_flight old.committer old.core.settled old.core.failed (flight_of old.core) o.0.0 o.1 o.2 p.in_step)) o.0.1)
  whole_comes (commit.Refused fault) old new o p = o p
  whole_comes commit.Foreign old new o p = absurd (o p)
  whole_comes commit.NoMemory old new o p = tt

  pub commits : (answer : Commit) (old new : DurableCore D) → IsRoundAnswer disk answer old new → Commits disk answer old new
  commits commit.Settled old new c ok same below memory room some = (refl, c.0)
  commits commit.Nothing old new c ok same below memory room some =
      absurd (⊎_elim (λ fails. false≢true (sym ok ∙ fails)) (λ none. let l = ap length none in absurd (omega (arith, l, some))) c.1)
  commits (commit.Refused store_fault.Device) old new c ok same below memory room some = absurd (let r = c below in omega (arith, r, same))
  commits (commit.Refused store_fault.Failed) old new c ok same below memory room some = absurd (false≢true (sym ok ∙ c))
  commits (commit.Refused store_fault.Worn) old new c ok same below memory lasts some = absurd (c lasts)
  commits (commit.Refused store_fault.NoMemory) old new c ok same below memory room some = absurd (memory tt)
  commits commit.NoMemory old new c ok same below memory room some = absurd (memory tt)
  commits answer old new c ok same below memory room some = absurd c

  -- the call that is next
  next_made : (told : Told) (calls : ℕ) (start mid new : DurableCore D) → Tells Call told mid new → AreMade calls start mid → (phase_in mid ≡ Busy) ⊎ (phase_in mid ≡ Failed) → commit_of told ≡ None
      → AreMade (calls + 1) start new
  next_made (Called (Ok x)) calls start mid new h made some none = call_made calls start mid new made some x h (⊎_elim (λ zero. absurd (let one = h.tells.0 in omega (arith, one, zero))) (λ busy. busy) (quiet_or_busy (flusher_of mid).store.phase))
  next_made (Called (Err fault)) calls start mid new h made some none = absurd (let no : Some (commit.Refused fault) ≡ None = none in cc)
  next_made Nothing calls start mid new h made some none = no_call_left (phase_in mid) h.0 some
  next_made told calls start mid new h made some none = absurd h

  next_refused : (told : Told) (answer : Commit) (calls : ℕ) (old start mid new : DurableCore D) → Tells Call told mid new → AreMade calls start mid → (phase_in mid ≡ Busy) ⊎ (phase_in mid ≡ Failed)
      → (phase_in mid ≡ Busy → 1 ≤ calls_left (flusher_of mid)) → disk.failed (device_of old) ≤ disk.failed (device_of mid) → disk.failed (device_of mid) ≤ disk.failed (device_of new)
      → (told ≡ Called (Err store_fault.Device) → HasRisen (disk.failed (device_of mid)) (disk.failed (device_of new))) → commit_of told ≡ Some answer → IsRefusedCall answer (calls + 1) old start new
  next_refused (Called (Err fault)) answer calls old start mid new h made some more count later rises is = record {
    fault = fault;
    is = let both : Some (commit.Refused fault) ≡ Some answer = is in cc;
    refused = call_refused calls start mid new made some fault old h count later (λ device. rises (ap (λ (e : StoreFault). Called (Err e)) device)) more;
  }
  next_refused (Called (Ok x)) answer calls old start mid new h made some more count later rises is = none_some (commit_of (Called (Ok x))) answer refl is
  next_refused Nothing answer calls old start mid new h made some more count later rises is = no_call_left (phase_in mid) h.0 some
  next_refused told answer calls old start mid new h made some more count later rises is = absurd h

-- ---- the calls, one after another
abbrev IsOfStore : Step → Type 0
IsOfStore Take = ⊤
IsOfStore Call = ⊤
IsOfStore Publish = ⊤
IsOfStore step = ⊥

module _ {D R : Type 0} (disk : DiskModel D) (radio : RadioModel R) where
  -- a step of the store's, inside as outside
  of_store : (x : Step) (t : Told) (a b : World D R) → IsOfStore x → IsWorldStep radio x t a b → Tells x t (durable_of a) (durable_of b) × RestStays a b
  of_store Take t a b is step = (subst (λ i. Tells Take i (durable_of a) (durable_of b)) (sym step.joins.0) step.durable.tells, step.joins.1)
  of_store Call t a b is step = (subst (λ i. Tells Call i (durable_of a) (durable_of b)) (sym step.joins.0) step.durable.tells, step.joins.1)
  of_store Publish t a b is step = (subst (λ i. Tells Publish i (durable_of a) (durable_of b)) (sym step.joins.0) step.durable.tells, step.joins.1)
  of_store x t a b is step = absurd is

  pub record IsCalling (taken called : Option Commit) (old now : World D R) : Type 0 where
    pub calls : ℕ
    pub first : Told
    pub tolds : List Told
    pub start : DurableCore D
    pub takes : Tells Take first (durable_of old) start
    pub taken_is : taken ≡ commit_of first
    pub whole_start : IsWhole disk (durable_of old) → IsWhole disk start
    pub steps : AreSafelyMade disk radio (Take ∷ replicate calls Call) (first ∷ tolds) old now
    pub rest : RestStays old now
    pub says : (rest : List Told) → answer_of (tolds ++ rest) ≡ unwrap_or called (answer_of rest)
    pub made : called ≡ None → AreMade disk calls start (durable_of now)
    pub ended : (answer : Commit) → called ≡ Some answer → IsRefusedCall disk answer calls (durable_of old) start (durable_of now)

  pub calling_begun : (first : Told) (taken called : Option Commit) (old start : World D R) → IsWorldStep radio Take first old start → IsStepMade disk first (durable_of old) (durable_of start)
      → IsSafeAtBoth disk (durable_of old) (durable_of start) → taken ≡ commit_of first → called ≡ None → IsCalling taken called old start
  calling_begun first taken called old start step made here is none =
      let tells = of_store Take first old start tt step in
      record {
        calls = 0;
        first = first;
        tolds = [];
        start = durable_of start;
        takes = tells.0;
        taken_is = is;
        whole_start = made.safe.whole;
        steps = one_made disk radio Take first old start step made here;
        rest = tells.1;
        says = λ rest. sym (ap (λ o. unwrap_or o (answer_of rest)) none);
        made = λ no. none_made disk (durable_of start);
        ended = λ answer some. none_some called answer none some;
      }

  pub calling_on : (told : Told) (taken called more_called : Option Commit) (old mid new : World D R) → IsCalling taken called old mid → called ≡ None
      → (phase_of (flusher_of (durable_of mid)) ≡ Busy) ⊎ (phase_of (flusher_of (durable_of mid)) ≡ Failed) → (phase_of (flusher_of (durable_of mid)) ≡ Busy → 1 ≤ calls_left (flusher_of (durable_of mid)))
      → IsWorldStep radio Call told mid new → IsStepMade disk told (durable_of mid) (durable_of new) → IsSafeAtBoth disk (durable_of mid) (durable_of new) → more_called ≡ commit_of told → IsCalling taken more_called old new
  calling_on told taken called more_called old mid new k none some more step made here is =
      let tells = of_store Call told mid new tt step in
      record {
        calls = k.calls + 1;
        first = k.first;
        tolds = k.tolds ++ told ∷ [];
        start = k.start;
        takes = k.takes;
        taken_is = k.taken_is;
        whole_start = k.whole_start;
        steps = subst (λ (calls : List Step). AreSafelyMade disk radio (Take ∷ calls) (k.first ∷ (k.tolds ++ told ∷ [])) old new) (replicate_more k.calls Call)
            (made_then disk radio (Take ∷ replicate k.calls Call) (Call ∷ []) (k.first ∷ k.tolds) (told ∷ []) old mid new k.steps (one_made disk radio Call told mid new step made here));
        rest = tells.1 ∙ k.rest;
        says = λ rest. said_more k.tolds told called none k.says rest ∙ ap (λ o. unwrap_or o (answer_of rest)) (sym is);
        made = λ no. next_made disk told k.calls k.start (durable_of mid) (durable_of new) tells.0 (k.made none) some (sym is ∙ no);
        ended = λ answer yes. next_refused disk told answer k.calls (durable_of old) k.start (durable_of mid) (durable_of new) tells.0 (k.made none) some more k.steps.count made.count made.fault (sym is ∙ yes);
      }

  -- ---- the whole round
  pub record IsCommitted (result : Commit) (old new : World D R) : Type 0 where
    pub round : IsRound disk radio result old new
    pub outcome : Outcome disk result (durable_of old) (durable_of new)
    pub rest : RestStays old new
    pub rests : HasNoBatch (durable_of old) → HasNoCall (durable_of old) → HasNoReceipt (durable_of old) → result ≡ commit.Nothing
    pub quiet : GoesQuietly (durable_of old).core (durable_of new).core

  -- nothing happens in a round, nothing is given, and no station is heard
  calls_go : (n : ℕ) (ts : List Told) (a b : World D R) → AreMadeInTurn disk radio (replicate n Call ++ Publish ∷ []) ts a b → GoesQuietly (durable_of a).core (durable_of b).core
  calls_go zero (t ∷ []) a b h = subst (λ (w : World D R). GoesQuietly (durable_of a).core (durable_of w).core) (sym h.3.0) (record { goes = h.1.durable.goes; heard = h.1.durable.heard })
  calls_go (suc n) (t ∷ ts) a b h = quiet_then (durable_of a).core (durable_of h.0).core (durable_of b).core (record { goes = h.1.durable.goes; heard = h.1.durable.heard }) (calls_go n ts h.0 b h.3)
  calls_go zero (t ∷ ts) a b h = absurd h.3
  calls_go n ts a b h = absurd h

  round_goes : (n : ℕ) (ts : List Told) (a b : World D R) → AreMadeInTurn disk radio (round n) ts a b → GoesQuietly (durable_of a).core (durable_of b).core
  round_goes n (t ∷ ts) a b h = quiet_then (durable_of a).core (durable_of h.0).core (durable_of b).core (record { goes = h.1.durable.goes; heard = h.1.durable.heard }) (calls_go n ts h.0 b h.3)
  round_goes n ts a b h = absurd h

  module _ (taken called : Option Commit) (last : Told) (old now new : World D R) (k : IsCalling taken called old now) (none : called ≡ None → HasNoCall (durable_of now))
      (step : IsWorldStep radio Publish last now new) (made : IsStepMade disk last (durable_of now) (durable_of new)) (here : IsSafeAtBoth disk (durable_of now) (durable_of new))
      (result : Commit) (is : result ≡ unwrap_or (option_or (option_or taken called) (commit_of last)) commit.Nothing) where
    abbrev tolds : List Told
    tolds = k.first ∷ (k.tolds ++ last ∷ [])

    tells : Tells Publish last (durable_of now) (durable_of new) × RestStays now new
    tells = of_store Publish last now new tt step

    steps : AreSafelyMade disk radio (round k.calls) tolds old new
    steps = made_then disk radio (Take ∷ replicate k.calls Call) (Publish ∷ []) (k.first ∷ k.tolds) (last ∷ []) old now new k.steps (one_made disk radio Publish last now new step made here)

    made_all : IsMade disk k.first last called k.calls (durable_of old) k.start (durable_of now) (durable_of new)
    made_all = record {
      takes = k.takes;
      made = k.made;
      ended = k.ended;
      none = none;
      publishes = tells.0;
      count_last = made.count;
      whole_start = k.whole_start;
      whole_now = k.steps.whole;
      whole_new = steps.whole;
    }

    in_turn : result ≡ unwrap_or (commit_of k.first) (unwrap_or called (unwrap_or (commit_of last) commit.Nothing))
    in_turn = is ∙ first_said taken called (commit_of last) commit.Nothing ∙ ap (λ o. unwrap_or o (unwrap_or called (unwrap_or (commit_of last) commit.Nothing))) k.taken_is

    pub committed : IsCommitted result old new
    committed =
        let before = durable_of old in
        let mid = durable_of now in
        let after = durable_of new in
        record {
          round = record {
            calls = k.calls;
            few = few_calls disk k.calls before k.start mid after called k.made k.ended;
            none = no_calls disk k.calls before k.start mid after k.first last called made_all;
            four = four_calls disk k.calls before k.start mid after k.first last called made_all;
            tolds = tolds;
            made = steps;
            answer_is = in_turn ∙ ap (λ a. unwrap_or (commit_of k.first) a) (sym (k.says (last ∷ [])));
            risen = λ told. risen disk k.calls before k.start mid after k.first last called made_all (sym in_turn ∙ told);
          };
          outcome = subst (λ (a : Commit). Outcome disk a before after) (sym in_turn) (comes disk k.calls before k.start mid after k.first last called made_all);
          rest = tells.1 ∙ k.rest;
          rests = λ free still done. in_turn ∙ rests disk k.calls before k.start mid after k.first last called made_all free still done;
          quiet = round_goes k.calls tolds old new steps.in_turn;
        }
