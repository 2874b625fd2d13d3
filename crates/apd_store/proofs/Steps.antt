-- What a stop within each call of a batch shows.
use Rattle.std.proofs.Common.{◌≡◌, ◌≤◌, ◌<◌, ◌+◌, ◌-◌, inl, inr, ⊎_elim, ℕ, Bool, List, [], ◌∷◌, length, get_or, refl, sym, ◌∙◌, ap, subst, arith}
use Rattle.apd_store.proofs.Words.{AreParts, AreTorn, AtPhase, Change, CloseOther, DiskModel, Done, Failed, Follows, HALF_LENGTH, Half, Idle, IsCurrent, IsFound, IsIdle, IsWithoutCalls, IsWriting, MayShow, Only, OpenGate, OpenHalf, Phase, Shows, State, Store, SyncClosed, SyncGate, SyncGroup, SyncHalf, SyncOpened, TornWithin, WriteGroup, WriteHalf, calls_from, cases_eq, image_of, length-planned, magic, meaning_of, planned_bytes, records_of, start_of, with_bytes, with_group, with_open_group}
use Rattle.apd_store.proofs.Parts.{written_in_half, torn_in_half}
use Rattle.apd_store.proofs.Current.{image_shows, found_shows, same_parts, current_behind, laid_fits, laid_length, laid_current, opened_length, opened_current, opened_epoch, torn_gate, gate_before_end}

pub idle_shows : {D : Type 0} (disk : DiskModel D) (store : Store D) (state : State) → IsIdle disk store state → (c : List ℕ) → disk.may_leave store.device c → Shows c state
idle_shows disk store state s c left = subst (λ (l : List ℕ). Shows l state) (sym (s.durable c left)) (found_shows (disk.reads store.device) store.half store.epoch store.gate store.other_open state s.found)

-- ---- a batch of no changes

-- the place of the closed gate lies inside the half
pub gate_inside : {image : List ℕ} {side : Half} {epoch gate : ℕ} {other_open : Bool} {state : State} → IsFound image side epoch gate other_open state → gate < HALF_LENGTH
gate_inside {gate = gate} {state = state} f = omega (arith, gate_before_end f.half f.other gate state f.current, f.parts.half_length)

pub none_begins : {D : Type 0} (disk : DiskModel D) (store : Store D) (now : Store D) (state : State) → IsIdle disk store state → now.batch.changes ≡ []
    → now.device ≡ store.device → now.half ≡ store.half → now.epoch ≡ store.epoch → now.gate ≡ store.gate → now.other_open ≡ store.other_open → now.phase ≡ Done
    → (store.gate < HALF_LENGTH → now.plan.place ≡ store.gate + 1) → now.plan.bytes ≡ [] → IsWithoutCalls disk now state (meaning_of now.batch.changes state)
none_begins {D = D} disk store now state idle none device half epoch gate other phase place bytes = record {
  found = subst (λ (d : D). IsFound (disk.reads d) now.half now.epoch now.gate now.other_open state) (sym device)
      (subst (λ (h : Half). IsFound (disk.reads store.device) h now.epoch now.gate now.other_open state) (sym half)
      (subst (λ (e : ℕ). IsFound (disk.reads store.device) store.half e now.gate now.other_open state) (sym epoch)
      (subst (λ (p : ℕ). IsFound (disk.reads store.device) store.half store.epoch p now.other_open state) (sym gate)
      (subst (λ (b : Bool). IsFound (disk.reads store.device) store.half store.epoch store.gate b state) (sym other) idle.found))));
  durable = subst (λ (d : D). Only (disk.reads d) (disk.may_leave d)) (sym device) idle.durable;
  phase = phase;
  none = none;
  after_is = sym (ap (λ (l : List Change). meaning_of l state) none);
  place = omega (arith, place (gate_inside idle.found), gate);
  bytes = bytes;
}

module _ {D : Type 0} (disk : DiskModel D) (store : Store D) (state after : State) (s : IsWithoutCalls disk store state after) where
  pub at_rest_shows : (c : List ℕ) → disk.may_leave store.device c → Shows c state
  at_rest_shows c left = subst (λ (l : List ℕ). Shows l state) (sym (s.durable c left)) (found_shows (disk.reads store.device) store.half store.epoch store.gate store.other_open state s.found)

  pub at_rest_shows_after : (c : List ℕ) → disk.may_leave store.device c → Shows c after
  at_rest_shows_after c left = subst (Shows c) s.after_is (at_rest_shows c left)

  -- its receipt is taken
  pub rests : (now : Store D) → now.device ≡ store.device → now.half ≡ store.half → now.epoch ≡ store.epoch → now.other_open ≡ store.other_open
      → (store.plan.place + length store.plan.bytes ≤ HALF_LENGTH → now.gate ≡ store.plan.place + length store.plan.bytes - 1) → now.phase ≡ Idle → IsIdle disk now after
  rests now device half epoch other gate phase =
      let empty : length store.plan.bytes ≡ 0 = ap length s.bytes in
      let reaches : store.plan.place + length store.plan.bytes ≤ HALF_LENGTH = omega (arith, s.place, empty, gate_inside s.found) in
      let stays : now.gate ≡ store.gate = omega (arith, gate reaches, s.place, empty) in
      record {
        found = subst (λ (d : D). IsFound (disk.reads d) now.half now.epoch now.gate now.other_open after) (sym device)
            (subst (λ (h : Half). IsFound (disk.reads store.device) h now.epoch now.gate now.other_open after) (sym half)
            (subst (λ (e : ℕ). IsFound (disk.reads store.device) store.half e now.gate now.other_open after) (sym epoch)
            (subst (λ (p : ℕ). IsFound (disk.reads store.device) store.half store.epoch p now.other_open after) (sym stays)
            (subst (λ (b : Bool). IsFound (disk.reads store.device) store.half store.epoch store.gate b after) (sym other)
            (subst (λ (z : State). IsFound (disk.reads store.device) store.half store.epoch store.gate store.other_open z) s.after_is s.found)))));
        durable = subst (λ (d : D). Only (disk.reads d) (disk.may_leave d)) (sym device) s.durable;
        phase = phase;
      }

module _ {D : Type 0} (disk : DiskModel D) (store : Store D) (state after : State) (s : IsWriting disk store state after) where
  abbrev group : List Change
  group = store.batch.changes

  abbrev image : List ℕ → List ℕ
  image h = image_of store.half s.reserved h s.other

  room : store.gate + length (records_of group) + 6 ≤ length s.half
  room = omega (arith, s.room, s.parts.half_length)

  -- ---- the halves on the way

  before_is : IsCurrent s.half s.other store.gate state
  before_is = s.current

  shows_half : (h : List ℕ) (gate : ℕ) (now : State) → length h ≡ length s.half → IsCurrent h s.other gate now → Shows (image_of store.half s.reserved h s.other) now
  shows_half h gate now same current = image_shows store.half s.reserved h s.other gate now (same_parts s.reserved s.half h s.other s.parts same) current

  torn_group_shows : (h : List ℕ) → TornWithin (store.gate + 1) (length (planned_bytes group)) s.half h → Shows (image_of store.half s.reserved h s.other) state
  torn_group_shows h torn = shows_half h store.gate state torn.same_length (current_behind s.half s.other store.gate state s.current h torn.before)

  laid_shows : Shows (image_of store.half s.reserved (with_group s.half store.gate group) s.other) state
  laid_shows = shows_half (with_group s.half store.gate group) store.gate state (laid_length s.half s.other store.gate state s.current group after s.group s.sound s.after_is room) (laid_current s.half s.other store.gate state s.current group after s.group s.sound s.after_is room)

  opened_shows : Shows (image_of store.half s.reserved (with_open_group s.half store.gate group) s.other) after
  opened_shows = shows_half (with_open_group s.half store.gate group) (store.gate + 5 + length (records_of group)) after (opened_length s.half s.other store.gate state s.current group after s.group s.sound s.after_is room) (opened_current s.half s.other store.gate state s.current group after s.group s.sound s.after_is room)

  torn_gate_shows : (calls : ℕ) → calls ≤ 2 → (h : List ℕ) → TornWithin store.gate 1 (with_group s.half store.gate group) h → MayShow calls state after (image_of store.half s.reserved h s.other)
  torn_gate_shows calls late h torn = ⊎_elim
      (λ is. inr (late, subst (λ (l : List ℕ). Shows (image_of store.half s.reserved l s.other) after) (sym is) opened_shows))
      (λ current. inl (shows_half h store.gate state (torn.same_length ∙ laid_length s.half s.other store.gate state s.current group after s.group s.sound s.after_is room) current))
      (torn_gate s.half s.other store.gate state s.current group after s.group s.sound s.after_is room h torn (cases_eq (get_or h store.gate 0) 1))

  -- ---- the calls

  abbrev At : Phase → Type 0
  At phase = AtPhase phase store.half s.reserved s.half s.other store.gate group (disk.reads store.device) (disk.may_leave store.device)

  pub at_phase : (phase : Phase) → store.phase ≡ phase → AtPhase phase store.half s.reserved s.half s.other store.gate store.batch.changes (disk.reads store.device) (disk.may_leave store.device)
  at_phase phase is = subst (λ (p : Phase). AtPhase p store.half s.reserved s.half s.other store.gate store.batch.changes (disk.reads store.device) (disk.may_leave store.device)) is s.at

  group_fits : (store.gate + 1) + length (planned_bytes group) ≤ length s.half
  group_fits = laid_fits s.half s.other store.gate state s.current group after s.group s.sound s.after_is room

  module _ (at : ℕ) (bytes : List ℕ) (at_is : at ≡ start_of store.half + store.plan.place) (bytes_are : bytes ≡ store.plan.bytes) where
    place_is : at ≡ start_of store.half + (store.gate + 1)
    place_is = at_is ∙ ap (λ (n : ℕ). start_of store.half + n) s.place

    planned : bytes ≡ planned_bytes group
    planned = bytes_are ∙ s.bytes

    pub write_images : store.phase ≡ WriteGroup → (during : List ℕ → Type 0) → Follows (TornWithin at (length bytes)) (disk.may_leave store.device) during → AreTorn store.half s.reserved s.half s.other (store.gate + 1) (length (planned_bytes store.batch.changes)) during
    write_images is during follows c left =
        let from = follows c left in
        let d_is : from.0 ≡ image_of store.half s.reserved s.half s.other = (at_phase WriteGroup is).1 from.0 from.1 ∙ (at_phase WriteGroup is).0 in
        torn_in_half magic s.reserved s.half s.other refl s.parts (store.gate + 1) (length (planned_bytes group)) group_fits store.half c
        (subst (λ (l : List ℕ). TornWithin (start_of store.half + (store.gate + 1)) (length l) (image_of store.half s.reserved s.half s.other) c) planned
        (subst (λ (n : ℕ). TornWithin n (length bytes) (image_of store.half s.reserved s.half s.other) c) place_is
        (subst (λ (l : List ℕ). TornWithin at (length bytes) l c) d_is from.2)))

    pub write_reads : store.phase ≡ WriteGroup → (now : List ℕ) → now ≡ with_bytes (disk.reads store.device) at bytes → now ≡ image_of store.half s.reserved (with_group s.half store.gate store.batch.changes) s.other
    write_reads is now written =
        written ∙ (λ i. with_bytes ((at_phase WriteGroup is).0 i) (place_is i) (planned i))
        ∙ written_in_half magic s.reserved s.half s.other refl s.parts (store.gate + 1) (length (planned_bytes group)) group_fits store.half (planned_bytes group) refl

    pub during_write : store.phase ≡ WriteGroup → (during : List ℕ → Type 0) → Follows (TornWithin at (length bytes)) (disk.may_leave store.device) during → (c : List ℕ) → during c → MayShow (calls_from store.phase) state after c
    during_write is during follows c left =
        let found = write_images is during follows c left in
        inl (subst (λ (l : List ℕ). Shows l state) (sym found.2) (torn_group_shows found.0 found.1))

  module _ (at : ℕ) (at_is : at ≡ start_of store.half + store.gate) where
    laid_parts : AreParts s.reserved (with_group s.half store.gate group) s.other
    laid_parts = same_parts s.reserved s.half (with_group s.half store.gate group) s.other s.parts (laid_length s.half s.other store.gate state s.current group after s.group s.sound s.after_is room)

    gate_fits : store.gate + 1 ≤ length (with_group s.half store.gate group)
    gate_fits = omega (arith, gate_before_end s.half s.other store.gate state s.current, laid_length s.half s.other store.gate state s.current group after s.group s.sound s.after_is room)

    pub gate_images : store.phase ≡ OpenGate → (during : List ℕ → Type 0) → Follows (TornWithin at 1) (disk.may_leave store.device) during → AreTorn store.half s.reserved (with_group s.half store.gate store.batch.changes) s.other store.gate 1 during
    gate_images is during follows c left =
        let from = follows c left in
        let d_is : from.0 ≡ image_of store.half s.reserved (with_group s.half store.gate group) s.other = (at_phase OpenGate is).1 from.0 from.1 ∙ (at_phase OpenGate is).0 in
        torn_in_half magic s.reserved (with_group s.half store.gate group) s.other refl laid_parts store.gate 1 gate_fits store.half c
        (subst (λ (n : ℕ). TornWithin n 1 (image_of store.half s.reserved (with_group s.half store.gate group) s.other) c) at_is
        (subst (λ (l : List ℕ). TornWithin at 1 l c) d_is from.2))

    pub gate_reads : store.phase ≡ OpenGate → (now : List ℕ) → now ≡ with_bytes (disk.reads store.device) at (1 ∷ []) → now ≡ image_of store.half s.reserved (with_open_group s.half store.gate store.batch.changes) s.other
    gate_reads is now written =
        written ∙ (λ i. with_bytes ((at_phase OpenGate is).0 i) (at_is i) (1 ∷ []))
        ∙ written_in_half magic s.reserved (with_group s.half store.gate group) s.other refl laid_parts store.gate 1 gate_fits store.half (1 ∷ []) refl

    pub during_gate : store.phase ≡ OpenGate → (during : List ℕ → Type 0) → Follows (TornWithin at 1) (disk.may_leave store.device) during → (c : List ℕ) → during c → MayShow (calls_from store.phase) state after c
    during_gate is during follows c left =
        let found = gate_images is during follows c left in
        subst (MayShow (calls_from store.phase) state after) (sym found.2) (torn_gate_shows (calls_from store.phase) (subst (λ (p : Phase). calls_from p ≤ 2) (sym is) (omega arith)) found.0 found.1)

  -- what a stop now shows, when this call is next and the gate was not written
  before_gate_at : (phase : Phase) → AtPhase phase store.half s.reserved s.half s.other store.gate store.batch.changes (disk.reads store.device) (disk.may_leave store.device) → 2 ≤ calls_from phase → (c : List ℕ) → disk.may_leave store.device c → Shows c state
  before_gate_at WriteGroup (is, only) early c left = subst (λ (l : List ℕ). Shows l state) (sym (only c left ∙ is)) (shows_half s.half store.gate state refl s.current)
  before_gate_at SyncGroup (is, torn) early c left = let found = torn c left in subst (λ (l : List ℕ). Shows l state) (sym found.2) (torn_group_shows found.0 found.1)
  before_gate_at OpenGate (is, only) early c left = subst (λ (l : List ℕ). Shows l state) (sym (only c left ∙ is)) laid_shows
  before_gate_at SyncGate at early c left = absurd (omega (arith, early))
  before_gate_at Done at early c left = absurd (omega (arith, early))
  before_gate_at Idle at early c left = absurd at
  before_gate_at CloseOther at early c left = absurd at
  before_gate_at SyncClosed at early c left = absurd at
  before_gate_at WriteHalf at early c left = absurd at
  before_gate_at SyncHalf at early c left = absurd at
  before_gate_at OpenHalf at early c left = absurd at
  before_gate_at SyncOpened at early c left = absurd at
  before_gate_at Failed at early c left = absurd at

  -- what a stop now shows, when this call is next
  shows_at : (phase : Phase) → AtPhase phase store.half s.reserved s.half s.other store.gate store.batch.changes (disk.reads store.device) (disk.may_leave store.device) → (c : List ℕ) → disk.may_leave store.device c → MayShow (calls_from phase) state after c
  shows_at WriteGroup at c left = inl (before_gate_at WriteGroup at (omega arith) c left)
  shows_at SyncGroup at c left = inl (before_gate_at SyncGroup at (omega arith) c left)
  shows_at OpenGate at c left = inl (before_gate_at OpenGate at (omega arith) c left)
  shows_at SyncGate (is, torn) c left = let found = torn c left in subst (MayShow 1 state after) (sym found.2) (torn_gate_shows 1 (omega arith) found.0 found.1)
  shows_at Done (is, only) c left = inr (omega arith, subst (λ (l : List ℕ). Shows l after) (sym (only c left ∙ is)) opened_shows)
  shows_at Idle at c left = absurd at
  shows_at CloseOther at c left = absurd at
  shows_at SyncClosed at c left = absurd at
  shows_at WriteHalf at c left = absurd at
  shows_at SyncHalf at c left = absurd at
  shows_at OpenHalf at c left = absurd at
  shows_at SyncOpened at c left = absurd at
  shows_at Failed at c left = absurd at

  pub now_shows : (c : List ℕ) → disk.may_leave store.device c → MayShow (calls_from store.phase) state after c
  now_shows c left = shows_at store.phase s.at c left

  pub before_gate : 2 ≤ calls_from store.phase → (c : List ℕ) → disk.may_leave store.device c → Shows c state
  before_gate early c left = before_gate_at store.phase s.at early c left

  pub done_shows : store.phase ≡ Done → (c : List ℕ) → disk.may_leave store.device c → Shows c after
  done_shows is c left = subst (λ (l : List ℕ). Shows l after) (sym ((at_phase Done is).1 c left ∙ (at_phase Done is).0)) opened_shows

  -- the batch goes on, over another device in another phase
  pub moves : (device : D) (phase : Phase) → AtPhase phase store.half s.reserved s.half s.other store.gate store.batch.changes (disk.reads device) (disk.may_leave device)
      → IsWriting disk (record store { device = device; phase = phase }) state after
  moves device phase at = record {
    reserved = s.reserved;
    half = s.half;
    other = s.other;
    parts = s.parts;
    current = s.current;
    epoch_is = s.epoch_is;
    gate_is = s.gate_is;
    group = s.group;
    sound = s.sound;
    after_is = s.after_is;
    room = s.room;
    place = s.place;
    bytes = s.bytes;
    at = at;
  }

  -- the half with the group opened, its gate at this place
  opened_at : (gate : ℕ) → store.gate + 5 + length (records_of group) ≡ gate → (current : IsCurrent (with_open_group s.half store.gate group) s.other gate after) × (current.epoch ≡ store.epoch)
  opened_at gate is = subst (λ (n : ℕ). (current : IsCurrent (with_open_group s.half store.gate group) s.other n after) × (current.epoch ≡ store.epoch)) is
      (opened_current s.half s.other store.gate state s.current group after s.group s.sound s.after_is room, opened_epoch s.half s.other store.gate state s.current group after s.group s.sound s.after_is room ∙ s.epoch_is)

  -- the receipt is taken
  pub settles : (now : Store D) → store.phase ≡ Done → now.device ≡ store.device → now.half ≡ store.half → now.epoch ≡ store.epoch → now.other_open ≡ store.other_open
      → (store.plan.place + length store.plan.bytes ≤ HALF_LENGTH → now.gate ≡ store.plan.place + length store.plan.bytes - 1) → now.phase ≡ Idle → IsIdle disk now after
  settles now is device half epoch other gate phase =
      let here = at_phase Done is in
      let reaches : store.plan.place + length store.plan.bytes ≤ HALF_LENGTH = omega (arith, s.place, ap length s.bytes, length-planned group, s.room) in
      let longer : store.gate + 5 + length (records_of group) ≡ now.gate = omega (arith, gate reaches, s.place, ap length s.bytes, length-planned group, s.room) in
      let found : IsFound (disk.reads store.device) store.half store.epoch now.gate store.other_open after = record {
        reserved = s.reserved;
        half = with_open_group s.half store.gate group;
        other = s.other;
        parts = same_parts s.reserved s.half (with_open_group s.half store.gate group) s.other s.parts (opened_length s.half s.other store.gate state s.current group after s.group s.sound s.after_is room);
        is = here.0;
        current = (opened_at now.gate longer).0;
        epoch_is = (opened_at now.gate longer).1;
        gate_is = s.gate_is;
      } in
      record {
        found = subst (λ (b : Bool). IsFound (disk.reads now.device) now.half now.epoch now.gate b after) (sym other)
            (subst (λ (e : ℕ). IsFound (disk.reads now.device) now.half e now.gate store.other_open after) (sym epoch)
            (subst (λ (h : Half). IsFound (disk.reads now.device) h store.epoch now.gate store.other_open after) (sym half)
            (subst (λ (d : D). IsFound (disk.reads d) store.half store.epoch now.gate store.other_open after) (sym device) found)));
        durable = subst (λ (d : D). Only (disk.reads d) (disk.may_leave d)) (sym device) here.1;
        phase = phase;
      }
