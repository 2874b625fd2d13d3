-- What a stop within each call of a switch shows, and how a switch goes on.
use Rattle.std.proofs.Common.{◌≡◌, ◌≢◌, ◌≤◌, ◌<◌, ◌+◌, ◌-◌, ◌^◌, ◌⊎◌, inl, inr, ⊎_elim, ℕ, Bool, true, false, IsTrue, ◌↔◌, List, [], ◌∷◌, ◌++◌, length, get_or, take, refl, sym, ◌∙◌, ap, subst, arith, take-append-drop}
use Rattle.apd_store.proofs.Words.{A, AreParts, AreTorn, AtPhase, AtSwitch, B, Change, CloseOther, DiskModel, Done, Failed, Follows, HALF_LENGTH, Half, HalfHolds, HasOpenGate, Idle, IsBehind, IsCommitting, IsCurrent, IsFound, IsGroup, IsIdle, IsOpen, IsSnapshot, IsSwitching, IsWithoutCalls, IsWriting, MayShow, Only, OpenGate, OpenHalf, Phase, Shows, State, StaySound, Store, SyncClosed, SyncGate, SyncGroup, SyncHalf, SyncOpened, TornWithin, WriteGroup, WriteHalf, begun_bytes, calls_from, canonical, cases_eq, false≢true, image_of, length-begun, length-with_bytes, magic, meaning_of, opposite, planned_bytes, records_of, start_of, torn_overwritten, with_bytes, with_closed_gate, with_open_snapshot, with_snapshot}
use Rattle.apd_journal.specs.declared.batch.Batch.{Batch}
use Rattle.apd_journal.specs.declared.batch.Plan.{Plan}
use Rattle.apd_journal.proofs.Growth.{begun as begun_holds}
use Rattle.apd_store.proofs.Current.{image_shows}
use Rattle.apd_store.proofs.Parts.{written_in_half, torn_in_half}
use Rattle.apd_store.proofs.Steps.{at_rest_shows, now_shows}
use Rattle.apd_store.proofs.Unique.{holds_open, open_once}

-- ---- gates

pub gate_is : (half : List ℕ) → HasOpenGate half ⊎ (¬ HasOpenGate half)
gate_is [] = inr (λ e. cc)
gate_is (x ∷ half) = ⊎_elim (λ e. inl (λ i. e i ∷ [])) (λ ne. inr (λ e. ne (ap (λ (l : List ℕ). get_or l 0 0) e))) (cases_eq x 1)

pub shut_behind : (half : List ℕ) (epoch : ℕ) → (¬ HasOpenGate half) → IsBehind half epoch
shut_behind half epoch shut e opens = absurd (shut (ap (λ (l : List ℕ). take 1 l) opens.is))

pub open_gate : (half : List ℕ) (epoch : ℕ) → IsOpen half epoch → HasOpenGate half
open_gate half epoch opens = ap (λ (l : List ℕ). take 1 l) opens.is

-- a half whose gate alone is torn is itself, or closed
torn_open : (half h : List ℕ) → HasOpenGate half → TornWithin 0 1 half h → HasOpenGate h → h ≡ half
torn_open half h was torn is = sym (take-append-drop 1 h) ∙ (λ i. (is ∙ sym was) i ++ torn.after i) ∙ take-append-drop 1 half

-- torn behind the gate, the gate stays
torn_shut : (half h : List ℕ) (n : ℕ) → (¬ HasOpenGate half) → TornWithin 1 n half h → ¬ HasOpenGate h
torn_shut half h n shut torn is = shut (sym torn.before ∙ is)

zero_one : (n m : ℕ) → n ≡ 0 → m ≡ 1 → n ≢ m
zero_one n m zero one e = absurd (omega (arith, zero, one, e))

closed_shut : (half : List ℕ) → ¬ HasOpenGate (with_closed_gate half)
closed_shut half e = zero_one 0 1 refl refl (ap (λ (l : List ℕ). get_or l 0 0) e)

-- ---- images by the side of the other half

turned : (side : Half) (reserved half other : List ℕ) → image_of (opposite side) reserved other half ≡ image_of side reserved half other
turned A reserved half other = refl
turned B reserved half other = refl

swapped : (reserved half other h : List ℕ) → AreParts reserved half other → length h ≡ length other → AreParts reserved h half
swapped reserved half other h p same = record { reserved_length = p.reserved_length; half_length = same ∙ p.other_length; other_length = p.half_length }

module _ (reserved half current : List ℕ) (parts : AreParts reserved half current) (side : Half) (place n at : ℕ) (inside : place + n ≤ length half) (at_is : at ≡ start_of side + place) where
  pub write_images : (reads : List ℕ) (old during : List ℕ → Type 0) → reads ≡ image_of side reserved half current → Only reads old → Follows (TornWithin at n) old during → AreTorn side reserved half current place n during
  write_images reads old during is only follows c left =
      let from = follows c left in
      torn_in_half magic reserved half current refl parts place n inside side c
      (subst (λ (m : ℕ). TornWithin m n (image_of side reserved half current) c) at_is (subst (λ (l : List ℕ). TornWithin at n l c) (only from.0 from.1 ∙ is) from.2))

  pub write_reads : (reads now bytes : List ℕ) → reads ≡ image_of side reserved half current → length bytes ≡ n → now ≡ with_bytes reads at bytes → now ≡ image_of side reserved (with_bytes half place bytes) current
  write_reads reads now bytes is size made =
      made ∙ (λ i. with_bytes (is i) (at_is i) bytes) ∙ written_in_half magic reserved half current refl parts place n inside side bytes size

-- ---- a switch

module _ {D : Type 0} (disk : DiskModel D) (store : Store D) (state after : State) (s : IsSwitching disk store state after) where
  abbrev back : Half
  back = opposite store.half

  abbrev bytes : List ℕ
  bytes = store.fresh.bytes

  bytes_length : length bytes ≡ length (records_of (canonical state)) + 13
  bytes_length = ap length s.begins_with ∙ length-begun (store.epoch + 1) (canonical state)

  pub half_fits : 1 + length bytes ≤ length s.other
  half_fits = omega (arith, bytes_length, s.snapshot.size, s.parts.other_length)

  pub gate_fits : (h : List ℕ) → length h ≡ length s.other → 0 + 1 ≤ length h
  gate_fits h same = omega (arith, same, s.parts.other_length)

  closed_length : length (with_closed_gate s.other) ≡ length s.other
  closed_length = length-with_bytes s.other 0 (0 ∷ []) (gate_fits s.other refl)

  pub written_length : length (with_snapshot s.other bytes) ≡ length s.other
  written_length = length-with_bytes s.other 1 bytes half_fits

  begun_length : length (with_open_snapshot s.other bytes) ≡ length s.other
  begun_length = length-with_bytes (with_snapshot s.other bytes) 0 (1 ∷ []) (gate_fits (with_snapshot s.other bytes) written_length) ∙ written_length

  pub other_parts : (h : List ℕ) → length h ≡ length s.other → AreParts s.reserved h s.half
  other_parts h same = swapped s.reserved s.half s.other h s.parts same

  -- the current half counts while the other one is behind
  behind_shows : (h : List ℕ) → length h ≡ length s.other → IsBehind h s.current.epoch → Shows (image_of back s.reserved h s.half) state
  behind_shows h same behind =
      subst (λ (l : List ℕ). Shows l state) (sym (turned store.half s.reserved s.half h))
      (image_shows store.half s.reserved s.half h store.gate state (record { reserved_length = s.parts.reserved_length; half_length = s.parts.half_length; other_length = same ∙ s.parts.other_length })
      (record { epoch = s.current.epoch; shows = s.current.shows; behind = behind }))

  shut_shows : (h : List ℕ) → length h ≡ length s.other → (¬ HasOpenGate h) → Shows (image_of back s.reserved h s.half) state
  shut_shows h same shut = behind_shows h same (shut_behind h s.current.epoch shut)

  as_it_was : Shows (image_of back s.reserved s.other s.half) state
  as_it_was = behind_shows s.other refl s.current.behind

  closing_shows : HasOpenGate s.other → (h : List ℕ) → TornWithin 0 1 s.other h → Shows (image_of back s.reserved h s.half) state
  closing_shows was h torn = ⊎_elim
      (λ is. behind_shows h torn.same_length (subst (λ (l : List ℕ). IsBehind l s.current.epoch) (sym (torn_open s.other h was torn is)) s.current.behind))
      (λ shut. shut_shows h torn.same_length shut)
      (gate_is h)

  writing_shows : (¬ HasOpenGate s.other) → (h : List ℕ) → TornWithin 1 (length bytes) s.other h → Shows (image_of back s.reserved h s.half) state
  writing_shows was h torn = shut_shows h torn.same_length (torn_shut s.other h (length bytes) was torn)

  written_shut : (¬ HasOpenGate s.other) → ¬ HasOpenGate (with_snapshot s.other bytes)
  written_shut was = torn_shut s.other (with_snapshot s.other bytes) (length bytes) was (torn_overwritten s.other 1 bytes half_fits)

  -- the half that began anew counts once its gate is open
  half_open : IsOpen s.half store.epoch
  half_open = subst (IsOpen s.half) s.epoch_is (holds_open s.half s.current.epoch s.current.shows.changes store.gate s.current.shows.holds)

  pub begun_current : IsCurrent (with_open_snapshot s.other bytes) s.half (13 + length (records_of (canonical state))) state
  begun_current = record {
    epoch = store.epoch + 1;
    shows = record {
      changes = canonical state;
      holds = subst (λ (l : List ℕ). HalfHolds (with_open_snapshot s.other l) (store.epoch + 1) (canonical state) (13 + length (records_of (canonical state)))) (sym s.begins_with)
          (begun_holds s.other (store.epoch + 1) (canonical state) s.epoch_fits s.snapshot.are (omega (arith, s.snapshot.size)) (omega (arith, s.snapshot.size, s.parts.other_length)));
      sound = s.snapshot.sound;
      state_is = s.snapshot.leads;
    };
    behind = λ e opens. omega (arith, open_once s.half e store.epoch opens half_open);
  }

  begun_epoch : begun_current.epoch ≡ store.epoch + 1
  unfolding begun_current
  begun_epoch = refl

  begun_at : (gate : ℕ) → gate ≡ 13 + length (records_of (canonical state)) → (current : IsCurrent (with_open_snapshot s.other bytes) s.half gate state) × (current.epoch ≡ store.epoch + 1)
  begun_at gate is = subst (λ (n : ℕ). (current : IsCurrent (with_open_snapshot s.other bytes) s.half n state) × (current.epoch ≡ store.epoch + 1)) (sym is) (begun_current, begun_epoch)

  begun_shows : Shows (image_of back s.reserved (with_open_snapshot s.other bytes) s.half) state
  begun_shows = image_shows back s.reserved (with_open_snapshot s.other bytes) s.half (13 + length (records_of (canonical state))) state (other_parts (with_open_snapshot s.other bytes) begun_length) begun_current

  -- torn in its gate alone, the half with its bytes written is closed, or has begun
  torn_begun : (h : List ℕ) → TornWithin 0 1 (with_snapshot s.other bytes) h → HasOpenGate h → h ≡ with_open_snapshot s.other bytes
  torn_begun h torn is = sym (take-append-drop 1 h) ∙ (λ i. is i ++ torn.after i)

  opening_shows : (h : List ℕ) → TornWithin 0 1 (with_snapshot s.other bytes) h → Shows (image_of back s.reserved h s.half) state
  opening_shows h torn = ⊎_elim
      (λ is. subst (λ (l : List ℕ). Shows (image_of back s.reserved l s.half) state) (sym (torn_begun h torn is)) begun_shows)
      (λ shut. shut_shows h (torn.same_length ∙ written_length) shut)
      (gate_is h)

  -- ---- what a stop now shows, by the call that is next

  abbrev pub At : Phase → Type 0
  At phase = AtSwitch phase (opposite store.half) s.reserved s.other s.half store.fresh.bytes (disk.reads store.device) (disk.may_leave store.device)

  shows_at : (phase : Phase) → At phase → (c : List ℕ) → disk.may_leave store.device c → Shows c state
  shows_at CloseOther (was, is, only) c left = subst (λ (l : List ℕ). Shows l state) (sym (only c left ∙ is)) as_it_was
  shows_at SyncClosed (was, is, torn) c left = let found = torn c left in subst (λ (l : List ℕ). Shows l state) (sym found.2) (closing_shows was found.0 found.1)
  shows_at WriteHalf (was, is, only) c left = subst (λ (l : List ℕ). Shows l state) (sym (only c left ∙ is)) as_it_was
  shows_at SyncHalf (was, is, torn) c left = let found = torn c left in subst (λ (l : List ℕ). Shows l state) (sym found.2) (writing_shows was found.0 found.1)
  shows_at OpenHalf (was, is, only) c left = subst (λ (l : List ℕ). Shows l state) (sym (only c left ∙ is)) (shut_shows (with_snapshot s.other bytes) written_length (written_shut was))
  shows_at SyncOpened (was, is, torn) c left = let found = torn c left in subst (λ (l : List ℕ). Shows l state) (sym found.2) (opening_shows found.0 found.1)
  shows_at Idle at c left = absurd at
  shows_at WriteGroup at c left = absurd at
  shows_at SyncGroup at c left = absurd at
  shows_at OpenGate at c left = absurd at
  shows_at SyncGate at c left = absurd at
  shows_at Done at c left = absurd at
  shows_at Failed at c left = absurd at

  pub switch_shows : (c : List ℕ) → disk.may_leave store.device c → Shows c state
  switch_shows c left = shows_at store.phase s.at c left

  pub at_call : (phase : Phase) → store.phase ≡ phase → At phase
  at_call phase is = subst At is s.at

  -- ---- what each write leaves

  module _ (side : Half) (side_is : side ≡ opposite store.half) where
    pub closing_images : store.phase ≡ CloseOther → (during : List ℕ → Type 0) → Follows (TornWithin (start_of side + 0) 1) (disk.may_leave store.device) during → AreTorn back s.reserved s.other s.half 0 1 during
    closing_images is during follows =
        let at = at_call CloseOther is in
        write_images s.reserved s.other s.half (other_parts s.other refl) back 0 1 (start_of side + 0) (gate_fits s.other refl) (ap (λ (h : Half). start_of h + 0) side_is) (disk.reads store.device) (disk.may_leave store.device) during at.1 at.2 follows

    pub closing_reads : store.phase ≡ CloseOther → (now : List ℕ) → now ≡ with_bytes (disk.reads store.device) (start_of side + 0) (0 ∷ []) → now ≡ image_of back s.reserved (with_closed_gate s.other) s.half
    closing_reads is now made =
        write_reads s.reserved s.other s.half (other_parts s.other refl) back 0 1 (start_of side + 0) (gate_fits s.other refl) (ap (λ (h : Half). start_of h + 0) side_is) (disk.reads store.device) now (0 ∷ []) (at_call CloseOther is).1 refl made

    opening_parts : AreParts s.reserved (with_snapshot s.other bytes) s.half
    opening_parts = other_parts (with_snapshot s.other bytes) written_length

    pub opening_images : store.phase ≡ OpenHalf → (during : List ℕ → Type 0) → Follows (TornWithin (start_of side + 0) 1) (disk.may_leave store.device) during → AreTorn back s.reserved (with_snapshot s.other bytes) s.half 0 1 during
    opening_images is during follows =
        let at = at_call OpenHalf is in
        write_images s.reserved (with_snapshot s.other bytes) s.half opening_parts back 0 1 (start_of side + 0) (gate_fits (with_snapshot s.other bytes) written_length) (ap (λ (h : Half). start_of h + 0) side_is) (disk.reads store.device) (disk.may_leave store.device) during at.1 at.2 follows

    pub opening_reads : store.phase ≡ OpenHalf → (now : List ℕ) → now ≡ with_bytes (disk.reads store.device) (start_of side + 0) (1 ∷ []) → now ≡ image_of back s.reserved (with_open_snapshot s.other bytes) s.half
    opening_reads is now made =
        write_reads s.reserved (with_snapshot s.other bytes) s.half opening_parts back 0 1 (start_of side + 0) (gate_fits (with_snapshot s.other bytes) written_length) (ap (λ (h : Half). start_of h + 0) side_is) (disk.reads store.device) now (1 ∷ []) (at_call OpenHalf is).1 refl made

    place_is : start_of side + store.fresh.place ≡ start_of back + 1
    place_is = λ i. start_of (side_is i) + s.begins_at i

    module _ (given : List ℕ) (given_is : given ≡ store.fresh.bytes) where
      pub writing_images : store.phase ≡ WriteHalf → (during : List ℕ → Type 0) → Follows (TornWithin (start_of side + store.fresh.place) (length given)) (disk.may_leave store.device) during → AreTorn back s.reserved s.other s.half 1 (length bytes) during
      writing_images is during follows =
          let at = at_call WriteHalf is in
          write_images s.reserved s.other s.half (other_parts s.other refl) back 1 (length bytes) (start_of side + store.fresh.place) half_fits place_is (disk.reads store.device) (disk.may_leave store.device) during at.1 at.2
          (subst (λ (l : List ℕ). Follows (TornWithin (start_of side + store.fresh.place) (length l)) (disk.may_leave store.device) during) given_is follows)

      pub writing_reads : store.phase ≡ WriteHalf → (now : List ℕ) → now ≡ with_bytes (disk.reads store.device) (start_of side + store.fresh.place) given → now ≡ image_of back s.reserved (with_snapshot s.other bytes) s.half
      writing_reads is now made =
          write_reads s.reserved s.other s.half (other_parts s.other refl) back 1 (length bytes) (start_of side + store.fresh.place) half_fits place_is (disk.reads store.device) now bytes (at_call WriteHalf is).1 refl
          (made ∙ ap (λ (l : List ℕ). with_bytes (disk.reads store.device) (start_of side + store.fresh.place) l) given_is)

  -- what a stop within a write shows
  pub during_closing : store.phase ≡ CloseOther → (during : List ℕ → Type 0) → AreTorn back s.reserved s.other s.half 0 1 during → (c : List ℕ) → during c → Shows c state
  during_closing is during torn c left = let found = torn c left in subst (λ (l : List ℕ). Shows l state) (sym found.2) (closing_shows (at_call CloseOther is).0 found.0 found.1)

  pub during_writing : store.phase ≡ WriteHalf → (during : List ℕ → Type 0) → AreTorn back s.reserved s.other s.half 1 (length bytes) during → (c : List ℕ) → during c → Shows c state
  during_writing is during torn c left = let found = torn c left in subst (λ (l : List ℕ). Shows l state) (sym found.2) (writing_shows (at_call WriteHalf is).0 found.0 found.1)

  pub during_opening : (during : List ℕ → Type 0) → AreTorn back s.reserved (with_snapshot s.other bytes) s.half 0 1 during → (c : List ℕ) → during c → Shows c state
  during_opening during torn c left = let found = torn c left in subst (λ (l : List ℕ). Shows l state) (sym found.2) (opening_shows found.0 found.1)

  -- ---- how it goes on

  -- over another device, with another call next
  pub switch_moves : (device : D) (phase : Phase) → AtSwitch phase (opposite store.half) s.reserved s.other s.half store.fresh.bytes (disk.reads device) (disk.may_leave device) → IsSwitching disk (record store { device = device; phase = phase }) state after
  switch_moves device phase at = record {
    reserved = s.reserved;
    half = s.half;
    other = s.other;
    parts = s.parts;
    current = s.current;
    epoch_is = s.epoch_is;
    epoch_fits = s.epoch_fits;
    snapshot = s.snapshot;
    begins_at = s.begins_at;
    begins_with = s.begins_with;
    group = s.group;
    sound = s.sound;
    after_is = s.after_is;
    place = s.place;
    bytes = s.bytes;
    at = at;
  }

  -- the closed gate is durable
  pub switch_closed : (device : D) → disk.reads device ≡ image_of back s.reserved (with_closed_gate s.other) s.half → Only (disk.reads device) (disk.may_leave device) → IsSwitching disk (record store { device = device; phase = WriteHalf }) state after
  switch_closed device is only = record {
    reserved = s.reserved;
    half = s.half;
    other = with_closed_gate s.other;
    parts = record { reserved_length = s.parts.reserved_length; half_length = s.parts.half_length; other_length = closed_length ∙ s.parts.other_length };
    current = record { epoch = s.current.epoch; shows = s.current.shows; behind = shut_behind (with_closed_gate s.other) s.current.epoch (closed_shut s.other) };
    epoch_is = s.epoch_is;
    epoch_fits = s.epoch_fits;
    snapshot = s.snapshot;
    begins_at = s.begins_at;
    begins_with = s.begins_with;
    group = s.group;
    sound = s.sound;
    after_is = s.after_is;
    place = s.place;
    bytes = s.bytes;
    at = (closed_shut s.other, is, only);
  }

  -- the new half is durable, and the store goes on in it
  pub switch_ends : (now : Store D) → now.half ≡ opposite store.half → (store.epoch + 1 < 2 ^ 64 → now.epoch ≡ store.epoch + 1) → (store.fresh.place + length store.fresh.bytes ≤ HALF_LENGTH → now.gate ≡ store.fresh.place + length store.fresh.bytes - 1)
      → now.other_open ≡ true → now.phase ≡ WriteGroup → now.batch ≡ store.batch → now.plan ≡ store.plan
      → disk.reads now.device ≡ image_of back s.reserved (with_open_snapshot s.other bytes) s.half → Only (disk.reads now.device) (disk.may_leave now.device) → IsWriting disk now state after
  switch_ends now half epoch gate other phase batch plan is only =
      let reaches : store.fresh.place + length store.fresh.bytes ≤ HALF_LENGTH = omega (arith, s.begins_at, half_fits, s.parts.other_length) in
      let gate_now : now.gate ≡ 13 + length (records_of (canonical state)) = omega (arith, gate reaches, s.begins_at, bytes_length) in
      record {
        reserved = s.reserved;
        half = with_open_snapshot s.other bytes;
        other = s.half;
        parts = other_parts (with_open_snapshot s.other bytes) begun_length;
        current = (begun_at now.gate gate_now).0;
        epoch_is = (begun_at now.gate gate_now).1 ∙ sym (epoch s.epoch_fits);
        gate_is = (λ _. open_gate s.half store.epoch half_open, λ _. other);
        group = subst (λ (b : Batch). IsGroup b.changes) (sym batch) s.group;
        sound = subst (λ (b : Batch). StaySound b.changes state) (sym batch) s.sound;
        after_is = ap (λ (b : Batch). meaning_of b.changes state) batch ∙ s.after_is;
        room = subst (λ (b : Batch). now.gate + length (records_of b.changes) + 6 ≤ HALF_LENGTH) (sym batch) (omega (arith, gate_now, s.snapshot.size, s.group.1));
        place = ap (λ (p : Plan). p.place) plan ∙ s.place ∙ (omega (arith, bytes_length, gate_now));
        bytes = ap (λ (p : Plan). p.bytes) plan ∙ s.bytes ∙ ap (λ (b : Batch). planned_bytes b.changes) (sym batch);
        at = subst (λ (p : Phase). AtPhase p now.half s.reserved (with_open_snapshot s.other bytes) s.half now.gate now.batch.changes (disk.reads now.device) (disk.may_leave now.device)) (sym phase)
            (is ∙ (λ i. image_of (sym half i) s.reserved (with_open_snapshot s.other bytes) s.half), only);
      }

-- ---- how a batch begins

found_at : {image : List ℕ} {side : Half} {epoch gate : ℕ} {other_open : Bool} {state : State} (f : IsFound image side epoch gate other_open state) (g e : ℕ) → gate ≡ g → epoch ≡ e → (current : IsCurrent f.half f.other g state) × (current.epoch ≡ e)
found_at {epoch = epoch} {state = state} f g e gate_is epoch_is =
    subst (λ (n : ℕ). (current : IsCurrent f.half f.other n state) × (current.epoch ≡ e)) gate_is (f.current, f.epoch_is ∙ epoch_is)

pub group_begins : {D : Type 0} (disk : DiskModel D) (store now : Store D) (state : State) → IsIdle disk store state → IsGroup now.batch.changes → StaySound now.batch.changes state
    → now.device ≡ store.device → now.half ≡ store.half → now.epoch ≡ store.epoch → now.gate ≡ store.gate → now.other_open ≡ store.other_open → now.phase ≡ WriteGroup
    → store.gate + length (records_of now.batch.changes) + 6 ≤ HALF_LENGTH → now.plan.place ≡ store.gate + 1 → now.plan.bytes ≡ planned_bytes now.batch.changes → IsWriting disk now state (meaning_of now.batch.changes state)
group_begins {D = D} disk store now state idle group sound device half epoch gate other phase room place begins =
    let f = idle.found in
    record {
      reserved = f.reserved;
      half = f.half;
      other = f.other;
      parts = f.parts;
      current = (found_at f now.gate now.epoch (sym gate) (sym epoch)).0;
      epoch_is = (found_at f now.gate now.epoch (sym gate) (sym epoch)).1;
      gate_is = subst (λ (b : Bool). IsTrue b ↔ HasOpenGate f.other) (sym other) f.gate_is;
      group = group;
      sound = sound;
      after_is = refl;
      room = omega (arith, room, gate);
      place = omega (arith, place, gate);
      bytes = begins;
      at = subst (λ (p : Phase). AtPhase p now.half f.reserved f.half f.other now.gate now.batch.changes (disk.reads now.device) (disk.may_leave now.device)) (sym phase)
          (subst (λ (d : D). (disk.reads d ≡ image_of now.half f.reserved f.half f.other) × Only (disk.reads d) (disk.may_leave d)) (sym device) (f.is ∙ (λ i. image_of (sym half i) f.reserved f.half f.other), idle.durable));
    }

-- a switch begins by closing the other half where its gate is open, and else by writing it
first_call : (other_open : Bool) (side : Half) (reserved other half bytes : List ℕ) (reads : List ℕ) (images : List ℕ → Type 0) (phase : Phase) → (other_open ≡ false → phase ≡ WriteHalf) → (other_open ≡ true → phase ≡ CloseOther)
    → IsTrue other_open ↔ HasOpenGate other → reads ≡ image_of side reserved other half → Only reads images → AtSwitch phase side reserved other half bytes reads images
first_call true side reserved other half bytes reads images phase shut opens gate is only = subst (λ (p : Phase). AtSwitch p side reserved other half bytes reads images) (sym (opens refl)) (gate.0 refl, is, only)
first_call false side reserved other half bytes reads images phase shut opens gate is only = subst (λ (p : Phase). AtSwitch p side reserved other half bytes reads images) (sym (shut refl)) ((λ e. false≢true (gate.1 e)), is, only)

pub switch_begins : {D : Type 0} (disk : DiskModel D) (store : Store D) (batch : Batch) (plan fresh : Plan) (phase : Phase) (state : State) → IsIdle disk store state → IsGroup batch.changes → StaySound batch.changes state
    → store.epoch + 1 < 2 ^ 64 → IsSnapshot (canonical state) state → fresh.place ≡ 1 → fresh.bytes ≡ begun_bytes (store.epoch + 1) (canonical state) → plan.place ≡ length fresh.bytes + 1 → plan.bytes ≡ planned_bytes batch.changes
    → (store.other_open ≡ false → phase ≡ WriteHalf) → (store.other_open ≡ true → phase ≡ CloseOther) → IsSwitching disk (record store { phase = phase; batch = batch; plan = plan; fresh = fresh }) state (meaning_of batch.changes state)
switch_begins disk store batch plan fresh phase state idle group sound epoch_fits snapshot begins_at begins_with place bytes shut opens =
    let f = idle.found in
    record {
      reserved = f.reserved;
      half = f.half;
      other = f.other;
      parts = f.parts;
      current = f.current;
      epoch_is = f.epoch_is;
      epoch_fits = epoch_fits;
      snapshot = snapshot;
      begins_at = begins_at;
      begins_with = begins_with;
      group = group;
      sound = sound;
      after_is = refl;
      place = place;
      bytes = bytes;
      at = first_call store.other_open (opposite store.half) f.reserved f.other f.half fresh.bytes (disk.reads store.device) (disk.may_leave store.device) phase shut opens f.gate_is (f.is ∙ sym (turned store.half f.reserved f.half f.other)) idle.durable;
    }

-- ---- which calls are left

switch_calls : (phase : Phase) (side : Half) (reserved half current bytes reads : List ℕ) (images : List ℕ → Type 0) → AtSwitch phase side reserved half current bytes reads images → 4 < calls_from phase
switch_calls CloseOther side reserved half current bytes reads images at = omega arith
switch_calls SyncClosed side reserved half current bytes reads images at = omega arith
switch_calls WriteHalf side reserved half current bytes reads images at = omega arith
switch_calls SyncHalf side reserved half current bytes reads images at = omega arith
switch_calls OpenHalf side reserved half current bytes reads images at = omega arith
switch_calls SyncOpened side reserved half current bytes reads images at = omega arith
switch_calls Idle side reserved half current bytes reads images at = absurd at
switch_calls WriteGroup side reserved half current bytes reads images at = absurd at
switch_calls SyncGroup side reserved half current bytes reads images at = absurd at
switch_calls OpenGate side reserved half current bytes reads images at = absurd at
switch_calls SyncGate side reserved half current bytes reads images at = absurd at
switch_calls Done side reserved half current bytes reads images at = absurd at
switch_calls Failed side reserved half current bytes reads images at = absurd at

group_calls : (phase : Phase) (side : Half) (reserved half other : List ℕ) (gate : ℕ) (group : List Change) (reads : List ℕ) (images : List ℕ → Type 0) → AtPhase phase side reserved half other gate group reads images → calls_from phase ≤ 4
group_calls WriteGroup side reserved half other gate group reads images at = omega arith
group_calls SyncGroup side reserved half other gate group reads images at = omega arith
group_calls OpenGate side reserved half other gate group reads images at = omega arith
group_calls SyncGate side reserved half other gate group reads images at = omega arith
group_calls Done side reserved half other gate group reads images at = omega arith
group_calls Idle side reserved half other gate group reads images at = absurd at
group_calls CloseOther side reserved half other gate group reads images at = absurd at
group_calls SyncClosed side reserved half other gate group reads images at = absurd at
group_calls WriteHalf side reserved half other gate group reads images at = absurd at
group_calls SyncHalf side reserved half other gate group reads images at = absurd at
group_calls OpenHalf side reserved half other gate group reads images at = absurd at
group_calls SyncOpened side reserved half other gate group reads images at = absurd at
group_calls Failed side reserved half other gate group reads images at = absurd at

module _ {D : Type 0} (disk : DiskModel D) (store : Store D) (state after : State) where
  -- a batch with no call left wrote its group or has no changes, one with up to four writes it, and one with more is switching
  pub ends : calls_from store.phase ≤ 4 → IsCommitting disk store state after → IsWriting disk store state after ⊎ IsWithoutCalls disk store state after
  ends few s = ⊎_elim
      (λ switching. absurd (omega (arith, few, switch_calls store.phase (opposite store.half) switching.reserved switching.other switching.half store.fresh.bytes (disk.reads store.device) (disk.may_leave store.device) switching.at)))
      (λ rest. rest) s

  pub no_calls : IsWithoutCalls disk store state after → calls_from store.phase ≡ 0
  no_calls none = ap calls_from none.phase

  pub writes : 1 ≤ calls_from store.phase → calls_from store.phase ≤ 4 → IsCommitting disk store state after → IsWriting disk store state after
  writes some few s = ⊎_elim (λ writing. writing) (λ none. absurd (omega (arith, some, no_calls none))) (ends few s)

  pub switches : 4 < calls_from store.phase → IsCommitting disk store state after → IsSwitching disk store state after
  switches many s = ⊎_elim
      (λ switching. switching)
      (⊎_elim
      (λ writing. absurd (omega (arith, many, group_calls store.phase store.half writing.reserved writing.half writing.other store.gate store.batch.changes (disk.reads store.device) (disk.may_leave store.device) writing.at)))
      (λ none. absurd (omega (arith, many, no_calls none)))) s

  -- what a stop now shows
  pub committing_shows : IsCommitting disk store state after → (c : List ℕ) → disk.may_leave store.device c → MayShow (calls_from store.phase) state after c
  committing_shows s c left = ⊎_elim
      (λ switching. inl (switch_shows disk store state after switching c left))
      (⊎_elim (λ writing. now_shows disk store state after writing c left) (λ none. inl (at_rest_shows disk store state after none c left))) s

-- the calls of a switch, and those of a group
many_at : (phase at : Phase) → 4 < calls_from at → phase ≡ at → 4 < calls_from phase
many_at phase at many is = subst (λ (p : Phase). 4 < calls_from p) (sym is) many

few_at : (phase at : Phase) → (1 ≤ calls_from at) × (calls_from at ≤ 4) → phase ≡ at → (1 ≤ calls_from phase) × (calls_from phase ≤ 4)
few_at phase at few is = subst (λ (p : Phase). (1 ≤ calls_from p) × (calls_from p ≤ 4)) (sym is) few

pub of_switch : (phase : Phase) → (phase ≡ CloseOther) ⊎ (phase ≡ SyncClosed) ⊎ (phase ≡ WriteHalf) ⊎ (phase ≡ SyncHalf) ⊎ (phase ≡ OpenHalf) ⊎ (phase ≡ SyncOpened) → 4 < calls_from phase
of_switch phase is = ⊎_elim (many_at phase CloseOther (omega arith)) (⊎_elim (many_at phase SyncClosed (omega arith)) (⊎_elim (many_at phase WriteHalf (omega arith))
    (⊎_elim (many_at phase SyncHalf (omega arith)) (⊎_elim (many_at phase OpenHalf (omega arith)) (many_at phase SyncOpened (omega arith)))))) is

pub of_group : (phase : Phase) → (phase ≡ WriteGroup) ⊎ (phase ≡ SyncGroup) ⊎ (phase ≡ OpenGate) ⊎ (phase ≡ SyncGate) → (1 ≤ calls_from phase) × (calls_from phase ≤ 4)
of_group phase is = ⊎_elim (few_at phase WriteGroup (omega arith, omega arith)) (⊎_elim (few_at phase SyncGroup (omega arith, omega arith)) (⊎_elim (few_at phase OpenGate (omega arith, omega arith)) (few_at phase SyncGate (omega arith, omega arith)))) is
