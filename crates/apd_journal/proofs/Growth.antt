-- How a half grows by a group, and what stands behind its closed gate without being read.
use Rattle.std.proofs.Common.{◌≡◌, ◌≢◌, ◌≤◌, ◌<◌, ◌^◌, ◌+◌, ℕ, suc, List, [], ◌∷◌, ◌++◌, length, get_or, take, drop, refl, sym, ◌∙◌, ap, arith, length-append, take-append-drop}
use Rattle.std.proofs.lemmas.List.{append_assoc, append-nil, take_at, length-take-le}
use Rattle.std.proofs.Math.Seq.{drop-cons}
use Rattle.std.proofs.lemmas.Grind.{flat_map-append}
use Rattle.std.specs.Int.{to_le_bytes, w32, w64}
use Rattle.apd_disk.specs.Disk.{with_bytes}
use Rattle.apd_disk.proofs.Parts.{overwritten_parts}
use Rattle.apd_record.specs.Ranges.{AreChanges}
use Rattle.apd_record.specs.Record.{records_of}
use Rattle.apd_record.specs.declared.change.Change.{Change}
use Rattle.apd_journal.specs.Half.{block_of, group_of, planned_bytes, begun_bytes, IsGroup, AreGroups, groups_of, changes_of, IsFront, HalfHolds}
use Rattle.apd_journal.proofs.Once.{front_split}

-- ---- one group more

pub groups-push : (groups : List (List Change)) (group : List Change) → groups_of (groups ++ group ∷ []) ≡ groups_of groups ++ group_of group
groups-push groups group = flat_map-append group_of groups (group ∷ []) ∙ ap (λ (l : List ℕ). groups_of groups ++ l) (append-nil (group_of group))

pub changes-push : (groups : List (List Change)) (group : List Change) → changes_of (groups ++ group ∷ []) ≡ changes_of groups ++ group
changes-push groups group = flat_map-append (λ (l : List Change). l) groups (group ∷ []) ∙ ap (λ (l : List Change). changes_of groups ++ l) (append-nil group)

pub AreGroups-push : (groups : List (List Change)) (group : List Change) → AreGroups groups → IsGroup group → AreGroups (groups ++ group ∷ [])
AreGroups-push [] group are is = (is, tt)
AreGroups-push (first ∷ groups) group are is = (are.0, AreGroups-push groups group are.1 is)

-- the changes of one group more, behind others
pub adds_more : (before now : List Change) (groups : List (List Change)) (group : List Change) → now ≡ before ++ changes_of groups → now ++ group ≡ before ++ changes_of (groups ++ group ∷ [])
adds_more before now groups group adds =
    ap (λ (l : List Change). l ++ group) adds ∙ append_assoc before (changes_of groups) group ∙ ap (λ (l : List Change). before ++ l) (sym (changes-push groups group))

-- the front of a half that was begun anew: an epoch and a snapshot, and no group yet
pub new_front : (epoch : ℕ) (snapshot : List Change) → epoch < 2 ^ 64 → AreChanges snapshot → length (records_of snapshot) < 2 ^ 32 → IsFront (1 ∷ (to_le_bytes w64 epoch ++ block_of snapshot)) epoch snapshot
new_front epoch snapshot epoch_fits are fits = record {
  snapshot = snapshot;
  groups = [];
  is = ap (λ (l : List ℕ). 1 ∷ (to_le_bytes w64 epoch ++ l)) (sym (append-nil (block_of snapshot)));
  changes_are = sym (append-nil snapshot);
  epoch_fits = epoch_fits;
  snapshot_are = are;
  snapshot_fits = fits;
  groups_are = tt;
}

pub length-begun : (epoch : ℕ) (snapshot : List Change) → length (begun_bytes epoch snapshot) ≡ length (records_of snapshot) + 13
length-begun epoch snapshot = omega (arith, length-append (records_of snapshot) (0 ∷ []))

-- that front stands in the half once its bytes are written and its gate is opened
pub begun : (half : List ℕ) (epoch : ℕ) (snapshot : List Change) → epoch < 2 ^ 64 → AreChanges snapshot → length (records_of snapshot) < 2 ^ 32 → length (records_of snapshot) + 14 ≤ length half
    → HalfHolds (with_bytes (with_bytes half 1 (begun_bytes epoch snapshot)) 0 (1 ∷ [])) epoch snapshot (13 + length (records_of snapshot))
begun [] epoch snapshot epoch_fits are fits room = absurd (omega (arith, room))
begun (gate ∷ rest) epoch snapshot epoch_fits are fits room =
    let bytes = begun_bytes epoch snapshot in
    let n = length bytes in
    let size : n ≡ length (records_of snapshot) + 13 = length-begun epoch snapshot in
    let middle = take n rest in
    let back = drop n rest in
    let inside : length middle ≡ n = length-take-le n rest (omega (arith, room, size)) in
    let written : with_bytes (gate ∷ rest) 1 bytes ≡ gate ∷ (bytes ++ back) =
    ap (λ (l : List ℕ). with_bytes (gate ∷ l) 1 bytes) (sym (take-append-drop n rest)) ∙ overwritten_parts (gate ∷ []) middle back 1 n refl inside bytes refl in
    let front = 1 ∷ (to_le_bytes w64 epoch ++ block_of snapshot) in
    let is : with_bytes (with_bytes (gate ∷ rest) 1 bytes) 0 (1 ∷ []) ≡ front ++ (0 ∷ back) =
    ap (λ (l : List ℕ). with_bytes l 0 (1 ∷ [])) written ∙ overwritten_parts [] (gate ∷ []) (bytes ++ back) 0 1 refl refl (1 ∷ []) refl
    ∙ ap (λ (l : List ℕ). 1 ∷ l) (append_assoc (to_le_bytes w64 epoch) (planned_bytes snapshot) back ∙ ap (λ (l : List ℕ). to_le_bytes w64 epoch ++ l) (append_assoc (block_of snapshot) (0 ∷ []) back)
    ∙ sym (append_assoc (to_le_bytes w64 epoch) (block_of snapshot) (0 ∷ back))) in
    record {
      front = front;
      gate = 0;
      behind = back;
      is_front = new_front epoch snapshot epoch_fits are fits;
      closed = λ e. absurd (omega (arith, e));
      is = is;
      place_is = omega arith;
    }

pub front_grows : (front : List ℕ) (epoch : ℕ) (changes group : List Change) → IsFront front epoch changes → IsGroup group → IsFront (front ++ group_of group) epoch (changes ++ group)
front_grows front epoch changes group f is = record {
  snapshot = f.snapshot;
  groups = f.groups ++ group ∷ [];
  is = ap (λ (l : List ℕ). l ++ group_of group) f.is ∙ front_split epoch f.snapshot f.groups (group_of group)
      ∙ ap (λ (l : List ℕ). 1 ∷ (to_le_bytes w64 epoch ++ (block_of f.snapshot ++ l))) (sym (groups-push f.groups group));
  changes_are = adds_more f.snapshot changes f.groups group f.changes_are;
  epoch_fits = f.epoch_fits;
  snapshot_are = f.snapshot_are;
  snapshot_fits = f.snapshot_fits;
  groups_are = AreGroups-push f.groups group f.groups_are is;
}

-- ---- bytes behind a front

pub length-planned : (group : List Change) → length (planned_bytes group) ≡ length (records_of group) + 5
length-planned group = omega (arith, length-append (records_of group) (0 ∷ []))

-- an open gate and what was planned behind it are the group and a closed gate
pub opened_split : (front : List ℕ) (group : List Change) (tail : List ℕ) → front ++ (1 ∷ (planned_bytes group ++ tail)) ≡ (front ++ group_of group) ++ (0 ∷ tail)
opened_split front group tail =
    ap (λ (l : List ℕ). front ++ (1 ∷ (to_le_bytes w32 (length (records_of group)) ++ l))) (append_assoc (records_of group) (0 ∷ []) tail)
    ∙ sym (append_assoc front (group_of group) (0 ∷ tail))

-- what a front holds with a closed gate, whatever stands behind it
pub front_holds : (front : List ℕ) (epoch : ℕ) (changes : List Change) (gate : ℕ) (behind : List ℕ) → IsFront front epoch changes → gate ≢ 1 → HalfHolds (front ++ (gate ∷ behind)) epoch changes (length front)
front_holds front epoch changes gate behind is_front closed = record { front = front; gate = gate; behind = behind; is_front = is_front; closed = closed; is = refl; place_is = refl }

-- the closed gate is inside the half
pub gate_inside : (half : List ℕ) (epoch : ℕ) (changes : List Change) (place : ℕ) → HalfHolds half epoch changes place → place < length half
gate_inside half epoch changes place h = omega (arith, ap length h.is, length-append h.front (h.gate ∷ h.behind), h.place_is)

module _ (half : List ℕ) (epoch : ℕ) (changes : List Change) (place : ℕ) (h : HalfHolds half epoch changes place) where
  -- the front and the closed gate
  abbrev head : List ℕ
  head = h.front ++ h.gate ∷ []

  head_length : length head ≡ place + 1
  head_length = omega (arith, length-append h.front (h.gate ∷ []), h.place_is)

  joined : (tail : List ℕ) → head ++ tail ≡ h.front ++ (h.gate ∷ tail)
  joined tail = append_assoc h.front (h.gate ∷ []) tail

  -- from the closed gate on anything may stand whose first byte is not 1
  pub behind_unread : (other : List ℕ) → take place other ≡ take place half → place < length other → get_or other place 0 ≢ 1 → HalfHolds other epoch changes place
  behind_unread other same inside closed =
      let mine : take place half ≡ h.front = ap (λ (l : List ℕ). take place l) h.is ∙ take_at h.front (h.gate ∷ h.behind) place h.place_is in
      record {
        front = h.front;
        gate = get_or other place 0;
        behind = drop (suc place) other;
        is_front = h.is_front;
        closed = closed;
        is = sym (take-append-drop place other) ∙ (λ i. (same ∙ mine) i ++ drop-cons other place 0 inside i);
        place_is = h.place_is;
      }

  -- what was planned is written behind the closed gate, and the gate is then opened
  pub opened : (group : List Change) → IsGroup group → place + length (records_of group) + 6 ≤ length half
      → HalfHolds (with_bytes (with_bytes half (place + 1) (planned_bytes group)) place (1 ∷ [])) epoch (changes ++ group) (place + 5 + length (records_of group))
  opened group is room =
      let n = length (planned_bytes group) in
      let long : length half ≡ place + 1 + length h.behind = omega (arith, ap length h.is, length-append h.front (h.gate ∷ h.behind), h.place_is) in
      let middle = take n h.behind in
      let back = drop n h.behind in
      let inside : length middle ≡ n = length-take-le n h.behind (omega (arith, long, room, length-planned group)) in
      let parts : half ≡ head ++ (middle ++ back) = h.is ∙ sym (joined h.behind) ∙ ap (λ (l : List ℕ). head ++ l) (sym (take-append-drop n h.behind)) in
      let laid : with_bytes half (place + 1) (planned_bytes group) ≡ h.front ++ ((h.gate ∷ []) ++ (planned_bytes group ++ back)) =
      ap (λ (l : List ℕ). with_bytes l (place + 1) (planned_bytes group)) parts ∙ overwritten_parts head middle back (place + 1) n head_length inside (planned_bytes group) refl ∙ joined (planned_bytes group ++ back) in
      let open_is : with_bytes (with_bytes half (place + 1) (planned_bytes group)) place (1 ∷ []) ≡ h.front ++ (1 ∷ (planned_bytes group ++ back)) =
      ap (λ (l : List ℕ). with_bytes l place (1 ∷ [])) laid ∙ overwritten_parts h.front (h.gate ∷ []) (planned_bytes group ++ back) place 1 h.place_is refl (1 ∷ []) refl in
      record {
        front = h.front ++ group_of group;
        gate = 0;
        behind = back;
        is_front = front_grows h.front epoch changes group h.is_front is;
        closed = λ e. absurd (omega (arith, e));
        is = open_is ∙ opened_split h.front group back;
        place_is = omega (arith, length-append h.front (group_of group), h.place_is);
      }
