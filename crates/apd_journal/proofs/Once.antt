-- Blocks, groups and halves are read in one way.
use Rattle.std.proofs.Common.{◌≡◌, ◌≢◌, ◌<◌, ◌^◌, ℕ, List, [], ◌∷◌, ◌++◌, length, drop, refl, sym, ◌∙◌, ap, arith}
use Rattle.std.proofs.lemmas.List.{append_assoc}
use Rattle.std.proofs.lemmas.Nat.{from_le_bytes-to_le_bytes_4, from_le_bytes-to_le_bytes_8}
use Rattle.std.specs.Int.{to_le_bytes, from_le_bytes, w32, w64}
use Rattle.apd_record.specs.Ranges.{AreChanges}
use Rattle.apd_record.specs.Record.{records_of}
use Rattle.apd_record.specs.declared.change.Change.{Change}
use Rattle.apd_record.proofs.Fronts.{same_front}
use Rattle.apd_record.proofs.Unique.{records_once}
use Rattle.apd_journal.specs.Half.{block_of, AreGroups, groups_of, changes_of, front_of, HalfHolds}
use Rattle.apd_journal.specs.Reading.{HasBlock}

-- ---- how the bytes are joined

-- a group, and what is behind it
pub group_split : (group : List Change) (groups : List (List Change)) (tail : List ℕ) → groups_of (group ∷ groups) ++ tail ≡ 1 ∷ (block_of group ++ (groups_of groups ++ tail))
group_split group groups tail = ap (λ (l : List ℕ). 1 ∷ (to_le_bytes w32 (length (records_of group)) ++ l)) (append_assoc (records_of group) (groups_of groups) tail)

-- the parts of a front, and what is behind it
pub front_split : (epoch : ℕ) (snapshot : List Change) (groups : List (List Change)) (tail : List ℕ)
    → front_of epoch snapshot groups ++ tail ≡ 1 ∷ (to_le_bytes w64 epoch ++ (block_of snapshot ++ (groups_of groups ++ tail)))
front_split epoch snapshot groups tail =
    ap (λ (l : List ℕ). 1 ∷ (to_le_bytes w64 epoch ++ (to_le_bytes w32 (length (records_of snapshot)) ++ l))) (append_assoc (records_of snapshot) (groups_of groups) tail)

-- ---- in one way

pub block_once : (xs ys : List Change) (r s : List ℕ) → AreChanges xs → AreChanges ys → length (records_of xs) < 2 ^ 32 → length (records_of ys) < 2 ^ 32
    → block_of xs ++ r ≡ block_of ys ++ s → (xs ≡ ys) × (r ≡ s)
block_once xs ys r s p q small_x small_y e =
    let size : length (records_of xs) ≡ length (records_of ys) =
    sym (from_le_bytes-to_le_bytes_4 (length (records_of xs)) small_x) ∙ ap (λ (l : List ℕ). from_le_bytes w32 l) e ∙ from_le_bytes-to_le_bytes_4 (length (records_of ys)) small_y in
    let both = same_front (records_of xs) (records_of ys) r s size (ap (λ (l : List ℕ). drop 4 l) e) in
    (records_once xs ys p q both.0, both.1)

pub same_block : (bytes : List ℕ) (limit : ℕ) (xs ys : List Change) (r s : List ℕ) → limit < 2 ^ 32 → HasBlock bytes limit xs r → HasBlock bytes limit ys s → (xs ≡ ys) × (r ≡ s)
same_block bytes limit xs ys r s small first second =
    block_once xs ys r s first.are second.are (omega (arith, first.short, small)) (omega (arith, second.short, small)) (sym first.is ∙ second.is)

pub groups_once : (xs ys : List (List Change)) (g h : ℕ) (r s : List ℕ) → AreGroups xs → AreGroups ys → g ≢ 1 → h ≢ 1 → groups_of xs ++ (g ∷ r) ≡ groups_of ys ++ (h ∷ s) → xs ≡ ys
groups_once [] [] g h r s p q shut closed e = refl
groups_once [] (y ∷ ys) g h r s p q shut closed e = absurd (shut (cc))
groups_once (x ∷ xs) [] g h r s p q shut closed e = absurd (closed (cc))
groups_once (x ∷ xs) (y ∷ ys) g h r s p q shut closed e =
    let inside = ap (λ (l : List ℕ). drop 1 l) (sym (group_split x xs (g ∷ r)) ∙ e ∙ group_split y ys (h ∷ s)) in
    let first = block_once x y (groups_of xs ++ (g ∷ r)) (groups_of ys ++ (h ∷ s)) p.0.0 q.0.0 (omega (arith, p.0.1)) (omega (arith, q.0.1)) inside in
    let behind = groups_once xs ys g h r s p.1 q.1 shut closed first.1 in
    (λ i. first.0 i ∷ behind i)

pub half_once : (half : List ℕ) (e f : ℕ) (xs ys : List Change) (p q : ℕ) → HalfHolds half e xs p → HalfHolds half f ys q → (e ≡ f) × (xs ≡ ys) × (p ≡ q)
half_once half e f xs ys p q h k =
    let a = h.is_front in
    let b = k.is_front in
    let first = h.gate ∷ h.behind in
    let second = k.gate ∷ k.behind in
    let whole = sym (ap (λ (l : List ℕ). l ++ first) a.is ∙ front_split e a.snapshot a.groups first) ∙ sym h.is ∙ k.is ∙ ap (λ (l : List ℕ). l ++ second) b.is ∙ front_split f b.snapshot b.groups second in
    let epochs : e ≡ f = sym (from_le_bytes-to_le_bytes_8 e a.epoch_fits) ∙ ap (λ (l : List ℕ). from_le_bytes w64 (drop 1 l)) whole ∙ from_le_bytes-to_le_bytes_8 f b.epoch_fits in
    let snapshots = block_once a.snapshot b.snapshot (groups_of a.groups ++ first) (groups_of b.groups ++ second) a.snapshot_are b.snapshot_are a.snapshot_fits b.snapshot_fits (ap (λ (l : List ℕ). drop 9 l) whole) in
    let groups = groups_once a.groups b.groups h.gate k.gate h.behind k.behind a.groups_are b.groups_are h.closed k.closed snapshots.1 in
    let changes : xs ≡ ys = a.changes_are ∙ (λ i. snapshots.0 i ++ changes_of (groups i)) ∙ sym b.changes_are in
    let fronts : h.front ≡ k.front = a.is ∙ (λ i. front_of (epochs i) (snapshots.0 i) (groups i)) ∙ sym b.is in
    (epochs, changes, sym h.place_is ∙ ap length fronts ∙ k.place_is)
