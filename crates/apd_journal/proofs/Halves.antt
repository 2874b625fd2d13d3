-- A half, part by part.
use Rattle.std.proofs.Common.{◌≡◌, ◌≤◌, ◌<◌, ◌+◌, ◌-◌, ◌^◌, ℕ, suc, List, ◌∷◌, ◌++◌, length, take, drop, refl, sym, ◌∙◌, ap, subst, arith, length-append, length-take, take-append-drop}
use Rattle.std.proofs.lemmas.Nat.{le_bytes_8}
use Rattle.std.specs.Int.{to_le_bytes, from_le_bytes, w64}
use Rattle.apd_record.specs.Record.{records_of}
use Rattle.apd_record.specs.declared.change.Change.{Change}
use Rattle.apd_record.proofs.Fronts.{IsBytes, IsBytes-take}
use Rattle.apd_journal.specs.Half.{block_of, groups_of, front_of, HalfHolds}
use Rattle.apd_journal.specs.Reading.{HasBlock, HasGroups}
use Rattle.apd_journal.proofs.Once.{front_split, same_block}

-- an open gate, an epoch, and the rest
abbrev pub HasEpoch : List ℕ → ℕ → List ℕ → Type 0
HasEpoch half epoch rest = half ≡ 1 ∷ (to_le_bytes w64 epoch ++ rest)

-- an epoch that was read from the eight bytes behind an open gate
pub epoch_is : (half body front rest : List ℕ) (epoch : ℕ) → IsBytes half → half ≡ 1 ∷ body → front ≡ take 8 body → rest ≡ drop 8 body → 8 ≤ length body → epoch ≡ from_le_bytes w64 front → HasEpoch half epoch rest
epoch_is half body front rest epoch bytes open_half e behind long value =
    let inside : IsBytes body = λ i. subst IsBytes open_half bytes (suc i) in
    let back : to_le_bytes w64 epoch ≡ take 8 body = le_bytes_8 (take 8 body) epoch (omega (arith, length-take 8 body)) (IsBytes-take 8 body inside) (value ∙ ap (λ (l : List ℕ). from_le_bytes w64 l) e) in
    open_half ∙ ap (λ (l : List ℕ). 1 ∷ l) (sym (take-append-drop 8 body) ∙ (λ i. sym back i ++ sym behind i))

-- what a half that holds changes consists of
pub record Parts (half : List ℕ) (epoch : ℕ) (changes : List Change) : Type 0 where
  pub body : List ℕ
  pub is : HasEpoch half epoch body
  pub snapshot : List Change
  pub rest : List ℕ
  pub block : HasBlock body 4294967295 snapshot rest
  pub place : ℕ
  pub has_groups : HasGroups rest snapshot changes place

pub half_parts : (half : List ℕ) (epoch : ℕ) (changes : List Change) (place : ℕ) → HalfHolds half epoch changes place → Parts half epoch changes
half_parts half epoch changes place h =
    let f = h.is_front in
    let tail = h.gate ∷ h.behind in
    record {
      body = block_of f.snapshot ++ (groups_of f.groups ++ tail);
      is = h.is ∙ ap (λ (l : List ℕ). l ++ tail) f.is ∙ front_split epoch f.snapshot f.groups tail;
      snapshot = f.snapshot;
      rest = groups_of f.groups ++ tail;
      block = record { are = f.snapshot_are; short = omega (arith, f.snapshot_fits); is = refl };
      place = length (groups_of f.groups);
      has_groups = record { groups = f.groups; gate = h.gate; behind = h.behind; are = f.groups_are; closed = h.closed; is = refl; adds = f.changes_are; place_is = refl };
    }

-- ---- halves that hold nothing

abbrev pub HoldsNothing : List ℕ → Type 0
HoldsNothing half = (epoch : ℕ) (changes : List Change) (place : ℕ) → HalfHolds half epoch changes place → ⊥

module _ (half : List ℕ) (epoch : ℕ) (body : List ℕ) (is : HasEpoch half epoch body) where
  same_body : (e : ℕ) (b : List ℕ) → HasEpoch half e b → b ≡ body
  same_body e b other = ap (λ (l : List ℕ). drop 9 l) (sym other ∙ is)

  module _ (snapshot : List Change) (rest : List ℕ) (block : HasBlock body 4294967295 snapshot rest) where
    pub no_groups : ((after : List Change) (place : ℕ) → HasGroups rest snapshot after place → ⊥) → HoldsNothing half
    no_groups none e changes place h =
        let p = half_parts half e changes place h in
        let same = same_block body 4294967295 p.snapshot snapshot p.rest rest (omega arith) (subst (λ (l : List ℕ). HasBlock l 4294967295 p.snapshot p.rest) (same_body e p.body p.is) p.block) block in
        none changes p.place (subst (λ (l : List ℕ). HasGroups l snapshot changes p.place) same.1 (subst (λ (l : List Change). HasGroups p.rest l changes p.place) same.0 p.has_groups))

    -- ---- a half that holds changes

    -- what stands before the groups
    pub before_groups : length half ≡ 13 + length (records_of snapshot) + length rest
    before_groups = omega (arith, ap length is, ap length block.is, length-append (records_of snapshot) rest)

    pub holds : (changes : List Change) (place : ℕ) → epoch < 2 ^ 64 → HasGroups rest snapshot changes place → HalfHolds half epoch changes (length half - length rest + place)
    holds changes place fits r =
        let tail = r.gate ∷ r.behind in
        record {
          front = front_of epoch snapshot r.groups;
          gate = r.gate;
          behind = r.behind;
          is_front = record { snapshot = snapshot; groups = r.groups; is = refl; changes_are = r.adds; epoch_fits = fits; snapshot_are = block.are; snapshot_fits = omega (arith, block.short); groups_are = r.are };
          closed = r.closed;
          is = is ∙ ap (λ (l : List ℕ). 1 ∷ (to_le_bytes w64 epoch ++ l)) (block.is ∙ ap (λ (l : List ℕ). block_of snapshot ++ l) r.is) ∙ sym (front_split epoch snapshot r.groups tail);
          place_is = omega (arith, before_groups, length-append (records_of snapshot) (groups_of r.groups), r.place_is);
        }
