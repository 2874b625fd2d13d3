-- Open groups, group by group.
use Rattle.std.proofs.Common.{◌≡◌, ◌≢◌, ◌≤◌, ◌<◌, ◌+◌, ◌-◌, ℕ, List, [], ◌∷◌, ◌++◌, length, get_or, take, drop, refl, sym, ◌∙◌, ap, subst, arith, length-append}
use Rattle.std.proofs.lemmas.List.{append_assoc, append-nil, take_rest}
use Rattle.apd_base.specs.declared.limits.TheConstants.{MAX_GROUP}
use Rattle.apd_record.specs.declared.change.Change.{Change}
use Rattle.apd_journal.specs.Half.{group_of, AreGroups, groups_of, changes_of}
use Rattle.apd_journal.specs.Reading.{HasBlock, HasGroups}
use Rattle.apd_journal.proofs.Once.{group_split, same_block}
use Rattle.apd_journal.proofs.Growth.{groups-push, AreGroups-push, adds_more}

pub groups_empty : (before after : List Change) (place : ℕ) → HasGroups [] before after place → ⊥
groups_empty before after place r = absurd (omega (arith, ap length r.is, length-append (groups_of r.groups) (r.gate ∷ r.behind)))

-- what stands behind an open gate
pub record Opens (bytes : List ℕ) (before after : List Change) : Type 0 where
  pub group : List Change
  pub next : List ℕ
  pub block : HasBlock bytes MAX_GROUP group next
  pub place : ℕ
  pub has_groups : HasGroups next (before ++ group) after place

opens : (groups : List (List Change)) (bytes : List ℕ) (before after : List Change) (gate : ℕ) (behind : List ℕ) → AreGroups groups → after ≡ before ++ changes_of groups → gate ≢ 1
    → 1 ∷ bytes ≡ groups_of groups ++ (gate ∷ behind) → Opens bytes before after
opens [] bytes before after gate behind are adds closed is = absurd (closed (cc))
opens (group ∷ groups) bytes before after gate behind are adds closed is = record {
  group = group;
  next = groups_of groups ++ (gate ∷ behind);
  block = record { are = are.0.0; short = are.0.1; is = ap (λ (l : List ℕ). drop 1 l) (is ∙ group_split group groups (gate ∷ behind)) };
  place = length (groups_of groups);
  has_groups = record { groups = groups; gate = gate; behind = behind; are = are.1; closed = closed; is = refl; adds = adds ∙ sym (append_assoc before group (changes_of groups)); place_is = refl };
}

pub groups_open : (bytes : List ℕ) (before after : List Change) (place : ℕ) → HasGroups (1 ∷ bytes) before after place → Opens bytes before after
groups_open bytes before after place r = opens r.groups bytes before after r.gate r.behind r.are r.adds r.closed r.is

-- Groups were read up to the rest, and led from changes to those now; what the whole has, the rest has from there.
pub record HasRead (bytes : List ℕ) (before : List Change) (rest : List ℕ) (now : List Change) : Type 0 where
  pub groups : List (List Change)
  pub are : AreGroups groups
  pub is : bytes ≡ groups_of groups ++ rest
  pub adds : now ≡ before ++ changes_of groups
  pub only : (after : List Change) (place : ℕ) → HasGroups bytes before after place → (p : ℕ) × HasGroups rest now after p

module _ (bytes : List ℕ) (before : List Change) where
  pub reads_none : HasRead bytes before bytes before
  reads_none = record { groups = []; are = tt; is = refl; adds = sym (append-nil before); only = λ after place r. (place, r) }

  -- one group more
  pub reads_more : (behind : List ℕ) (now group : List Change) (next : List ℕ) → HasRead bytes before (1 ∷ behind) now → HasBlock behind MAX_GROUP group next → HasRead bytes before next (now ++ group)
  reads_more behind now group next so_far block = record {
    groups = so_far.groups ++ group ∷ [];
    are = AreGroups-push so_far.groups group so_far.are (block.are, block.short);
    is = so_far.is ∙ ap (λ (l : List ℕ). groups_of so_far.groups ++ (1 ∷ l)) block.is ∙ sym (append_assoc (groups_of so_far.groups) (group_of group) next)
        ∙ ap (λ (l : List ℕ). l ++ next) (sym (groups-push so_far.groups group));
    adds = adds_more before now so_far.groups group so_far.adds;
    only = λ after place r.
        let o = groups_open behind now after (so_far.only after place r).0 (so_far.only after place r).1 in
        let same = same_block behind MAX_GROUP o.group group o.next next (omega arith) o.block block in
        (o.place, subst (λ (l : List ℕ). HasGroups l (now ++ group) after o.place) same.1 (subst (λ (l : List Change). HasGroups o.next (now ++ l) after o.place) same.0 o.has_groups));
  }

  -- a closed gate ends them
  pub reads_gate : (gate : ℕ) (behind : List ℕ) (now : List Change) (place : ℕ) → HasRead bytes before (gate ∷ behind) now → gate ≢ 1 → place + length (gate ∷ behind) ≡ length bytes → HasGroups bytes before now place
  reads_gate gate behind now place so_far closed size = record {
    groups = so_far.groups;
    gate = gate;
    behind = behind;
    are = so_far.are;
    closed = closed;
    is = so_far.is;
    adds = so_far.adds;
    place_is = omega (arith, size, ap length so_far.is, length-append (groups_of so_far.groups) (gate ∷ behind));
  }

  -- nothing is there where the rest has nothing
  pub reads_empty : (now : List Change) → HasRead bytes before [] now → (after : List Change) (place : ℕ) → HasGroups bytes before after place → ⊥
  reads_empty now so_far after place r = groups_empty now after (so_far.only after place r).0 (so_far.only after place r).1

  pub reads_no_block : (behind : List ℕ) (now : List Change) → HasRead bytes before (1 ∷ behind) now → ((changes : List Change) (next : List ℕ) → HasBlock behind MAX_GROUP changes next → ⊥)
      → (after : List Change) (place : ℕ) → HasGroups bytes before after place → ⊥
  reads_no_block behind now so_far none after place r =
      let o = groups_open behind now after (so_far.only after place r).0 (so_far.only after place r).1 in
      none o.group o.next o.block

-- the place of a closed gate is inside
pub place_inside : (bytes : List ℕ) (before after : List Change) (place : ℕ) → HasGroups bytes before after place → place < length bytes
place_inside bytes before after place r = omega (arith, ap length r.is, length-append (groups_of r.groups) (r.gate ∷ r.behind), r.place_is)

-- a list that begins with an open gate, with its rest as a pattern gives it
pub opened_rest : (rest : List ℕ) → 1 ≤ length rest → get_or rest 0 0 ≡ 1 → rest ≡ 1 ∷ take (length rest - 1) (drop 1 rest)
opened_rest [] long is = absurd (omega arith)
opened_rest (gate ∷ behind) long is = (λ i. is i ∷ behind) ∙ ap (λ (l : List ℕ). 1 ∷ l) (sym (take_rest (gate ∷ behind) 1))
