-- Changes that are made one after another from the empty state.
use Rattle.std.proofs.Common.{◌≡◌, ◌<◌, ◌≤◌, ◌+◌, ℕ, suc, List, [], ◌∷◌, length, get_or, drop, refl, sym, ◌∙◌, subst, arith, length-drop}
use Rattle.apd_store.proofs.Words.{Change, Sound, State, StaySound, drop-cons, empty_state, meaning, meaning_of, nil_from_length, sound_empty}
use Rattle.apd_table.proofs.InTurn.{stay_first}

-- some changes were made, and these are left: what all lead to, these lead to from here
pub record Replayed (changes left : List Change) (now : State) : Type 0 where
  pub sound : Sound now
  pub leads : meaning_of changes empty_state ≡ meaning_of left now
  pub stays : StaySound changes empty_state → StaySound left now
  pub stayed : StaySound left now → StaySound changes empty_state

pub replayed_none : (changes : List Change) → Replayed changes changes empty_state
replayed_none changes = record { sound = sound_empty; leads = refl; stays = λ s. s; stayed = λ s. s }

module _ (changes : List Change) (i : ℕ) (change : Change) (now : State) (inside : i < length changes) (is : change ≡ get_or changes i change) (r : Replayed changes (drop i changes) now) where
  next : drop i changes ≡ change ∷ drop (i + 1) changes
  next = drop-cons changes i change inside ∙ (λ k. sym is k ∷ drop ((let e : suc i ≡ i + 1 = omega arith in e) k) changes)

  before : Replayed changes (change ∷ drop (i + 1) changes) now
  before = subst (λ (l : List Change). Replayed changes l now) (drop-cons changes i change inside ∙ (λ k. sym is k ∷ drop ((let e : suc i ≡ i + 1 = omega arith in e) k) changes)) r

  pub replayed_more : Sound (meaning change now) → Replayed changes (drop (i + 1) changes) (meaning change now)
  replayed_more sound = record { sound = sound; leads = before.leads; stays = λ s. (before.stays s).1; stayed = λ s. before.stayed (before.sound, s) }

  pub replayed_bad : ¬ Sound (meaning change now) → ¬ StaySound changes empty_state
  replayed_bad bad stays = bad (stay_first (drop (i + 1) changes) (meaning change now) (before.stays stays).1)

pub replayed_all : (changes : List Change) (i : ℕ) (now : State) → length changes ≤ i → Replayed changes (drop i changes) now → (now ≡ meaning_of changes empty_state) × StaySound changes empty_state
replayed_all changes i now end r =
    let none : drop i changes ≡ [] = nil_from_length (drop i changes) (omega (arith, length-drop i changes)) in
    let last = subst (λ (l : List Change). Replayed changes l now) none r in
    (sym last.leads, last.stayed last.sound)
