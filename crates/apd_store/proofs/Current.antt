-- What the current half of an image shows, and what stays of it while a group is written behind its closed gate.
use Rattle.std.proofs.Common.{◌≡◌, ◌≢◌, ◌≤◌, ◌<◌, ◌+◌, ◌⊎◌, inl, inr, ℕ, Bool, suc, List, [], ◌∷◌, ◌++◌, length, get_or, take, drop, refl, sym, ◌∙◌, ap, subst, arith, length-append, take-append-drop}
use Rattle.apd_store.proofs.Words.{A, AreParts, B, Change, Half, HalfHolds, IsCurrent, IsFound, IsFoundBy, IsGroup, Shows, ShowsBy, State, StaySound, TornWithin, append_assoc, behind_unread, drop-cons, empty_state, front_holds, image_by, image_of, length-planned, length-with_bytes, magic, meaning, meaning_of, planned_bytes, records_of, take-take, take_at, torn_overwritten, with_group, with_open_group}
use Rattle.apd_table.proofs.Denied.{meaning_of-append}
use Rattle.apd_journal.proofs.Growth.{opened as opened_holds}

-- ---- whole images

pub image_shows_by : (mark : List ℕ) (side : Half) (reserved half other : List ℕ) (gate : ℕ) (state : State) → AreParts reserved half other → IsCurrent half other gate state
    → ShowsBy mark (image_by mark side reserved half other) state
image_shows_by mark A reserved half other gate state p current = record {
  a = half;
  b = other;
  store = record { reserved = reserved; is = refl; reserved_length = p.reserved_length; a_length = p.half_length; b_length = p.other_length };
  gate = gate;
  current = inl current;
}
image_shows_by mark B reserved half other gate state p current = record {
  a = other;
  b = half;
  store = record { reserved = reserved; is = refl; reserved_length = p.reserved_length; a_length = p.other_length; b_length = p.half_length };
  gate = gate;
  current = inr current;
}

pub image_shows : (side : Half) (reserved half other : List ℕ) (gate : ℕ) (state : State) → AreParts reserved half other → IsCurrent half other gate state → Shows (image_of side reserved half other) state
image_shows side reserved half other gate state p current = image_shows_by magic side reserved half other gate state p current

pub found_shows_by : (mark image : List ℕ) (side : Half) (epoch gate : ℕ) (other_open : Bool) (state : State) → IsFoundBy mark image side epoch gate other_open state → ShowsBy mark image state
found_shows_by mark image side epoch gate other_open state f = subst (λ (l : List ℕ). ShowsBy mark l state) (sym f.is) (image_shows_by mark side f.reserved f.half f.other gate state f.parts f.current)

pub found_shows : (image : List ℕ) (side : Half) (epoch gate : ℕ) (other_open : Bool) (state : State) → IsFound image side epoch gate other_open state → Shows image state
found_shows image side epoch gate other_open state f = found_shows_by magic image side epoch gate other_open state f

pub same_parts : (reserved half h other : List ℕ) → AreParts reserved half other → length h ≡ length half → AreParts reserved h other
same_parts reserved half h other p same = record { reserved_length = p.reserved_length; half_length = same ∙ p.half_length; other_length = p.other_length }

-- ---- changes behind others

pub stay_sound-append : (xs ys : List Change) (s : State) → StaySound xs s → StaySound ys (meaning_of xs s) → StaySound (xs ++ ys) s
stay_sound-append [] ys s first second = second
stay_sound-append (x ∷ xs) ys s first second = (first.0, stay_sound-append xs ys (meaning x s) first.1 second)

-- ---- a group behind the closed gate

-- what stands before a place stays where only bytes behind it are torn
torn_front : (half h : List ℕ) (place n k : ℕ) → TornWithin place n half h → k ≤ place → take k h ≡ take k half
torn_front half h place n k torn le =
    sym (take-take k place h le) ∙ ap (λ (l : List ℕ). take k l) torn.before ∙ take-take k place half le

module _ (half other : List ℕ) (gate : ℕ) (state : State) (current : IsCurrent half other gate state) where
  holds : HalfHolds half current.epoch current.shows.changes gate
  holds = current.shows.holds

  half_is : half ≡ (holds.front ++ holds.gate ∷ []) ++ holds.behind
  half_is = holds.is ∙ sym (append_assoc holds.front (holds.gate ∷ []) holds.behind)

  gated_length : length (holds.front ++ holds.gate ∷ []) ≡ gate + 1
  gated_length = omega (arith, length-append holds.front (holds.gate ∷ []), holds.place_is)

  pub gate_before_end : gate + 1 ≤ length half
  gate_before_end = omega (arith, ap length half_is, length-append (holds.front ++ holds.gate ∷ []) holds.behind, gated_length)

  -- another half that holds the same changes is current too
  stays : (h : List ℕ) → HalfHolds h current.epoch current.shows.changes gate → IsCurrent h other gate state
  stays h same = record {
    epoch = current.epoch;
    shows = record { changes = current.shows.changes; holds = same; sound = current.shows.sound; state_is = current.shows.state_is };
    behind = current.behind;
  }

  -- the bytes behind the closed gate are not looked at
  pub current_behind : (h : List ℕ) → take (gate + 1) h ≡ take (gate + 1) half → IsCurrent h other gate state
  current_behind h same =
      let begins : take (gate + 1) h ≡ holds.front ++ holds.gate ∷ [] = same ∙ ap (λ (l : List ℕ). take (gate + 1) l) half_is ∙ take_at (holds.front ++ holds.gate ∷ []) holds.behind (gate + 1) gated_length in
      let is : h ≡ holds.front ++ (holds.gate ∷ drop (gate + 1) h) = sym (take-append-drop (gate + 1) h) ∙ ap (λ (l : List ℕ). l ++ drop (gate + 1) h) begins ∙ append_assoc holds.front (holds.gate ∷ []) (drop (gate + 1) h) in
      stays h (subst (λ (l : List ℕ). HalfHolds l current.epoch current.shows.changes gate) (sym is)
      (subst (λ (p : ℕ). HalfHolds (holds.front ++ (holds.gate ∷ drop (gate + 1) h)) current.epoch current.shows.changes p) holds.place_is
      (front_holds holds.front current.epoch current.shows.changes holds.gate (drop (gate + 1) h) holds.is_front holds.closed)))

  module _ (group : List Change) (after : State) (is_group : IsGroup group) (sound : StaySound group state) (after_is : meaning_of group state ≡ after) (room : gate + length (records_of group) + 6 ≤ length half) where
    -- the group is written behind the closed gate
    pub laid_fits : (gate + 1) + length (planned_bytes group) ≤ length half
    laid_fits = omega (arith, length-planned group, room)

    laid_torn : TornWithin (gate + 1) (length (planned_bytes group)) half (with_group half gate group)
    laid_torn = torn_overwritten half (gate + 1) (planned_bytes group) (omega (arith, length-planned group, room))

    pub laid_length : length (with_group half gate group) ≡ length half
    laid_length = laid_torn.same_length

    pub laid_current : IsCurrent (with_group half gate group) other gate state
    laid_current = current_behind (with_group half gate group) laid_torn.before

    pub opened_length : length (with_open_group half gate group) ≡ length half
    opened_length = length-with_bytes (with_group half gate group) gate (1 ∷ []) (omega (arith, laid_length, gate_before_end)) ∙ laid_length

    -- and its gate is opened
    pub opened_current : IsCurrent (with_open_group half gate group) other (gate + 5 + length (records_of group)) after
    opened_current = record {
      epoch = current.epoch;
      shows = record {
        changes = current.shows.changes ++ group;
        holds = opened_holds half current.epoch current.shows.changes gate holds group is_group room;
        sound = stay_sound-append current.shows.changes group empty_state current.shows.sound (subst (λ (s : State). StaySound group s) (sym current.shows.state_is) sound);
        state_is = meaning_of-append current.shows.changes group empty_state ∙ ap (λ (s : State). meaning_of group s) current.shows.state_is ∙ after_is;
      };
      behind = current.behind;
    }

    pub opened_epoch : opened_current.epoch ≡ current.epoch
    unfolding opened_current
    opened_epoch = refl

    -- a half whose gate byte alone is torn is the one with the gate open, or shows what it showed
    pub torn_gate : (h : List ℕ) → TornWithin gate 1 (with_group half gate group) h → (get_or h gate 0 ≡ 1) ⊎ (get_or h gate 0 ≢ 1) → (h ≡ with_open_group half gate group) ⊎ IsCurrent h other gate state
    torn_gate h torn (inl is_open) =
        let inside : gate < length h = omega (arith, torn.same_length, laid_length, gate_before_end) in
        inl (sym (take-append-drop gate h)
        ∙ (λ i. torn.before i ++ drop-cons h gate 0 inside i)
        ∙ (λ i. take gate (with_group half gate group) ++ (is_open i ∷ drop (suc gate) h))
        ∙ ap (λ (l : List ℕ). take gate (with_group half gate group) ++ (1 ∷ l)) ((λ i. drop ((let e : suc gate ≡ gate + 1 = omega arith in e) i) h) ∙ torn.after)
        ∙ sym (append_assoc (take gate (with_group half gate group)) (1 ∷ []) (drop (gate + 1) (with_group half gate group))))
    torn_gate h torn (inr closed) =
        inr (stays h (behind_unread half current.epoch current.shows.changes gate holds h
        (torn.before ∙ torn_front half (with_group half gate group) (gate + 1) (length (planned_bytes group)) gate laid_torn (omega arith))
        (omega (arith, torn.same_length, laid_length, gate_before_end)) closed))
