-- What a stop may leave of a device that is being formatted.
use Rattle.std.proofs.Common.{◌≡◌, ◌≤◌, ◌+◌, ◌⊎◌, inl, inr, ⊎_elim, ℕ, false, List, [], ◌∷◌, ◌++◌, length, get_or, take, drop, refl, sym, ◌∙◌, ap, subst, arith, take-append-drop}
use Rattle.apd_store.proofs.Words.{A, BeginsBy, Contains, DEVICE_LENGTH, Follows, HALF_LENGTH, HalfShowsPlainly, HasOpenGate, HasZeroGate, IsBehind, IsCurrent, IsFoundBy, IsLaidOut, IsMarkedBy, IsMarkedOld, IsOverMark, MayBeMade, Only, ShowsBy, ShowsOld, State, TornWithin, append_assoc, block_of, drop-drop, drop-take, drop_at, empty_state, false≢true, front_holds, head_a, length-take-le, magic, marks, new_front, old_magic, sound_empty, take-take, take_at, to_le_bytes, torn_overwritten, w64, with_bytes}
use Rattle.std.specs.Prelude.{Result, Ok, Err, OnOk}
use Rattle.apd_store.proofs.Found.{found_by_a, store_by}
use Rattle.apd_store.proofs.Unique.{holds_open}

-- ---- parts of a torn image

-- a part before the torn range stays
part_before : (at n k m : ℕ) (image c : List ℕ) → TornWithin at n image c → k + m ≤ at → take m (drop k c) ≡ take m (drop k image)
part_before at n k m image c torn le =
    sym (drop-take k m c) ∙ ap (λ (l : List ℕ). drop k l) (sym (take-take (k + m) at c le) ∙ ap (λ (l : List ℕ). take (k + m) l) torn.before ∙ take-take (k + m) at image le) ∙ drop-take k m image

-- and one behind it
part_behind : (at n k : ℕ) (image c : List ℕ) → TornWithin at n image c → drop (at + n + k) c ≡ drop (at + n + k) image
part_behind at n k image c torn = sym (drop-drop k (at + n) c) ∙ ap (λ (l : List ℕ). drop k l) torn.after ∙ drop-drop k (at + n) image

part_written : (image : List ℕ) (at : ℕ) (bytes : List ℕ) → at ≤ length image → take (length bytes) (drop at (with_bytes image at bytes)) ≡ bytes
part_written image at bytes le =
    ap (λ (l : List ℕ). take (length bytes) l) (ap (λ (l : List ℕ). drop at l) (append_assoc (take at image) bytes (drop (at + length bytes) image)) ∙ drop_at (take at image) (bytes ++ drop (at + length bytes) image) at (length-take-le at image le))
    ∙ take_at bytes (drop (at + length bytes) image) (length bytes) refl

-- ---- the heads

-- what begins with a zero has a byte
zero_first : (b : List ℕ) → HasZeroGate b → 1 ≤ length b
zero_first [] e = cc
zero_first (x ∷ b) e = omega arith

-- bytes that begin as these do are these and something behind
begins : (xs head : List ℕ) → take (length head) xs ≡ head → xs ≡ head ++ drop (length head) xs
begins xs head e = sym (take-append-drop (length head) xs) ∙ ap (λ (l : List ℕ). l ++ drop (length head) xs) e

module _ (a b image now after : List ℕ) (a_fits : length a ≤ HALF_LENGTH) (b_fits : length b ≤ HALF_LENGTH) (size : length image ≡ DEVICE_LENGTH) (first : now ≡ with_bytes image 64 a) (second : after ≡ with_bytes now 1048640 b) where
  torn_first : TornWithin 64 (length a) image (with_bytes image 64 a)
  torn_first = torn_overwritten image 64 a (omega (arith, size))

  now_size : length now ≡ DEVICE_LENGTH
  now_size = ap length first ∙ torn_first.same_length ∙ size

  torn_second : TornWithin 1048640 (length b) now (with_bytes now 1048640 b)
  torn_second = torn_overwritten now 1048640 b (omega (arith, now_size))

  a_stands : take (length a) (drop 64 after) ≡ a
  a_stands =
      ap (λ (l : List ℕ). take (length a) (drop 64 l)) second ∙ part_before 1048640 (length b) 64 (length a) now (with_bytes now 1048640 b) torn_second (omega (arith, a_fits))
      ∙ ap (λ (l : List ℕ). take (length a) (drop 64 l)) first ∙ part_written image 64 a (omega (arith, size))

  b_stands : take (length b) (drop 1048640 after) ≡ b
  b_stands = ap (λ (l : List ℕ). take (length b) (drop 1048640 l)) second ∙ part_written now 1048640 b (omega (arith, now_size))

  half_begins : take (length a) (take HALF_LENGTH (drop 64 after)) ≡ a
  half_begins = take-take (length a) HALF_LENGTH (drop 64 after) a_fits ∙ a_stands

  pub heads_written : (epoch gate : ℕ) (state : State) → BeginsBy a epoch gate state → HasZeroGate b → IsLaidOut after epoch gate state
  heads_written epoch gate state shows closed = record {
    size = ap length second ∙ torn_second.same_length ∙ now_size;
    shows = subst (λ (l : List ℕ). HalfShowsPlainly l epoch gate state) (sym (begins (take HALF_LENGTH (drop 64 after)) a half_begins)) (shows (drop (length a) (take HALF_LENGTH (drop 64 after))));
    closed = ap (λ (l : List ℕ). take 1 l) (drop-drop HALF_LENGTH 64 after) ∙ sym (take-take 1 (length b) (drop 1048640 after) (zero_first b closed)) ∙ ap (λ (l : List ℕ). take 1 l) b_stands ∙ closed;
  }

-- a half that begins with 0 is closed
closed_behind : (xs : List ℕ) (epoch : ℕ) → HasZeroGate xs → IsBehind xs epoch
closed_behind [] epoch shut e opens = absurd (omega (arith, ap length opens.is))
closed_behind (x ∷ xs) epoch shut e opens =
    let gate : x ≡ 0 = cc in
    let open_gate : x ≡ 1 = (let is = opens.is in cc) in
    absurd (omega (arith, gate, open_gate))

not_open : (xs : List ℕ) → HasZeroGate xs → ¬ HasOpenGate xs
not_open xs shut is =
    let first : List ℕ → ℕ = λ l. get_or l 0 0 in
    let both : 0 ≡ 1 = ap first (sym shut ∙ is) in
    absurd (omega (arith, both))

-- a marked image that is laid out shows the state
module _ (mark image : List ℕ) (epoch gate : ℕ) (state : State) (marked : IsMarkedBy mark image) (laid : IsLaidOut image epoch gate state) where
  abbrev front : List ℕ
  front = take HALF_LENGTH (drop 64 image)

  abbrev back : List ℕ
  back = drop HALF_LENGTH (drop 64 image)

  pub laid_found : IsFoundBy mark image A epoch gate false state
  laid_found =
      found_by_a mark image marked epoch gate false state (epoch, holds_open front epoch laid.shows.0.changes gate laid.shows.0.holds, closed_behind back epoch laid.closed) laid.shows.0
      (λ t. absurd (false≢true t), λ is. absurd (not_open back laid.closed is))

  abbrev laid_current : IsCurrent front back gate state
  laid_current = record { epoch = epoch; shows = laid.shows.0; behind = closed_behind back epoch laid.closed }

  abbrev laid_shows : ShowsBy mark image state
  laid_shows = record { a = front; b = back; store = store_by mark image marked; gate = gate; current = inl laid_current }

-- to the program of version 1 too
pub laid_shows_old : (image : List ℕ) (epoch gate : ℕ) (state : State) → IsMarkedOld image → IsLaidOut image epoch gate state → ShowsOld image state
laid_shows_old image epoch gate state marked laid = record { by_mark = laid_shows old_magic image epoch gate state marked laid; no_cursor = laid.shows.1 }

-- the head of a new store is that of the empty state
pub begins_empty : BeginsBy head_a 1 13 empty_state
begins_empty rest = (
  record {
    changes = [];
    holds = front_holds (1 ∷ (to_le_bytes w64 1 ++ block_of [])) 1 [] 0 rest (new_front 1 [] (omega arith) tt (omega arith)) (λ e. absurd (omega (arith, e)));
    sound = sound_empty;
    state_is = refl;
  },
  tt,
)

-- what is laid out stays so while the mark is written
laid_stays : (image c : List ℕ) (epoch gate : ℕ) (state : State) → IsLaidOut image epoch gate state → TornWithin 0 8 image c → IsLaidOut c epoch gate state
laid_stays image c epoch gate state laid torn =
    let same : drop 64 c ≡ drop 64 image = part_behind 0 8 56 image c torn in
    record {
      size = torn.same_length ∙ laid.size;
      shows = subst (λ (l : List ℕ). HalfShowsPlainly (take HALF_LENGTH l) epoch gate state) (sym same) laid.shows;
      closed = ap (λ (l : List ℕ). take 1 (drop HALF_LENGTH l)) same ∙ laid.closed;
    }

-- ---- what a stop within each write leaves

pub mark_images : (image : List ℕ) (old during : List ℕ → Type 0) (epoch gate : ℕ) (state : State) → IsLaidOut image epoch gate state → Only image old
    → Follows (TornWithin 0 8) old during
    → (c : List ℕ) → during c → IsLaidOut c epoch gate state
mark_images image old during epoch gate state laid only follows c left =
    let from = follows c left in
    laid_stays image c epoch gate state laid (subst (λ (l : List ℕ). TornWithin 0 8 l c) (only from.0 from.1) from.2)

pub mark_found : (mark image after : List ℕ) (epoch gate : ℕ) (state : State) → length mark ≡ 8 → IsLaidOut image epoch gate state → after ≡ with_bytes image 0 mark → IsFoundBy mark after A epoch gate false state
mark_found mark image after epoch gate state eight laid is =
    let torn_mark : TornWithin 0 (length mark) image (with_bytes image 0 mark) = torn_overwritten image 0 mark (omega (arith, laid.size, eight)) in
    let torn : TornWithin 0 8 image after = subst (λ (l : List ℕ). TornWithin 0 8 image l) (sym is) (subst (λ (n : ℕ). TornWithin 0 n image (with_bytes image 0 mark)) eight torn_mark) in
    let stays = laid_stays image after epoch gate state laid torn in
    let begins_so : take 8 after ≡ mark = ap (λ (l : List ℕ). take 8 l) (is ∙ append_assoc (take 0 image) mark (drop (0 + length mark) image)) ∙ take_at mark (drop (0 + length mark) image) 8 eight in
    laid_found mark after epoch gate state (stays.size, begins_so) stays

pub first_stays : (first : List ℕ) (at n : ℕ) (old during : List ℕ → Type 0) → 8 ≤ at → ((d : List ℕ) → old d → take 8 d ≡ first) → Follows (TornWithin at n) old during → (c : List ℕ) → during c → take 8 c ≡ first
first_stays first at n old during le stays follows c left =
    let from = follows c left in
    part_before at n 0 8 from.0 c from.2 le ∙ stays from.0 from.1

-- ---- the marks

has_magic : Contains marks magic
has_magic = (0, omega arith, refl)

has_old_magic : Contains marks old_magic
has_old_magic = (1, omega arith, refl)

-- what each part of laying out leaves is what all of it may
pub kept_made : (state : State) (before : List ℕ → Type 0) (c : List ℕ) → before c ⊎ IsOverMark marks before c → MayBeMade state before c
kept_made state before c kept = (λ _. ⊎_elim (λ was. inl was) (λ over. inr (inl over)) kept, λ _. ⊎_elim (λ was. inl was) (λ over. inr (inl over)) kept)

pub unmarked_made : (state : State) (before : List ℕ → Type 0) (now c : List ℕ) → ¬ Contains marks (take 8 now) → take 8 c ≡ take 8 now → MayBeMade state before c
unmarked_made state before now c none same = (
  λ marked. absurd (none (subst (Contains marks) (sym marked.1 ∙ same) has_magic)),
  λ marked. absurd (none (subst (Contains marks) (sym marked.1 ∙ same) has_old_magic)),
)

pub laid_made : (state : State) (before : List ℕ → Type 0) (epoch gate : ℕ) (c : List ℕ) → IsLaidOut c epoch gate state → MayBeMade state before c
laid_made state before epoch gate c laid = (
  λ marked. inr (inr (laid_shows magic c epoch gate state marked laid)),
  λ marked. inr (inr (laid_shows_old c epoch gate state marked laid)),
)

pub on_map : {T E : Type 0} (r : Result T E) (P Q R : Type 0) → OnOk r P → OnOk r Q → (P → Q → R) → OnOk r R
on_map (Ok t) P Q R p q go = go p q
on_map (Err e) P Q R p q go = tt
