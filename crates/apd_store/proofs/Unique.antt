-- An image shows one state at most.
use Rattle.std.proofs.Common.{◌≡◌, ◌⊎◌, ⊎_elim, ℕ, List, ◌++◌, length, get_or, take, drop, refl, sym, ◌∙◌, ap, subst, arith, length-append}
use Rattle.apd_store.proofs.Words.{Change, HALF_LENGTH, HalfHolds, HalfShows, IsCurrent, IsOpen, IsStoreBy, Shows, ShowsBy, ShowsOld, State, append_assoc, drop_at, empty_state, from_le_bytes, half_once, magic, meaning_of, old_magic, take_at, w64}
use Rattle.std.proofs.lemmas.Nat.{from_le_bytes-to_le_bytes_8}
use Rattle.apd_journal.proofs.Halves.{half_parts}

-- a half that holds changes is open
pub holds_open : (half : List ℕ) (epoch : ℕ) (changes : List Change) (place : ℕ) → HalfHolds half epoch changes place → IsOpen half epoch
holds_open half epoch changes place h =
    let p = half_parts half epoch changes place h in
    record { behind = p.body; is = p.is; epoch_fits = h.is_front.epoch_fits }

-- and has one epoch
pub open_once : (half : List ℕ) (e f : ℕ) → IsOpen half e → IsOpen half f → e ≡ f
open_once half e f x y =
    sym (from_le_bytes-to_le_bytes_8 e x.epoch_fits) ∙ ap (λ (l : List ℕ). from_le_bytes w64 (drop 1 l)) (sym x.is ∙ y.is) ∙ from_le_bytes-to_le_bytes_8 f y.epoch_fits

pub half_shows_once : (half : List ℕ) (e f p q : ℕ) (s t : State) → HalfShows half e p s → HalfShows half f q t → s ≡ t
half_shows_once half e f p q s t x y =
    sym x.state_is ∙ ap (λ (l : List Change). meaning_of l empty_state) (half_once half e f x.changes y.changes p q x.holds y.holds).1 ∙ y.state_is

-- of two halves one is the current one
pub one_current : (a b : List ℕ) (p q : ℕ) (s t : State) → IsCurrent a b p s → ¬ IsCurrent b a q t
one_current a b p q s t x y =
    let second = x.behind y.epoch (holds_open b y.epoch y.shows.changes q y.shows.holds) in
    let first = y.behind x.epoch (holds_open a x.epoch x.shows.changes p x.shows.holds) in
    absurd (omega (arith, first, second))

module _ (mark image a b : List ℕ) (eight : length mark ≡ 8) (s : IsStoreBy mark image a b) where
  behind_reserved : drop 64 image ≡ a ++ b
  behind_reserved = ap (λ (l : List ℕ). drop 64 l) (s.is ∙ sym (append_assoc mark s.reserved (a ++ b))) ∙ drop_at (mark ++ s.reserved) (a ++ b) 64 (omega (arith, length-append mark s.reserved, eight, s.reserved_length))

  pub half_a : take HALF_LENGTH (drop 64 image) ≡ a
  half_a = ap (λ (l : List ℕ). take HALF_LENGTH l) behind_reserved ∙ take_at a b HALF_LENGTH s.a_length

  pub half_b : drop HALF_LENGTH (drop 64 image) ≡ b
  half_b = ap (λ (l : List ℕ). drop HALF_LENGTH l) behind_reserved ∙ drop_at a b HALF_LENGTH s.a_length

  marked : take 8 image ≡ mark
  marked = ap (λ (l : List ℕ). take 8 l) s.is ∙ take_at mark (s.reserved ++ (a ++ b)) 8 eight

-- the current half of an image whose halves are these
pub shown_current : (mark image a b : List ℕ) (s : State) → length mark ≡ 8 → IsStoreBy mark image a b → (x : ShowsBy mark image s) → IsCurrent a b x.gate s ⊎ IsCurrent b a x.gate s
shown_current mark image a b s eight store x =
    let same_a : x.a ≡ a = sym (half_a mark image x.a x.b eight x.store) ∙ half_a mark image a b eight store in
    let same_b : x.b ≡ b = sym (half_b mark image x.a x.b eight x.store) ∙ half_b mark image a b eight store in
    subst (λ (l : List ℕ). IsCurrent l b x.gate s ⊎ IsCurrent b l x.gate s) same_a (subst (λ (l : List ℕ). IsCurrent x.a l x.gate s ⊎ IsCurrent l x.a x.gate s) same_b x.current)

pub shows_once : (mark image : List ℕ) (s t : State) → length mark ≡ 8 → ShowsBy mark image s → ShowsBy mark image t → s ≡ t
shows_once mark image s t eight x y = ⊎_elim
    (λ one. ⊎_elim
    (λ two. half_shows_once x.a one.epoch two.epoch x.gate y.gate s t one.shows two.shows)
    (λ two. absurd (one_current x.a x.b x.gate y.gate s t one two))
    (shown_current mark image x.a x.b t eight x.store y))
    (λ one. ⊎_elim
    (λ two. absurd (one_current x.b x.a x.gate y.gate s t one two))
    (λ two. half_shows_once x.b one.epoch two.epoch x.gate y.gate s t one.shows two.shows)
    (shown_current mark image x.a x.b t eight x.store y))
    x.current

-- it is a store of one mark
pub one_mark : (mark other image : List ℕ) (s t : State) → length mark ≡ 8 → length other ≡ 8 → ShowsBy mark image s → ShowsBy other image t → mark ≡ other
one_mark mark other image s t eight also x y = sym (marked mark image x.a x.b eight x.store) ∙ marked other image y.a y.b also y.store

pub one_version : (image : List ℕ) (s t : State) → Shows image s → ¬ ShowsOld image t
one_version image s t new old =
    let last : List ℕ → ℕ = λ l. get_or l 7 0 in
    let same : 50 ≡ 49 = ap last (one_mark magic old_magic image s t refl refl new old.by_mark) in
    absurd (omega (arith, same))
