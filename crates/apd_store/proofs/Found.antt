-- The current half of a store's bytes.
use Rattle.std.proofs.Common.{◌≡◌, ◌<◌, ◌↔◌, ◌^◌, ◌-◌, ◌⊎◌, inl, inr, ⊎_elim, ℕ, Bool, IsTrue, nat_lt, true, List, ◌∷◌, ◌++◌, length, take, drop, refl, sym, ◌∙◌, ap, subst, arith, length-drop, take-append-drop}
use Rattle.apd_store.proofs.Words.{A, B, Change, HALF_LENGTH, Half, HalfHolds, HalfShows, HasNoCursor, HasOpenGate, IsBehind, IsCurrent, IsFoundBy, IsMarkedBy, IsOpen, IsStoreBy, ShowsBy, State, StaySound, StoreFault, current_changes, drop-drop, empty_state, half_once, length-take-le, lt-ltb, ltb-true, meaning_of, take_rest, to_le_bytes, w64}
use Rattle.std.specs.Prelude.{Result, Ok, Err, IfOk}
use Rattle.apd_store.specs.declared.reading.Found.{Found}
use Rattle.apd_store.proofs.Unique.{holds_open, open_once, shown_current, half_a as a_is_front, half_b as b_is_back}

abbrev pub HasCurrent : List ℕ → List ℕ → Type 0
HasCurrent half other = (epoch : ℕ) × IsOpen half epoch × IsBehind other epoch

-- the epoch behind an open gate
pub opens : (half behind : List ℕ) (epoch : ℕ) → half ≡ 1 ∷ (to_le_bytes w64 epoch ++ behind) → epoch < 2 ^ 64 → IsOpen half epoch
opens half behind epoch is fits = record { behind = behind; is = is; epoch_fits = fits }

abbrev pub IsShut : List ℕ → Type 0
IsShut half = (epoch : ℕ) (rest : List ℕ) → half ≡ 1 ∷ (to_le_bytes w64 epoch ++ rest) → ⊥

pub both_open : (half other : List ℕ) (e f : ℕ) → IsOpen half e → IsOpen other f → IsTrue (nat_lt f e) ↔ HasCurrent half other
both_open half other e f first second = (
  λ less. (e, first, λ g third. subst (λ (n : ℕ). n < e) (open_once other f g second third) (ltb-true f e less)),
  λ current. lt-ltb f e (subst (λ (n : ℕ). f < n) (open_once half current.0 e current.1 first) (current.2 f second)),
)

pub other_shut : (half other : List ℕ) (e : ℕ) → IsOpen half e → IsShut other → IsTrue true ↔ HasCurrent half other
other_shut half other e first shut = (λ _. (e, first, λ g third. absurd (shut g third.behind third.is)), λ _. refl)

-- a half whose changes leave an unsound state shows none
pub unsound : (half : List ℕ) (epoch place : ℕ) (changes : List Change) → HalfHolds half epoch changes place → ¬ StaySound changes empty_state → (e gate : ℕ) (state : State) → HalfShows half e gate state → ⊥
unsound half epoch place changes holds bad e gate state x =
    bad (subst (λ (l : List Change). StaySound l empty_state) (half_once half e epoch x.changes changes gate place x.holds holds).1 x.sound)

pub shows : (half : List ℕ) (epoch place : ℕ) (changes : List Change) (state : State) → HalfHolds half epoch changes place → state ≡ meaning_of changes empty_state → StaySound changes empty_state → HalfShows half epoch place state
shows half epoch place changes state holds is sound = record { changes = changes; holds = holds; sound = sound; state_is = sym is }

-- whether a half has a cursor's change, by any reading of it
pub same_cursor : (half : List ℕ) (e f g h : ℕ) (xs ys : List Change) (told : Bool) → HalfHolds half e xs g → IsTrue told ↔ HasNoCursor xs → HalfHolds half f ys h → IsTrue told ↔ HasNoCursor ys
same_cursor half e f g h xs ys told first is second = subst (λ (l : List Change). IsTrue told ↔ HasNoCursor l) (half_once half e f xs ys g h first second).1 is

-- ---- an image by its bytes

-- whatever its version's mark
module _ (mark image : List ℕ) (marked : IsMarkedBy mark image) where
  abbrev reserved : List ℕ
  reserved = take 56 (drop 8 image)

  abbrev front_half : List ℕ
  front_half = take HALF_LENGTH (drop 64 image)

  abbrev back_half : List ℕ
  back_half = drop HALF_LENGTH (drop 64 image)

  image_is : image ≡ mark ++ (reserved ++ (front_half ++ back_half))
  image_is =
      sym (take-append-drop 8 image) ∙ ap (λ (l : List ℕ). l ++ drop 8 image) marked.1
      ∙ ap (λ (l : List ℕ). mark ++ l) (sym (take-append-drop 56 (drop 8 image))
      ∙ ap (λ (l : List ℕ). take 56 (drop 8 image) ++ l) (drop-drop 56 8 image ∙ sym (take-append-drop HALF_LENGTH (drop 64 image))))

  reserved_length : length reserved ≡ 56
  reserved_length = length-take-le 56 (drop 8 image) (omega (arith, length-drop 8 image, marked.0))

  a_length : length front_half ≡ HALF_LENGTH
  a_length = length-take-le HALF_LENGTH (drop 64 image) (omega (arith, length-drop 64 image, marked.0))

  b_length : length back_half ≡ HALF_LENGTH
  b_length = omega (arith, length-drop HALF_LENGTH (drop 64 image), length-drop 64 image, marked.0)

  pub store_by : IsStoreBy mark image front_half back_half
  store_by = record { reserved = reserved; is = image_is; reserved_length = reserved_length; a_length = a_length; b_length = b_length }

  -- the current half shows the state
  abbrev current_of : (half other : List ℕ) (gate : ℕ) (state : State) → HasCurrent half other → (epoch : ℕ) × HalfShows half epoch gate state → IsCurrent half other gate state
  current_of half other gate state current found =
      let same : current.0 ≡ found.0 = open_once half current.0 found.0 current.1 (holds_open half found.0 found.1.changes gate found.1.holds) in
      record { epoch = found.0; shows = found.1; behind = subst (IsBehind other) same current.2 }

  pub found_by_a : (epoch gate : ℕ) (other_open : Bool) (state : State) → HasCurrent front_half back_half → HalfShows front_half epoch gate state → IsTrue other_open ↔ HasOpenGate back_half
      → IsFoundBy mark image A epoch gate other_open state
  found_by_a epoch gate other_open state current found opens = record {
    reserved = reserved;
    half = front_half;
    other = back_half;
    parts = record { reserved_length = reserved_length; half_length = a_length; other_length = b_length };
    is = image_is;
    current = current_of front_half back_half gate state current (epoch, found);
    epoch_is = refl;
    gate_is = opens;
  }

  pub found_by_b : (epoch gate : ℕ) (other_open : Bool) (state : State) → HasCurrent back_half front_half → HalfShows back_half epoch gate state → IsTrue other_open ↔ HasOpenGate front_half
      → IsFoundBy mark image B epoch gate other_open state
  found_by_b epoch gate other_open state current found opens = record {
    reserved = reserved;
    half = back_half;
    other = front_half;
    parts = record { reserved_length = reserved_length; half_length = b_length; other_length = a_length };
    is = image_is;
    current = current_of back_half front_half gate state current (epoch, found);
    epoch_is = refl;
    gate_is = opens;
  }

module _ (mark image : List ℕ) (marked : IsMarkedBy mark image) where
  eight : length mark ≡ 8
  eight = ap length (sym marked.1) ∙ length-take-le 8 image (omega (arith, marked.0))

  abbrev half_a : List ℕ
  half_a = take HALF_LENGTH (drop 64 image)

  abbrev half_b : List ℕ
  half_b = drop HALF_LENGTH (drop 64 image)

  abbrev pub HoldsNone : List ℕ → Type 0
  HoldsNone half = (epoch gate : ℕ) (state : State) → HalfShows half epoch gate state → ⊥

  abbrev pub HasNone : Type 0
  HasNone = (state : State) → ShowsBy mark image state → ⊥

  shows_none : ((gate : ℕ) (state : State) → IsCurrent half_a half_b gate state → ⊥) → ((gate : ℕ) (state : State) → IsCurrent half_b half_a gate state → ⊥) → HasNone
  shows_none not_a not_b state shows = ⊎_elim (not_a shows.gate state) (not_b shows.gate state) (shown_current mark image half_a half_b state eight (store_by mark image marked) shows)

  not_current : (half other : List ℕ) → (HasCurrent half other → ⊥) → (gate : ℕ) (state : State) → IsCurrent half other gate state → ⊥
  not_current half other none gate state x = none (x.epoch, holds_open half x.epoch x.shows.changes gate x.shows.holds, x.behind)

  -- neither half is the current one
  pub none_current : (HasCurrent half_a half_b → ⊥) → (HasCurrent half_b half_a → ⊥) → HasNone
  none_current no_a no_b = shows_none (not_current half_a half_b no_a) (not_current half_b half_a no_b)

  not_behind : (half other : List ℕ) → HasCurrent half other → (gate : ℕ) (state : State) → IsCurrent other half gate state → ⊥
  not_behind half other current gate state x =
      let open_other = holds_open other x.epoch x.shows.changes gate x.shows.holds in
      absurd (omega (arith, current.2 x.epoch open_other, x.behind current.0 current.1))

  -- the current half shows no state
  pub damaged_a : HasCurrent half_a half_b → HoldsNone half_a → HasNone
  damaged_a current none = shows_none (λ gate state x. none x.epoch gate state x.shows) (not_behind half_a half_b current)

  pub damaged_b : HasCurrent half_b half_a → HoldsNone half_b → HasNone
  damaged_b current none = shows_none (not_behind half_b half_a current) (λ gate state x. none x.epoch gate state x.shows)

  -- ---- whether the current half has a cursor's change
  abbrev pub Tells : Result Found StoreFault → List ℕ → Type 0
  Tells r half = (epoch gate : ℕ) (changes : List Change) → HalfHolds half epoch changes gate → IfOk r (λ f. IsTrue f.no_cursor ↔ HasNoCursor changes)

  told_a : (r : Result Found StoreFault) (x y : List ℕ) (gate : ℕ) (state : State) → x ≡ half_a → y ≡ half_b → (now : IsCurrent x y gate state ⊎ IsCurrent y x gate state) → HasCurrent half_a half_b → Tells r half_a
      → IfOk r (λ f. IsTrue f.no_cursor ↔ HasNoCursor (current_changes now))
  told_a r x y gate state x_is y_is (inl c) current tells = tells c.epoch gate c.shows.changes (subst (λ (l : List ℕ). HalfHolds l c.epoch c.shows.changes gate) x_is c.shows.holds)
  told_a r x y gate state x_is y_is (inr c) current tells =
      absurd (not_behind half_a half_b current gate state (subst (λ (l : List ℕ). IsCurrent half_b l gate state) x_is (subst (λ (l : List ℕ). IsCurrent l x gate state) y_is c)))

  told_b : (r : Result Found StoreFault) (x y : List ℕ) (gate : ℕ) (state : State) → x ≡ half_a → y ≡ half_b → (now : IsCurrent x y gate state ⊎ IsCurrent y x gate state) → HasCurrent half_b half_a → Tells r half_b
      → IfOk r (λ f. IsTrue f.no_cursor ↔ HasNoCursor (current_changes now))
  told_b r x y gate state x_is y_is (inl c) current tells =
      absurd (not_behind half_b half_a current gate state (subst (λ (l : List ℕ). IsCurrent half_a l gate state) y_is (subst (λ (l : List ℕ). IsCurrent l y gate state) x_is c)))
  told_b r x y gate state x_is y_is (inr c) current tells = tells c.epoch gate c.shows.changes (subst (λ (l : List ℕ). HalfHolds l c.epoch c.shows.changes gate) y_is c.shows.holds)

  -- ---- what was read of the halves, as the code has them
  module _ (a b : List ℕ) (a_is : a ≡ half_a) (b_is : b ≡ half_b) (r : Result Found StoreFault) where
    at_halves : (P : List ℕ → List ℕ → Type 0) → P a b → P half_a half_b
    at_halves P p = subst (λ (l : List ℕ). P l half_b) a_is (subst (λ (l : List ℕ). P a l) b_is p)

    ok_found_a : (r : Result Found StoreFault) → HasCurrent half_a half_b → IfOk r (λ f. f.half ≡ A) → IfOk r (λ f. HalfShows half_a f.epoch f.gate f.table) → IfOk r (λ f. IsTrue f.other_open ↔ HasOpenGate half_b) → IfOk r (λ f. IsFoundBy mark image f.half f.epoch f.gate f.other_open f.table)
    ok_found_a (Ok f) current side shown opens = subst (λ (h : Half). IsFoundBy mark image h f.epoch f.gate f.other_open f.table) (sym side) (found_by_a mark image marked f.epoch f.gate f.other_open f.table current shown opens)
    ok_found_a (Err e) current side shown opens = tt

    ok_found_b : (r : Result Found StoreFault) → HasCurrent half_b half_a → IfOk r (λ f. f.half ≡ B) → IfOk r (λ f. HalfShows half_b f.epoch f.gate f.table) → IfOk r (λ f. IsTrue f.other_open ↔ HasOpenGate half_a) → IfOk r (λ f. IsFoundBy mark image f.half f.epoch f.gate f.other_open f.table)
    ok_found_b (Ok f) current side shown opens = subst (λ (h : Half). IsFoundBy mark image h f.epoch f.gate f.other_open f.table) (sym side) (found_by_b mark image marked f.epoch f.gate f.other_open f.table current shown opens)
    ok_found_b (Err e) current side shown opens = tt

    pub read_a : HasCurrent a b → IfOk r (λ f. f.half ≡ A) → IfOk r (λ f. HalfShows a f.epoch f.gate f.table) → IfOk r (λ f. IsTrue f.other_open ↔ HasOpenGate b) → IfOk r (λ f. IsFoundBy mark image f.half f.epoch f.gate f.other_open f.table)
    read_a current side shown opens = ok_found_a r (at_halves HasCurrent current) side (subst (λ (l : List ℕ). IfOk r (λ f. HalfShows l f.epoch f.gate f.table)) a_is shown) (subst (λ (l : List ℕ). IfOk r (λ f. IsTrue f.other_open ↔ HasOpenGate l)) b_is opens)

    pub read_b : HasCurrent b a → IfOk r (λ f. f.half ≡ B) → IfOk r (λ f. HalfShows b f.epoch f.gate f.table) → IfOk r (λ f. IsTrue f.other_open ↔ HasOpenGate a) → IfOk r (λ f. IsFoundBy mark image f.half f.epoch f.gate f.other_open f.table)
    read_b current side shown opens = ok_found_b r (at_halves (λ (x y : List ℕ). HasCurrent y x) current) side (subst (λ (l : List ℕ). IfOk r (λ f. HalfShows l f.epoch f.gate f.table)) b_is shown) (subst (λ (l : List ℕ). IfOk r (λ f. IsTrue f.other_open ↔ HasOpenGate l)) a_is opens)

    pub cursor_first : HasCurrent a b → Tells r a → (state : State) (shows : ShowsBy mark image state) → IfOk r (λ f. IsTrue f.no_cursor ↔ HasNoCursor (current_changes shows.current))
    cursor_first current tells state shows =
        told_a r shows.a shows.b shows.gate state (sym (a_is_front mark image shows.a shows.b eight shows.store)) (sym (b_is_back mark image shows.a shows.b eight shows.store)) shows.current (at_halves HasCurrent current)
        (subst (Tells r) a_is tells)

    pub cursor_second : HasCurrent b a → Tells r b → (state : State) (shows : ShowsBy mark image state) → IfOk r (λ f. IsTrue f.no_cursor ↔ HasNoCursor (current_changes shows.current))
    cursor_second current tells state shows =
        told_b r shows.a shows.b shows.gate state (sym (a_is_front mark image shows.a shows.b eight shows.store)) (sym (b_is_back mark image shows.a shows.b eight shows.store)) shows.current
        (at_halves (λ (x y : List ℕ). HasCurrent y x) current) (subst (Tells r) b_is tells)

    pub damaged_first : HasCurrent a b → HoldsNone a → HasNone
    damaged_first current none = damaged_a (at_halves HasCurrent current) (subst HoldsNone a_is none)

    pub damaged_second : HasCurrent b a → HoldsNone b → HasNone
    damaged_second current none = damaged_b (at_halves (λ (x y : List ℕ). HasCurrent y x) current) (subst HoldsNone b_is none)

    pub damaged_both : (HasCurrent a b → ⊥) → (HasCurrent b a → ⊥) → HasNone
    damaged_both no_a no_b = none_current (at_halves (λ (x y : List ℕ). HasCurrent x y → ⊥) no_a) (at_halves (λ (x y : List ℕ). HasCurrent y x → ⊥) no_b)

-- the halves as slices of the bytes
pub slice_a : (image front : List ℕ) → front ≡ take HALF_LENGTH (take (length image - 64) (drop 64 image)) → front ≡ take HALF_LENGTH (drop 64 image)
slice_a image front is = is ∙ ap (λ (l : List ℕ). take HALF_LENGTH l) (take_rest image 64)

pub slice_b : (image back : List ℕ) → back ≡ drop HALF_LENGTH (take (length image - 64) (drop 64 image)) → back ≡ drop HALF_LENGTH (drop 64 image)
slice_b image back is = is ∙ ap (λ (l : List ℕ). drop HALF_LENGTH l) (take_rest image 64)
