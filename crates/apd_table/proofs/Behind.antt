-- Changes with one more behind them.
use Rattle.std.proofs.Common.{◌≡◌, ◌+◌, ◌-◌, ◌≤◌, List, [], ◌∷◌, ◌++◌, length, take, get_or, length-append, IsSome, inl, inr, refl, sym, ap, subst, ◌∙◌, arith}
use Rattle.apd_table.proofs.Words.{AreDrops, AreFewInPlace, Bssid, Change, Cursor, Drop, IsInPlace, ListAdd, ListClear, ListDel, NoNewRow, Put, Sound, State, StationNumber, StaySound, drop_all, meaning, meaning_of, policy_at, set_cursor, take-append-drop}
use Rattle.std.proofs.Math.Seq.{take-append_seam}
use Rattle.apd_record.specs.declared.change.Change.TheVariants.{Policy}
use Rattle.apd_table.proofs.Cursors.{sound_cursor}
use Rattle.apd_table.proofs.InTurn.{next}
use Rattle.apd_table.proofs.PolicySet.{kept as policy_kept}

-- a policy stays
pub policy_stays : (change : Change) (s : State) (b : Bssid) → IsSome (policy_at s b) → IsSome (policy_at (meaning change s) b)
policy_stays (Put c a station) s b h = h
policy_stays (Drop c a) s b h = h
policy_stays (ListAdd c w a) s b h = h
policy_stays (ListDel c w a) s b h = h
policy_stays (ListClear c w) s b h = h
policy_stays (Policy c policy) s b h = policy_kept s c policy b h
policy_stays (Cursor c last) s b h = h

pub policies_stay : (changes : List Change) (s : State) (b : Bssid) → IsSome (policy_at s b) → IsSome (policy_at (meaning_of changes s) b)
policies_stay [] s b h = h
policies_stay (change ∷ changes) s b h = policies_stay changes (meaning change s) b (policy_stays change s b h)

-- the state after changes that stay sound
stay_last : (changes : List Change) (s : State) → StaySound changes s → Sound (meaning_of changes s)
stay_last [] s h = h
stay_last (change ∷ changes) s h = stay_last changes (meaning change s) h.1

module _ (x : Change) where
  pub means_behind : (xs : List Change) (s : State) → meaning_of (xs ++ x ∷ []) s ≡ meaning x (meaning_of xs s)
  means_behind [] s = refl
  means_behind (y ∷ ys) s = means_behind ys (meaning y s)

  pub stay_behind : (xs : List Change) (s : State) → StaySound xs s → Sound (meaning x (meaning_of xs s)) → StaySound (xs ++ x ∷ []) s
  stay_behind [] s h more = (h, more)
  stay_behind (y ∷ ys) s h more = (h.0, stay_behind ys (meaning y s) h.1 more)

  pub stay_before : (xs : List Change) (s : State) → StaySound (xs ++ x ∷ []) s → StaySound xs s
  stay_before [] s h = h.0
  stay_before (y ∷ ys) s h = (h.0, stay_before ys (meaning y s) h.1)

  pub no_row_before : (xs : List Change) (s : State) → NoNewRow (xs ++ x ∷ []) s → NoNewRow xs s
  no_row_before [] s h = tt
  no_row_before (y ∷ ys) s h = (h.0, no_row_before ys (meaning y s) h.1)

-- the list and its last item
pub split : (changes : List Change) (x y : Change) → 1 ≤ length changes → x ≡ get_or changes (length changes - 1) x → x ≡ y → changes ≡ take (length changes - 1) changes ++ y ∷ []
split changes x y some last is =
    let n = length changes - 1 in
    sym (take-append-drop n changes) ∙ ap (λ rest. take n changes ++ rest)
    (next changes n x (omega (arith, some)) last ∙ (λ i. is i ∷ drop_all (n + 1) changes (omega (arith, some)) i))

-- what stands before the last item is one list
before_last : (xs ys : List Change) (x y : Change) → xs ++ x ∷ [] ≡ ys ++ y ∷ [] → xs ≡ ys
before_last xs ys x y e =
    let as_long : length xs ≡ length ys = omega (arith, ap length e, length-append xs (x ∷ []), length-append ys (y ∷ [])) in
    sym (take-append_seam xs (x ∷ [])) ∙ (λ i. take (as_long i) (e i)) ∙ take-append_seam ys (y ∷ [])

no_cursor_drops : (changes : List Change) (b : Bssid) (last : StationNumber) → AreDrops (changes ++ Cursor b last ∷ []) → ⊥
no_cursor_drops [] b last h = h.0
no_cursor_drops (change ∷ changes) b last h = no_cursor_drops changes b last h.1

-- what stands before a cursor is made in place where the whole is
pub in_place_before : (few : List Change) (b : Bssid) (last : StationNumber) (s : State) → IsInPlace (few ++ Cursor b last ∷ []) s → AreFewInPlace few s
in_place_before [] b last s h = tt
in_place_before (change ∷ changes) b last s (inl (inl drops)) = absurd (no_cursor_drops changes b last drops)
in_place_before (change ∷ []) b last s (inl (inr over)) = inl tt
in_place_before (change ∷ next ∷ changes) b last s (inl (inr over)) = absurd (omega (arith, over.1, length-append changes (Cursor b last ∷ [])))
in_place_before (change ∷ changes) b last s (inr h) = subst (λ few. AreFewInPlace few s) (sym (before_last (change ∷ changes) h.0 (Cursor b last) h.1 h.2)) h.3

-- the state is sound as a BSSID that had a policy before has another number given last
pub sound_behind : (few : List Change) (s : State) (b : Bssid) (last : StationNumber) → StaySound few s → IsSome (policy_at s b) → Sound (set_cursor b last (meaning_of few s))
sound_behind few s b last stays policy = sound_cursor (meaning_of few s) b last (stay_last few s stays) (policies_stay few s b policy)
