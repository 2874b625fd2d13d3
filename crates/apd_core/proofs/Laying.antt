-- Moments that are laid down before the rows of a table change become those that the changes leave, or those that were.
use Rattle.std.proofs.Common.{◌≡◌, ℕ, zero, suc, Bool, true, false, cond, ◌||◌, List, [], ◌∷◌, drop, Option, Some, None, is_some, IsSome, Result, Ok, Err, IsOk, OnOk, ◌⊎◌, inl, inr, refl, sym, ap, subst, ◌∙◌}
use Rattle.std.specs.FinMap as maps
use Rattle.apd_core.proofs.Words.{Addr, AreLaidDown, AreMomentsOf, Bssid, Change, Drop, LastHeard, Moment, Put, State, differ, eq_by_cmp, get_insert_other, heard_by_change, heard_by_changes, is_of, is_put_of, list_any, meaning_of, moment_left, no_value, none_is, one_or_apart, puts_row, second_true, station_cmp, station_exact, station_total, tied, touches_row}
use Rattle.apd_core.proofs.Hearing.{after_changes}

abbrev Key : Type 0
Key = Bssid × Addr

-- ---- a change more

-- a test that one of those that are left passes, one of all passes
pub any_of_rest : {X : Type 0} (p : X → Bool) (xs : List X) (i : ℕ) → list_any p (drop i xs) ≡ true → list_any p xs ≡ true
any_of_rest p [] zero e = e
any_of_rest p [] (suc i) e = e
any_of_rest p (x ∷ xs) zero e = e
any_of_rest p (x ∷ xs) (suc i) e = second_true (p x) (list_any p xs) (any_of_rest p xs i e)

first_true : (t u : Bool) → t ≡ true → (t || u) ≡ true
first_true true u e = refl
first_true false u e = cc

any_at : {X : Type 0} (p : X → Bool) (xs : List X) (i : ℕ) (x : X) (rest : List X) → drop i xs ≡ x ∷ rest → p x ≡ true → list_any p xs ≡ true
any_at p xs i x rest e h = any_of_rest p xs i (ap (list_any p) e ∙ first_true (p x) (list_any p rest) h)

neither : (t u : Bool) → (t || u) ≡ false → (t ≡ false) × (u ≡ false)
neither true u e = cc
neither false u e = (refl, e)

-- a change alone
alone : (t : Bool) → (t || false) ≡ true → t ≡ true
alone true e = refl
alone false e = e

module _ (changes : List Change) (i : ℕ) (change : Change) (rest : List Change) (left : drop i changes ≡ change ∷ rest) where
  -- laid down so far, and by this one
  pub laid_on : (old now new : LastHeard) → AreLaidDown changes old now → AreLaidDown (change ∷ []) now new → AreLaidDown changes old new
  laid_on old now new so_far here k =
      elim (here k) [
        | inl same ↦ elim (so_far k) [ inl was ↦ inl (same ∙ was) | inr put ↦ inr put ]
        | inr put ↦ elim (so_far k) [
          | inl was ↦ inr (any_at (is_put_of k) changes i change rest left (alone _ put.0), sym was ∙ put.1)
          | inr earlier ↦ inr earlier
        ]
      ]

  -- a row that is put has a moment, or is put by one of those that are left
  pub there_on : (now new : LastHeard) (k : Key) → AreLaidDown (change ∷ []) now new → (is_put_of k change ≡ true → IsSome (maps.get new k))
      → (list_any (is_put_of k) (drop i changes) ≡ true) ⊎ IsSome (maps.get now k) → (list_any (is_put_of k) rest ≡ true) ⊎ IsSome (maps.get new k)
  there_on now new k here put (inl some) =
      elim (is_put_of k change) as (λ t. is_put_of k change ≡ t → (t || list_any (is_put_of k) rest) ≡ true → (list_any (is_put_of k) rest ≡ true) ⊎ IsSome (maps.get new k)) [
        | true ↦ λ e _. inr (put e)
        | false ↦ λ _ later. inl later
      ] refl (sym (ap (list_any (is_put_of k)) left) ∙ some)
  there_on now new k here put (inr some) =
      elim (here k) [ inl same ↦ inr (subst IsSome (sym same) some) | inr laid ↦ none_is _ laid.1 some ]

stamped_twice : (p q : Bool) (m : Moment) (o : Option Moment) → cond q (Some m) (cond p (Some m) o) ≡ cond (p || q) (Some m) o
stamped_twice true true m o = refl
stamped_twice true false m o = refl
stamped_twice false q m o = refl

tidied_twice : (p q t : Bool) (o : Option Moment) → moment_left q t (moment_left p t o) ≡ moment_left (p || q) t o
tidied_twice p q true o = refl
tidied_twice true true false o = refl
tidied_twice true false false o = refl
tidied_twice false q false o = refl

pub nothing_tidied : (t : Bool) (o : Option Moment) → moment_left false t o ≡ o
nothing_tidied true o = refl
nothing_tidied false o = refl

pub stamped_some : (p : Bool) (m : Moment) (now new : Option Moment) → new ≡ cond p (Some m) now → IsSome now → IsSome new
stamped_some true m now new e some = ap is_some e
stamped_some false m now new e some = subst IsSome (sym e) some

module _ (changes : List Change) (i : ℕ) (change : Change) (rest : List Change) (left : drop i changes ≡ change ∷ rest) (k : Key) where
  pub stamped_on : (m : Moment) (now new end : Option Moment) → new ≡ cond (is_put_of k change) (Some m) now
      → cond (list_any (is_put_of k) (drop i changes)) (Some m) now ≡ end → cond (list_any (is_put_of k) rest) (Some m) new ≡ end
  stamped_on m now new end here so_far =
      ap (cond (list_any (is_put_of k) rest) (Some m)) here ∙ stamped_twice (is_put_of k change) (list_any (is_put_of k) rest) m now
      ∙ ap (λ cs. cond (list_any (is_put_of k) cs) (Some m) now) (sym left) ∙ so_far

  pub tidied_on : (p : Change → Bool) (t : Bool) (now new end : Option Moment) → new ≡ moment_left (p change) t now
      → moment_left (list_any p (drop i changes)) t now ≡ end → moment_left (list_any p rest) t new ≡ end
  tidied_on p t now new end here so_far =
      ap (moment_left (list_any p rest) t) here ∙ tidied_twice (p change) (list_any p rest) t now
      ∙ ap (λ cs. moment_left (list_any p cs) t now) (sym left) ∙ so_far

  -- a row that a change puts is one that all put
  pub put_of_all : is_put_of k change ≡ true → puts_row changes k ≡ true
  put_of_all e = any_at (is_put_of k) changes i change rest left e

-- ---- one row
module _ (k key : Key) where
  same_key : eq_by_cmp station_cmp k key ≡ true → k ≡ key
  same_key e = elim (one_or_apart station_total station_exact k key) [ inl same ↦ same | inr apart ↦ differ _ apart e ]

  module _ (old new : LastHeard) where
    -- a row without a moment is given one
    pub laid_put : (m : Moment) → new ≡ maps.insert old key m → is_some (maps.get old key) ≡ false
        → (maps.get new k ≡ maps.get old k) ⊎ (((eq_by_cmp station_cmp k key || false) ≡ true) × (maps.get old k ≡ None))
    laid_put m e none =
        elim (one_or_apart station_total station_exact k key) [
          | inl same ↦ inr (
            ap (λ t. t || false) (ap (λ q. eq_by_cmp station_cmp q key) same ∙ tied station_total station_exact key),
            ap (maps.get old) same ∙ no_value _ none,
          )
          | inr apart ↦ inl (ap (λ heard. maps.get heard k) e ∙ get_insert_other station_total station_exact old key m k apart)
        ]

    pub put_there : (m : Moment) → new ≡ maps.insert old key m → eq_by_cmp station_cmp k key ≡ true → IsSome (maps.get new k)
    put_there m e put =
        ap is_some (ap (λ heard. maps.get heard k) e ∙ maps.get-insert station_total old key m k ∙ ap (λ t. cond t (Some m) (maps.get old k)) put)

  pub was_there : (old : LastHeard) → is_some (maps.get old key) ≡ true → eq_by_cmp station_cmp k key ≡ true → IsSome (maps.get old k)
  was_there old some put = ap (λ q. is_some (maps.get old q)) (same_key put) ∙ some

  module _ (s : State) (old : LastHeard) where
    -- a row that is not in the table loses its moment
    pub tidied_removed : (new : LastHeard) → new ≡ maps.remove old key → is_some (maps.get s.stations key) ≡ false
        → maps.get new k ≡ moment_left (eq_by_cmp station_cmp k key) (is_some (maps.get s.stations k)) (maps.get old k)
    tidied_removed new e none =
        ap (λ heard. maps.get heard k) e ∙ maps.get-remove station_total old key k
        ∙ elim (eq_by_cmp station_cmp k key) as (λ t. eq_by_cmp station_cmp k key ≡ t → cond t None (maps.get old k) ≡ moment_left t (is_some (maps.get s.stations k)) (maps.get old k)) [
          | true ↦ λ same. sym (ap (λ t. moment_left true t (maps.get old k)) (ap (λ q. is_some (maps.get s.stations q)) (same_key same) ∙ none))
          | false ↦ λ _. sym (nothing_tidied (is_some (maps.get s.stations k)) (maps.get old k))
        ] refl

    -- and one that is keeps it
    pub tidied_kept : is_some (maps.get s.stations key) ≡ true → maps.get old k ≡ moment_left (eq_by_cmp station_cmp k key) (is_some (maps.get s.stations k)) (maps.get old k)
    tidied_kept some =
        elim (eq_by_cmp station_cmp k key) as (λ t. eq_by_cmp station_cmp k key ≡ t → maps.get old k ≡ moment_left t (is_some (maps.get s.stations k)) (maps.get old k)) [
          | true ↦ λ same. sym (ap (λ t. moment_left true t (maps.get old k)) (ap (λ q. is_some (maps.get s.stations q)) (same_key same) ∙ some))
          | false ↦ λ _. sym (nothing_tidied (is_some (maps.get s.stations k)) (maps.get old k))
        ] refl

pub on_ok : {A E P : Type 0} (r : Result A E) → IsOk r → OnOk r P → P
on_ok (Ok x) is h = h
on_ok (Err e) is h = cc

-- ---- what changes leave of one row
module _ (m : Moment) (k : Key) where
  abbrev at : LastHeard → Option Moment
  at heard = maps.get heard k

  -- a change that does not touch the row leaves its moment
  left_alone : (change : Change) (heard : LastHeard) → is_of k change ≡ false → at (heard_by_change m change heard) ≡ at heard
  left_alone (Put b a station) heard e = maps.get-insert station_total heard (b, a) m k ∙ ap (λ t. cond t (Some m) (at heard)) e
  left_alone (Drop b a) heard e = maps.get-remove station_total heard (b, a) k ∙ ap (λ t. cond t None (at heard)) e
  left_alone other heard e = refl

  untouched : (changes : List Change) (heard : LastHeard) → touches_row changes k ≡ false → at (heard_by_changes m changes heard) ≡ at heard
  untouched [] heard e = refl
  untouched (change ∷ changes) heard e =
      let both = neither (is_of k change) (touches_row changes k) e in
      untouched changes (heard_by_change m change heard) both.1 ∙ left_alone change heard both.0

  abbrev Stamped : Bool → Option Moment → Option Moment → Type 0
  Stamped put before after = IsSome after → after ≡ cond put (Some m) before

  -- where it has a moment, that is this one if it was put, and else the one that it had
  by_change : (change : Change) (heard : LastHeard) → Stamped (is_put_of k change) (at heard) (at (heard_by_change m change heard))
  by_change (Put b a station) heard some = maps.get-insert station_total heard (b, a) m k
  by_change (Drop b a) heard some =
      elim (eq_by_cmp station_cmp k (b, a)) as (λ t. at (maps.remove heard (b, a)) ≡ cond t None (at heard) → at (maps.remove heard (b, a)) ≡ at heard) [
        | true ↦ λ e. none_is _ e some
        | false ↦ λ e. e
      ] (maps.get-remove station_total heard (b, a) k)
  by_change other heard some = refl

  then_stamped : (p q : Bool) (before between after : Option Moment) → Stamped p before between → Stamped q between after → Stamped (p || q) before after
  then_stamped true true before between after first second some = second some
  then_stamped true false before between after first second some = let e = second some in e ∙ first (subst IsSome e some)
  then_stamped false true before between after first second some = second some
  then_stamped false false before between after first second some = let e = second some in e ∙ first (subst IsSome e some)

  stamped : (changes : List Change) (heard : LastHeard) → Stamped (puts_row changes k) (at heard) (at (heard_by_changes m changes heard))
  stamped [] heard some = refl
  stamped (change ∷ changes) heard some =
      then_stamped (is_put_of k change) (puts_row changes k) (at heard) (at (heard_by_change m change heard)) _ (by_change change heard) (stamped changes (heard_by_change m change heard)) some

-- a row that is put is touched
put_is_touch : (k : Key) (change : Change) → is_put_of k change ≡ true → is_of k change ≡ true
put_is_touch k (Put b a station) e = e
put_is_touch k (Drop b a) e = cc
put_is_touch k other e = e

puts_are_touches : (k : Key) (changes : List Change) → touches_row changes k ≡ false → puts_row changes k ≡ false
puts_are_touches k [] e = e
puts_are_touches k (change ∷ changes) e =
    elim (is_put_of k change) as (λ t. is_put_of k change ≡ t → (t || puts_row changes k) ≡ false) [
      | true ↦ λ put. differ _ e (first_true _ _ (put_is_touch k change put))
      | false ↦ λ _. puts_are_touches k changes (neither (is_of k change) (touches_row changes k) e).1
    ] refl

module _ (s : State) (old : LastHeard) (moments : AreMomentsOf s old) (changes : List Change) (laid : LastHeard) (are : AreLaidDown changes old laid) where
  -- a row that no change puts has its moment
  not_put : (k : Key) → puts_row changes k ≡ false → maps.get laid k ≡ maps.get old k
  not_put k none = elim (are k) [ inl same ↦ same | inr put ↦ differ _ none put.0 ]

  same_moment : (k : Key) (m : Moment) (t : Bool) → puts_row changes k ≡ t → cond t (Some m) (maps.get laid k) ≡ cond t (Some m) (maps.get old k)
  same_moment k m true e = refl
  same_moment k m false e = not_put k e

  -- tidied by the table as it was they are those that were
  pub taken_back : (new : LastHeard) → ((k : Key) → maps.get new k ≡ moment_left (touches_row changes k) (is_some (maps.get s.stations k)) (maps.get laid k)) → new ≡ old
  taken_back new says = maps.same_map station_total station_exact new old (λ k. says k ∙
      elim (is_some (maps.get s.stations k)) as (λ t. is_some (maps.get s.stations k) ≡ t → moment_left (touches_row changes k) t (maps.get laid k) ≡ maps.get old k) [
        | true ↦ λ row. elim (are k) [ inl same ↦ same | inr put ↦ none_is _ put.1 (moments k.0 k.1 ∙ row) ]
        | false ↦ λ no_row.
            let none : maps.get old k ≡ None = no_value _ (moments k.0 k.1 ∙ no_row) in
            elim (touches_row changes k) as (λ t. touches_row changes k ≡ t → cond t None (maps.get laid k) ≡ maps.get old k) [
              | true ↦ λ _. sym none
              | false ↦ λ e. not_put k (puts_are_touches k changes e)
            ] refl
      ] refl)

  -- stamped, and then tidied by the table as it is, they are those that the changes leave
  pub changed : (m : Moment) (stamps new : LastHeard) → ((k : Key) → maps.get stamps k ≡ cond (puts_row changes k) (Some m) (maps.get laid k))
      → ((k : Key) → maps.get new k ≡ moment_left (touches_row changes k) (is_some (maps.get (meaning_of changes s).stations k)) (maps.get stamps k)) → new ≡ heard_by_changes m changes old
  changed m stamps new stamp says = maps.same_map station_total station_exact new (heard_by_changes m changes old) (λ k.
      let after = maps.get (heard_by_changes m changes old) k in
      let there : is_some after ≡ is_some (maps.get (meaning_of changes s).stations k) = after_changes m changes s old moments k.0 k.1 in
      says k ∙ elim (is_some (maps.get (meaning_of changes s).stations k)) as (λ t. is_some (maps.get (meaning_of changes s).stations k) ≡ t → moment_left (touches_row changes k) t (maps.get stamps k) ≡ after) [
        | true ↦ λ row. stamp k ∙ same_moment k m (puts_row changes k) refl ∙ sym (stamped m k changes old (there ∙ row))
        | false ↦ λ no_row.
            let none : after ≡ None = no_value _ (there ∙ no_row) in
            elim (touches_row changes k) as (λ t. touches_row changes k ≡ t → cond t None (maps.get stamps k) ≡ after) [
              | true ↦ λ _. sym none
              | false ↦ λ e.
                  let unput = puts_are_touches k changes e in
                  stamp k ∙ ap (λ t. cond t (Some m) (maps.get laid k)) unput ∙ not_put k unput ∙ sym (untouched m k changes old e)
            ] refl
      ] refl)
