-- The rows of BSSIDs in order, as policy rows and list rows.
use Rattle.std.proofs.Common.{◌≡◌, ℕ, Bool, true, false, cond, ◌&&◌, ◌||◌, List, [], ◌∷◌, length, map as list_map, Some, refl, sym, ap, subst, ◌∙◌, T}
use Rattle.apd_table.proofs.Words.{Accept, Addr, Bss, Bssid, Deny, Lists, Policy, SetOf, Which, add_rows, addr_cmp, below_all, bssid_cmp, bssid_total, contains, contains_key-keys, cursor_of, empty_of_len, entries-from_sorted, eq_by_cmp, find_tied_head, from_sorted, get-empty, get-from_sorted, has, is_listed_in, is_lt, is_some, is_sorted, is_sorted_tail, len-entries, length-map, list_any, list_cmp, list_exact, list_of, list_rows, list_total, members_of, no_bss, option_map, parts_of, policy_of, policy_rows, slice_get, state_of_rows, which_cmp}
use Rattle.std.proofs.lemmas.Option.{slice_get-map}
use Rattle.std.specs.FinMap as map
use Rattle.std.specs.FinMap.{find}
use Rattle.apd_table.proofs.ListSets.{contains-insert, same_row}

-- one part of each row
module _ {V : Type 0} (part : Bss → V) where
  find-parts_of : (b : Bssid) (xs : List (Bssid × Bss)) → find bssid_cmp b (parts_of part xs) ≡ option_map part (find bssid_cmp b xs)
  find-parts_of b [] = refl
  find-parts_of b (x ∷ xs) =
      elim (eq_by_cmp bssid_cmp b x.0) as (λ t. cond t (Some (part x.1)) (find bssid_cmp b (parts_of part xs)) ≡ option_map part (cond t (Some x.1) (find bssid_cmp b xs))) [
        | true ↦ refl
        | false ↦ find-parts_of b xs
      ]

  below-parts_of : (b : Bssid) (xs : List (Bssid × Bss)) → below_all bssid_cmp b (parts_of part xs) ≡ below_all bssid_cmp b xs
  below-parts_of b [] = refl
  below-parts_of b (x ∷ xs) = ap (λ t. is_lt (bssid_cmp b x.0) && t) (below-parts_of b xs)

  same_sorted : (xs : List (Bssid × Bss)) → is_sorted bssid_cmp (parts_of part xs) ≡ is_sorted bssid_cmp xs
  same_sorted [] = refl
  same_sorted (x ∷ xs) = λ i. below-parts_of x.0 xs i && same_sorted xs i

  pub sorted-parts_of : (xs : List (Bssid × Bss)) → T (is_sorted bssid_cmp xs) → T (is_sorted bssid_cmp (parts_of part xs))
  sorted-parts_of xs h = subst T (sym (same_sorted xs)) h

  -- that of a BSSID is in its row
  pub get-parts_of : (xs : List (Bssid × Bss)) → T (is_sorted bssid_cmp xs) → (b : Bssid) → map.get (from_sorted {R = bssid_cmp} (parts_of part xs)) b ≡ option_map part (find bssid_cmp b xs)
  get-parts_of xs h b = get-from_sorted bssid_cmp (parts_of part xs) b (sorted-parts_of xs h) ∙ find-parts_of b xs

  -- there are as many as rows
  pub len-parts_of : (xs : List (Bssid × Bss)) → T (is_sorted bssid_cmp xs) → map.len (from_sorted {R = bssid_cmp} (parts_of part xs)) ≡ length xs
  len-parts_of xs h = len-entries _ ∙ ap length (entries-from_sorted bssid_cmp (parts_of part xs) (sorted-parts_of xs h)) ∙ length-map xs (λ x. (x.0, part x.1))

  no_part : from_sorted {R = bssid_cmp} (parts_of part []) ≡ map.empty
  no_part = empty_of_len (from_sorted {R = bssid_cmp} (parts_of part [])) (len-parts_of [] tt)

-- the policies are of the same BSSIDs
all_keys : (xs : List (Bssid × Bss)) → list_map (λ (row : Bssid × Policy). row.0) (policy_rows xs) ≡ list_map (λ (row : Bssid × Bss). row.0) xs
all_keys [] = refl
all_keys (x ∷ xs) = ap (λ ks. x.0 ∷ ks) (all_keys xs)

pub keys_are : (xs : List (Bssid × Bss)) → T (is_sorted bssid_cmp xs) → list_map (λ (row : Bssid × Bss). row.0) xs ≡ map.keys (from_sorted {R = bssid_cmp} (policy_rows xs))
keys_are xs h = sym (ap (list_map (λ (row : Bssid × Policy). row.0)) (entries-from_sorted bssid_cmp (policy_rows xs) (sorted-parts_of policy_of xs h)) ∙ all_keys xs)

pub keys-policy_rows : (xs : List (Bssid × Bss)) → T (is_sorted bssid_cmp xs) → (place : ℕ) → slice_get (map.keys (from_sorted {R = bssid_cmp} (policy_rows xs))) place ≡ option_map (λ (row : Bssid × Bss). row.0) (slice_get xs place)
keys-policy_rows xs h place = ap (λ ks. slice_get ks place) (sym (keys_are xs h)) ∙ slice_get-map (λ (row : Bssid × Bss). row.0) xs place

pub no_rows : state_of_rows [] ≡ no_bss
no_rows = λ i. record {
  lists = map.empty;
  policies = no_part policy_of i;
  cursors = no_part cursor_of i;
  members = no_part members_of i;
}

spread : (e f g l s : Bool) → ((e && (f && g)) || ((e && (f && l)) || s)) ≡ ((e && (f && (g || l))) || s)
spread true true true l s = refl
spread true true false l s = refl
spread true false g l s = refl
spread false f g l s = refl

none_added : (e f s : Bool) → s ≡ ((e && (f && false)) || s)
none_added true true s = refl
none_added true false s = refl
none_added false f s = refl

contains-add_rows : (c : Bssid) (v : Which) (xs : List Addr) (s : SetOf list_cmp) (b : Bssid) (w : Which) (a : Addr)
    → contains (add_rows c v xs s) (b, w, a) ≡ ((eq_by_cmp bssid_cmp b c && (eq_by_cmp which_cmp w v && list_any (eq_by_cmp addr_cmp a) xs)) || contains s (b, w, a))
contains-add_rows c v [] s b w a = none_added (eq_by_cmp bssid_cmp b c) (eq_by_cmp which_cmp w v) _
contains-add_rows c v (x ∷ xs) s b w a =
    contains-insert list_total list_exact (add_rows c v xs s) (c, v, x) (b, w, a)
    ∙ (λ i. same_row b c w v a x i || contains-add_rows c v xs s b w a i)
    ∙ spread (eq_by_cmp bssid_cmp b c) (eq_by_cmp which_cmp w v) (eq_by_cmp addr_cmp a x) _ _

or-false : (t : Bool) → (t || false) ≡ t
or-false true = refl
or-false false = refl

of_lists : (x : Lists) (w : Which) (a : Addr) (s : Bool) → s ≡ false
    → ((eq_by_cmp which_cmp w Accept && list_any (eq_by_cmp addr_cmp a) (map.keys (list_of x Accept))) || ((eq_by_cmp which_cmp w Deny && list_any (eq_by_cmp addr_cmp a) (map.keys (list_of x Deny))) || s)) ≡ has x w a
of_lists x Accept a s none = ap (λ t. list_any (eq_by_cmp addr_cmp a) (map.keys (list_of x Accept)) || t) none ∙ or-false _ ∙ sym (contains_key-keys (list_of x Accept) a)
of_lists x Deny a s none = ap (λ t. list_any (eq_by_cmp addr_cmp a) (map.keys (list_of x Deny)) || t) none ∙ or-false _ ∙ sym (contains_key-keys (list_of x Deny) a)

-- the list rows of a BSSID are those of its row
pub contains-list_rows : (xs : List (Bssid × Bss)) (b : Bssid) (w : Which) (a : Addr) → T (is_sorted bssid_cmp xs) → contains (list_rows xs) (b, w, a) ≡ is_listed_in (find bssid_cmp b xs) w a
contains-list_rows [] b w a h = ap is_some (get-empty list_cmp (b, w, a))
contains-list_rows (x ∷ xs) b w a h =
    let rest = contains-list_rows xs b w a (is_sorted_tail bssid_total x xs h) in
    let whole = contains-add_rows x.0 Accept (map.keys (list_of x.1.lists Accept)) _ b w a ∙ ap (λ t. (eq_by_cmp bssid_cmp b x.0 && (eq_by_cmp which_cmp w Accept && list_any (eq_by_cmp addr_cmp a) (map.keys (list_of x.1.lists Accept)))) || t) (contains-add_rows x.0 Deny (map.keys (list_of x.1.lists Deny)) (list_rows xs) b w a) in
    whole ∙ elim (eq_by_cmp bssid_cmp b x.0) as (λ e. eq_by_cmp bssid_cmp b x.0 ≡ e →
    ((e && (eq_by_cmp which_cmp w Accept && list_any (eq_by_cmp addr_cmp a) (map.keys (list_of x.1.lists Accept)))) || ((e && (eq_by_cmp which_cmp w Deny && list_any (eq_by_cmp addr_cmp a) (map.keys (list_of x.1.lists Deny)))) || contains (list_rows xs) (b, w, a)))
    ≡ is_listed_in (cond e (Some x.1) (find bssid_cmp b xs)) w a) [
      | true ↦ λ e. of_lists x.1.lists w a _ (rest ∙ ap (λ o. is_listed_in o w a) (find_tied_head bssid_total b x xs h e))
      | false ↦ λ e. rest
    ] refl
