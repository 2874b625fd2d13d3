-- The changes of the rows of BSSIDs in order are those of their policies and their list rows.
use Rattle.std.proofs.Common.{◌≡◌, Bool, true, false, cond, List, [], ◌∷◌, ◌++◌, filter, map as list_map, append_assoc, refl, sym, ap, subst, ◌∙◌, T}
use Rattle.apd_table.proofs.Words.{Accept, Addr, Bss, Bssid, Cursor, Deny, Less, ListAdd, Ordering, SetOf, StationNumber, Which, add_rows, addr_cmp, below_all, both_hold, bssid_cmp, bssid_total, cursor_change, cursor_changes, cursor_of, cursors_of_rows, entries-from_sorted, entries-insert, entries_sorted, first_holds, from_sorted, is_given, is_less, is_lt, is_sorted, is_sorted_tail, len-empty, len-entries, list_change, list_cmp, list_of, list_rows, list_total, lists_of_rows, map-append, nil_from_length, ordering_then, parts_of, policies_of_rows, policy_change, policy_of, policy_rows, second_holds, tied_itself, which_cmp}
use Rattle.std.specs.List.{flat_map}
use Rattle.std.specs.FinMap as map
use Rattle.std.specs.FinMap.{put, entries}
use Rattle.std.specs.FinMap.Entries.{by_order}
use Rattle.apd_table.proofs.BssLemmas.{sorted-parts_of}
use Rattle.apd_table.proofs.ListCounts.{Item, Row, rows_of, below-rows_of}

-- ---- policies

same_policies : (xs : List (Bssid × Bss)) → policies_of_rows xs ≡ list_map policy_change (policy_rows xs)
same_policies [] = refl
same_policies (x ∷ xs) = λ i. policy_change (x.0, x.1.policy) ∷ same_policies xs i

pub policies_are : (xs : List (Bssid × Bss)) → T (is_sorted bssid_cmp xs) → policies_of_rows xs ≡ list_map policy_change (entries (from_sorted {R = bssid_cmp} (policy_rows xs)))
policies_are xs sorted = same_policies xs ∙ ap (list_map policy_change) (sym (entries-from_sorted bssid_cmp (policy_rows xs) (sorted-parts_of policy_of xs sorted)))

-- ---- what was given last, but where that is none

abbrev given : Bssid × StationNumber → Bool
given row = is_given row.1

same_cursors : (xs : List (Bssid × Bss)) → cursors_of_rows xs ≡ list_map cursor_change (filter given (parts_of cursor_of xs))
same_cursors [] = refl
same_cursors (x ∷ xs) =
    let given_row = λ (row : Bssid × Bss). is_given row.1.cursor in
    elim (is_given x.1.cursor) as (λ t. list_map (λ (row : Bssid × Bss). Cursor row.0 row.1.cursor) (cond t (x ∷ filter given_row xs) (filter given_row xs))
    ≡ list_map cursor_change (cond t ((x.0, x.1.cursor) ∷ filter given (parts_of cursor_of xs)) (filter given (parts_of cursor_of xs)))) [
      | true ↦ ap (λ changes. Cursor x.0 x.1.cursor ∷ changes) (same_cursors xs)
      | false ↦ same_cursors xs
    ]

pub cursors_are : (xs : List (Bssid × Bss)) → T (is_sorted bssid_cmp xs) → cursors_of_rows xs ≡ cursor_changes (from_sorted {R = bssid_cmp} (parts_of cursor_of xs))
cursors_are xs sorted = same_cursors xs ∙ ap (λ rows. list_map cursor_change (filter given rows)) (sym (entries-from_sorted bssid_cmp (parts_of cursor_of xs) (sorted-parts_of cursor_of xs sorted)))

-- ---- list rows in their order

less : (r : Ordering) → r ≡ Less → T (is_lt r)
less r e = subst (λ x. T (is_lt x)) (sym e) tt

-- a key below all is put first
put_first : (k : Bssid × Which × Addr) (es : List Row) → T (below_all list_cmp k es) → put list_cmp k tt es ≡ (k, tt) ∷ es
put_first k [] h = refl
put_first k (e ∷ es) h = ap (λ r. by_order r ((k, tt) ∷ e ∷ es) ((e.0, tt) ∷ es) (e ∷ put list_cmp k tt es)) (is_less _ (first_holds _ _ h))

below-append : (k : Bssid × Which × Addr) (es fs : List Row) → T (below_all list_cmp k es) → T (below_all list_cmp k fs) → T (below_all list_cmp k (es ++ fs))
below-append k [] fs h j = j
below-append k (e ∷ es) fs h j = both_hold _ _ (first_holds _ _ h) (below-append k es fs (second_holds _ _ h) j)

-- the rows of a list are put before those that each of them is below
module _ (b : Bssid) (w : Which) (s : SetOf list_cmp) (all_below : (x : Addr) → T (below_all list_cmp (b, w, x) (entries s))) where
  pub entries-add_rows : (items : List Item) → T (is_sorted addr_cmp items) → entries (add_rows b w (list_map (λ (item : Item). item.0) items) s) ≡ rows_of b w items ++ entries s
  entries-add_rows [] sorted = refl
  entries-add_rows (item ∷ items) sorted =
      let k : Bssid × Which × Addr = (b, w, item.0) in
      entries-insert list_total (add_rows b w (list_map (λ (i : Item). i.0) items) s) k tt
      ∙ ap (put list_cmp k tt) (entries-add_rows items (second_holds _ _ sorted))
      ∙ put_first k (rows_of b w items ++ entries s) (below-append k (rows_of b w items) (entries s) (subst T (sym (below-rows_of b w item.0 items)) (first_holds _ _ sorted)) (all_below item.0))

-- ---- the lists of all rows

-- a list of a BSSID is below another list of it, and below those of greater BSSIDs
accept_below : (b : Bssid) (x y : Addr) → list_cmp (b, Accept, x) (b, Deny, y) ≡ Less
accept_below b x y = λ i. ordering_then (tied_itself bssid_total b i) (ordering_then (which_cmp Accept Deny) (addr_cmp x y))

bssid_below : (b c : Bssid) (w v : Which) (x y : Addr) → bssid_cmp b c ≡ Less → list_cmp (b, w, x) (c, v, y) ≡ Less
bssid_below b c w v x y l = λ i. ordering_then (l i) (ordering_then (which_cmp w v) (addr_cmp x y))

below_deny : (b : Bssid) (x : Addr) (items : List Item) → T (below_all list_cmp (b, Accept, x) (rows_of b Deny items))
below_deny b x [] = tt
below_deny b x (item ∷ items) = both_hold _ _ (less _ (accept_below b x item.0)) (below_deny b x items)

below_other : (b c : Bssid) (w v : Which) (x : Addr) → bssid_cmp b c ≡ Less → (items : List Item) → T (below_all list_cmp (b, w, x) (rows_of c v items))
below_other b c w v x l [] = tt
below_other b c w v x l (item ∷ items) = both_hold _ _ (less _ (bssid_below b c w v x item.0 l)) (below_other b c w v x l items)

-- both lists of a row
abbrev pub both_of : Bssid × Bss → List Row
both_of row = rows_of row.0 Accept (entries (list_of row.1.lists Accept)) ++ rows_of row.0 Deny (entries (list_of row.1.lists Deny))

abbrev pub all_of : List (Bssid × Bss) → List Row
all_of xs = flat_map both_of xs

below_rest : (b : Bssid) (w : Which) (x : Addr) (xs : List (Bssid × Bss)) → T (below_all bssid_cmp b xs) → T (below_all list_cmp (b, w, x) (all_of xs))
below_rest b w x [] h = tt
below_rest b w x (row ∷ xs) h =
    let l = is_less _ (first_holds _ _ h) in
    below-append (b, w, x) (both_of row) (all_of xs)
    (below-append (b, w, x) (rows_of row.0 Accept (entries (list_of row.1.lists Accept))) (rows_of row.0 Deny (entries (list_of row.1.lists Deny)))
    (below_other b row.0 w Accept x l (entries (list_of row.1.lists Accept))) (below_other b row.0 w Deny x l (entries (list_of row.1.lists Deny))))
    (below_rest b w x xs (second_holds _ _ h))

-- the empty set has no entries
no_entries : entries (map.empty {X = Unit {0}} {R = list_cmp}) ≡ []
no_entries = nil_from_length _ (sym (len-entries (map.empty {X = Unit {0}} {R = list_cmp})) ∙ len-empty list_cmp (Unit {0}))

pub entries-list_rows : (xs : List (Bssid × Bss)) → T (is_sorted bssid_cmp xs) → entries (list_rows xs) ≡ all_of xs
entries-list_rows [] sorted = no_entries
entries-list_rows (row ∷ xs) sorted =
    let b = row.0 in
    let accepted = entries (list_of row.1.lists Accept) in
    let denied = entries (list_of row.1.lists Deny) in
    let rest = entries-list_rows xs (is_sorted_tail bssid_total row xs sorted) in
    let below = first_holds _ _ sorted in
    let behind : (w : Which) (x : Addr) → T (below_all list_cmp (b, w, x) (entries (list_rows xs))) = λ w x. subst (λ es. T (below_all list_cmp (b, w, x) es)) (sym rest) (below_rest b w x xs below) in
    let second = entries-add_rows b Deny (list_rows xs) (behind Deny) denied (entries_sorted (list_of row.1.lists Deny)) in
    entries-add_rows b Accept (add_rows b Deny (map.keys (list_of row.1.lists Deny)) (list_rows xs))
    (λ x. subst (λ es. T (below_all list_cmp (b, Accept, x) es)) (sym second) (below-append (b, Accept, x) (rows_of b Deny denied) (entries (list_rows xs)) (below_deny b x denied) (behind Accept x)))
    accepted (entries_sorted (list_of row.1.lists Accept))
    ∙ ap (λ es. rows_of b Accept accepted ++ es) (second ∙ ap (λ es. rows_of b Deny denied ++ es) rest)
    ∙ sym (append_assoc (rows_of b Accept accepted) (rows_of b Deny denied) (all_of xs))

-- ---- as changes

changes_of_rows : (b : Bssid) (w : Which) (items : List Item) → list_map list_change (rows_of b w items) ≡ list_map (λ a. ListAdd b w a) (list_map (λ (item : Item). item.0) items)
changes_of_rows b w [] = refl
changes_of_rows b w (item ∷ items) = λ i. ListAdd b w item.0 ∷ changes_of_rows b w items i

changes_of_all : (xs : List (Bssid × Bss)) → list_map list_change (all_of xs) ≡ lists_of_rows xs
changes_of_all [] = refl
changes_of_all (row ∷ xs) =
    let accepted = entries (list_of row.1.lists Accept) in
    let denied = entries (list_of row.1.lists Deny) in
    map-append list_change (both_of row) (all_of xs)
    ∙ (λ i. (map-append list_change (rows_of row.0 Accept accepted) (rows_of row.0 Deny denied) ∙ (λ j. changes_of_rows row.0 Accept accepted j ++ changes_of_rows row.0 Deny denied j)) i ++ changes_of_all xs i)

pub lists_are : (xs : List (Bssid × Bss)) → T (is_sorted bssid_cmp xs) → lists_of_rows xs ≡ list_map list_change (entries (list_rows xs))
lists_are xs sorted = sym (ap (list_map list_change) (entries-list_rows xs sorted) ∙ changes_of_all xs)
