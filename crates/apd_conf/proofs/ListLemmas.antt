-- What each line of a list file does to what was read so far.
use Rattle.std.proofs.Common.{cond, rules, ◌≡◌, ℕ, zero, suc, get_or, ◌+◌, ◌≤◌, ◌<◌, List, [], ◌∷◌, Some, None, refl, sym, ap, subst, ◌∙◌, arith, take, length, T, inl, inr, below_more}
use Rattle.std.specs.Prelude.{map, nat_lt, insert, AllPairs, Result, Ok, Err, IsOk}
use Rattle.std.proofs.lemmas.Bool.{lt-ltb, le-ltb, cases_lt}
use Rattle.std.proofs.lemmas.List.{take_all, places}
use Rattle.std.proofs.lemmas.List.Sums.{fold-append}
use Rattle.std.proofs.lemmas.List.{length-map}
use Rattle.std.specs.Ordering.{is_lt}
use Rattle.std.specs.declared.cmp.Ordering.TheVariants.{Less, Equal, Greater}
use Rattle.std.specs.FinMap.Entries.{below_all}
use Rattle.apd_base.specs.Rows.{place, offset, by_order, put_at, remove_at}
use Rattle.apd_base.proofs.AddrLemmas.{addr_total, addr_exact}
use Rattle.apd_base.proofs.RowsLemmas.{is_sorted_head, is_sorted_tail, put-place}
use Rattle.apd_base.proofs.RowsMaps.{sorted_put_at, insert-from_sorted, sorted_remove_at, remove-from_sorted}
use Rattle.std.specs.FinMap as finmap
use Rattle.std.specs.FinMap.{put, is_sorted, from_sorted, entries-from_sorted, len-entries}
use Rattle.apd_base.specs.Addr.{addr_cmp}
use Rattle.apd_base.specs.declared.limits.TheConstants.{MAX_LISTED}
use Rattle.apd_base.specs.declared.address.Addr.{Addr}
use Rattle.apd_conf.specs.declared.list_file.Edit.{Edit}
use Rattle.apd_conf.specs.declared.list_fault.ListFault.TheVariants.{BadAddress, TooMany}
use Rattle.apd_conf.specs.ListFile.{edit_of, after_edit, addresses_in, fault_of, fault_by, fault_at, IsListOf, IsList, IsFaultOf}
use Rattle.apd_conf.proofs.LineLemmas.{IsNext, behind_none}
use Rattle.apd_base.proofs.Cases.{first_holds, second_holds, is_less}

len-from_sorted : (rows : List (Addr × Unit {0})) → T (is_sorted addr_cmp rows) → finmap.len (from_sorted {R = addr_cmp} rows) ≡ length rows
len-from_sorted rows sorted = len-entries (from_sorted {R = addr_cmp} rows) ∙ ap length (entries-from_sorted addr_cmp rows sorted)

ok_later : (r : Result ℕ ℕ) → IsOk (offset 1 r) → IsOk r
ok_later (Ok i) h = refl
ok_later (Err i) h = cc

-- an address that is there already, put there again
put_there : (a : Addr) (rows : List (Addr × Unit {0})) → IsOk (place addr_cmp a rows) → put addr_cmp a tt rows ≡ rows
put_there a [] h = cc
put_there a (row ∷ rows) h =
    elim (addr_cmp a row.0) as (λ r. IsOk (by_order r (Err 0) (Ok 0) (offset 1 (place addr_cmp a rows))) → by_order r ((a, tt) ∷ row ∷ rows) ((row.0, tt) ∷ rows) (row ∷ put addr_cmp a tt rows) ≡ row ∷ rows) [
      | Less ↦ λ g. cc
      | Equal ↦ λ g. refl
      | Greater ↦ λ g. ap (λ fs. row ∷ fs) (put_there a rows (ok_later _ g))
    ] h

module _ (a : Addr) (rows : List (Addr × Unit {0})) (sorted : T (is_sorted addr_cmp rows)) where
  put_is : finmap.insert (from_sorted {R = addr_cmp} rows) a tt ≡ from_sorted (put_at rows a tt (place addr_cmp a rows))
  put_is = insert-from_sorted addr_total addr_exact a tt rows sorted

  -- an address that is there already
  pub there_already : (i : ℕ) → Ok i ≡ place addr_cmp a rows → from_sorted {R = addr_cmp} rows ≡ finmap.insert (from_sorted rows) a tt
  there_already i is = sym (put_is ∙ ap from_sorted (sym (put-place addr_total addr_exact a tt rows) ∙ put_there a rows (subst IsOk is refl)))

  -- and one that is not
  pub sorted_insert : (i : ℕ) → Err i ≡ place addr_cmp a rows → T (is_sorted addr_cmp (insert rows i (a, tt)))
  sorted_insert i is = subst (λ r. T (is_sorted addr_cmp (put_at rows a tt r))) (sym is) (sorted_put_at addr_total addr_exact a tt rows sorted)

  pub more_rows : (i : ℕ) → Err i ≡ place addr_cmp a rows → from_sorted {R = addr_cmp} (insert rows i (a, tt)) ≡ finmap.insert (from_sorted rows) a tt
  more_rows i is = ap (λ r. from_sorted (put_at rows a tt r)) is ∙ sym put_is

  pub no_room : (i : ℕ) → Err i ≡ place addr_cmp a rows → i ≤ length rows → length rows ≡ MAX_LISTED → MAX_LISTED < finmap.len (finmap.insert (from_sorted {R = addr_cmp} rows) a tt)
  no_room i is le full =
      let len : finmap.len (finmap.insert (from_sorted {R = addr_cmp} rows) a tt) ≡ length (insert rows i (a, tt)) =
      ap finmap.len (sym (more_rows i is)) ∙ len-from_sorted (insert rows i (a, tt)) (sorted_insert i is) in
      let more : length (insert rows i (a, tt)) ≡ length rows + 1 = search (rules, places) in
      omega (arith, len, more)

  -- the rows without an address
  pub sorted_without : (r : Result ℕ ℕ) → r ≡ place addr_cmp a rows → T (is_sorted addr_cmp (remove_at rows r))
  sorted_without r is = subst (λ r. T (is_sorted addr_cmp (remove_at rows r))) (sym is) (sorted_remove_at addr_total addr_exact a rows sorted)

  pub fewer_rows : (r : Result ℕ ℕ) → r ≡ place addr_cmp a rows → from_sorted {R = addr_cmp} (remove_at rows r) ≡ finmap.remove (from_sorted rows) a
  fewer_rows r is = ap (λ r. from_sorted (remove_at rows r)) is ∙ sym (remove-from_sorted addr_total addr_exact a rows sorted)

module _ (all : List (List ℕ)) (n : ℕ) (line : List ℕ) (rest : List (List ℕ)) (next : IsNext all n line rest) where
  fault_here : fault_at all n ≡ fault_of n (edit_of line) (addresses_in (take (n + 1) all))
  fault_here = ap (λ o. fault_by n o (addresses_in (take (n + 1) all))) next.there

  -- a line that does nothing of a list file's
  pub bad_line : edit_of line ≡ None → ((m : ℕ) → m < n → fault_at all m ≡ None) → IsFaultOf all (BadAddress (n + 1))
  bad_line bad before = record { place = n; there = fault_here ∙ ap (λ e. fault_of n e (addresses_in (take (n + 1) all))) bad; none_before = before }

  module _ (edit : Edit) (is : edit_of line ≡ Some edit) where
    -- the addresses with that line
    listed_then : addresses_in (take (n + 1) all) ≡ after_edit (addresses_in (take n all)) (Some edit)
    listed_then =
        ap addresses_in next.more ∙ fold-append (λ set l. after_edit set (edit_of l)) finmap.empty (take n all) (line ∷ [])
        ∙ ap (after_edit (addresses_in (take n all))) is

    fault_then : fault_at all n ≡ cond (nat_lt MAX_LISTED (finmap.len (after_edit (addresses_in (take n all)) (Some edit)))) (Some TooMany) None
    fault_then = fault_here ∙ ap (λ e. fault_of n e (addresses_in (take (n + 1) all))) is ∙ ap (λ s. cond (nat_lt MAX_LISTED (finmap.len s)) (Some TooMany) None) listed_then

    module _ (old : List (Addr × Unit {0})) (was : from_sorted {R = addr_cmp} old ≡ addresses_in (take n all)) where
      -- a line that makes too many
      pub too_many : MAX_LISTED < finmap.len (after_edit (from_sorted {R = addr_cmp} old) (Some edit)) → ((m : ℕ) → m < n → fault_at all m ≡ None) → IsFaultOf all TooMany
      too_many many before = record {
        place = n;
        there = fault_then ∙ ap (λ b. cond b (Some TooMany) None) (lt-ltb MAX_LISTED _ (subst (λ s. MAX_LISTED < finmap.len (after_edit s (Some edit))) was many));
        none_before = before;
      }

      module _ (new : List (Addr × Unit {0})) (sorted : T (is_sorted addr_cmp new)) (made : from_sorted {R = addr_cmp} new ≡ after_edit (from_sorted old) (Some edit)) where
        -- and one that does not
        pub listed_more : from_sorted {R = addr_cmp} new ≡ addresses_in (take (n + 1) all)
        listed_more = made ∙ ap (λ s. after_edit s (Some edit)) was ∙ sym listed_then

        as_many : finmap.len (after_edit (addresses_in (take n all)) (Some edit)) ≡ length new
        as_many = sym (ap finmap.len (made ∙ ap (λ s. after_edit s (Some edit)) was)) ∙ len-from_sorted new sorted

        pub fault_none : length new ≤ MAX_LISTED → ((m : ℕ) → m < n → fault_at all m ≡ None) → (m : ℕ) → m < n + 1 → fault_at all m ≡ None
        fault_none few before =
            below_more _ _ before (fault_then ∙ ap (λ m. cond (nat_lt MAX_LISTED m) (Some TooMany) None) as_many ∙ ap (λ b. cond b (Some TooMany) None) (le-ltb MAX_LISTED (length new) few))

no_fault : (all : List (List ℕ)) (n : ℕ) → length all ≤ n → fault_at all n ≡ None
no_fault all n le = ap (λ o. fault_by n o (addresses_in (take (n + 1) all))) (behind_none all n le)

-- what was read when there is no line left
pub whole_list : (all : List (List ℕ)) (n : ℕ) (rows : List (Addr × Unit {0})) (list : List Addr) → n ≡ length all → T (is_sorted addr_cmp rows)
    → from_sorted {R = addr_cmp} rows ≡ addresses_in (take n all) → ((m : ℕ) → m < n → fault_at all m ≡ None) → list ≡ map (λ row. row.0) rows → IsListOf all list
whole_list all n rows list end sorted is none gives = record {
  faultless = λ m. elim (cases_lt m n) [ inl lt ↦ none m lt | inr le ↦ no_fault all m (omega arith) ];
  addresses = gives ∙ ap (map (λ row. row.0)) (sym (entries-from_sorted addr_cmp rows sorted))
      ∙ ap finmap.keys (is ∙ ap addresses_in (take_all n all (omega arith)));
}

pub no_rows : from_sorted {X = Unit {0}} {R = addr_cmp} [] ≡ finmap.empty
no_rows = finmap.empty_of_len (from_sorted {X = Unit {0}} {R = addr_cmp} []) (len-from_sorted [] tt)

below_at : (a : Addr) (rows : List (Addr × Unit {0})) → T (below_all addr_cmp a rows) → (j : ℕ) (d : Addr) → j < length (map (λ row. row.0) rows)
    → addr_cmp a (get_or (map (λ row. row.0) rows) j d) ≡ Less
below_at a [] below j d lt = absurd (omega arith)
below_at a (row ∷ rows) below zero d lt = is_less (addr_cmp a row.0) (first_holds (is_lt (addr_cmp a row.0)) (below_all addr_cmp a rows) below)
below_at a (row ∷ rows) below (suc j) d lt = below_at a rows (second_holds (is_lt (addr_cmp a row.0)) (below_all addr_cmp a rows) below) j d (omega arith)

-- rows in order have addresses that rise
pub rising_rows : (rows : List (Addr × Unit {0})) → T (is_sorted addr_cmp rows) → AllPairs (λ a b. addr_cmp a b ≡ Less) (map (λ row. row.0) rows)
rising_rows [] sorted i j d lt within = absurd (omega arith)
rising_rows (row ∷ rows) sorted i zero d lt within = absurd (omega arith)
rising_rows (row ∷ rows) sorted zero (suc j) d lt within = below_at row.0 rows (is_sorted_head addr_total row rows sorted) j d (omega arith)
rising_rows (row ∷ rows) sorted (suc i) (suc j) d lt within = rising_rows rows (is_sorted_tail addr_total row rows sorted) i j d (omega arith) (omega arith)

-- and so has the list that they make
pub is_list : (rows : List (Addr × Unit {0})) (list : List Addr) → T (is_sorted addr_cmp rows) → length rows ≤ MAX_LISTED → list ≡ map (λ row. row.0) rows → IsList list
is_list rows list sorted few gives = subst IsList (sym gives) (record { few = omega (arith, length-map rows (λ (row : Addr × Unit {0}). row.0)); rising = rising_rows rows sorted })
