-- The addresses of the rows of a BSSID, and of one of its lists: they rise, and they are those that the state has.
use Rattle.std.proofs.Common.{◌≡◌, ◌≢◌, ℕ, zero, suc, ◌+◌, ◌<◌, Bool, true, false, cond, ◌&&◌, ◌||◌, List, [], ◌∷◌, ◌++◌, length, map as list_map, filter, Option, Some, None, inl, inr, refl, sym, ap, ◌∙◌, T, take, append_assoc, IsTrue, IsSome, IfSome, IfNone, arith}
use Rattle.std.specs.Prelude.{slice_get}
use Rattle.std.specs.List.{AllByRecursion, find, flat_map}
use Rattle.std.specs.Option.{is_some}
use Rattle.std.specs.Ordering.{eq_by_cmp, is_eq, is_lt, ordering_then}
use Rattle.std.specs.Cmp.{IsTotalOrder, tied_itself}
use Rattle.std.specs.declared.cmp.Ordering.{Ordering}
use Rattle.std.specs.declared.cmp.Ordering.TheVariants.{Less}
use Rattle.std.specs.FinMap as map
use Rattle.std.specs.FinMap.{find as keyed, is_sorted, IsAntisymmetric, get-entries, len-entries, entries_sorted}
use Rattle.std.specs.FinMap.Entries.{below_all}
use Rattle.std.proofs.lemmas.Bool.{and_parts, both_ways}
use Rattle.std.proofs.lemmas.List.{append-nil, length-map}
use Rattle.std.proofs.lemmas.Option.{same_Some}
use Rattle.apd_base.specs.Addr.{is_among, addr_cmp, bssid_cmp}
use Rattle.apd_base.specs.Sets.{contains}
use Rattle.apd_base.specs.State.{State, station_at, is_list_row_of, list_cmp, which_cmp, list_count}
use Rattle.apd_base.specs.declared.address.Addr.{Addr}
use Rattle.apd_base.specs.declared.address.Bssid.{Bssid}
use Rattle.apd_base.specs.declared.station.Station.{Station}
use Rattle.apd_base.specs.declared.station.Which.{Which}
use Rattle.apd_base.proofs.AddrLemmas.{addr_total, addr_exact, bssid_total, bssid_exact, station_total, station_exact}
use Rattle.apd_base.proofs.StateLemmas.{which_total, which_exact, list_total, list_exact}
use Rattle.apd_base.proofs.Cases.{first_holds, second_holds, is_less}
use Rattle.apd_base.proofs.MapLemmas.{one_or_apart, tied}
use Rattle.apd_base.proofs.RowsLemmas.{is_sorted_head, is_sorted_tail}
use Rattle.apd_base.proofs.RowsMaps.{entries-retain_keys}
use Rattle.apd_acl.specs.Least.{IsLeast, IsLeastAbove}
use Rattle.apd_table.specs.Addresses.{addresses_at}
use Rattle.apd_ctrl.specs.Texts.{is_above, listed_addresses, row_text, found_reply, station_reply}
use Rattle.apd_ctrl.specs.Order.{Rising}
use Rattle.apd_ctrl.proofs.Rising.{first_is, next_is, same_key, step_on}

either : {X : Type 0} (u v : Bool) (x : X) (o : Option X) → v ≡ is_some o → (u || v) ≡ is_some (cond u (Some x) o)
either true v x o e = refl
either false v x o e = e

-- entries of which some pass a test, each at the key of its address
module _ {K X : Type 0} {R : K → K → Ordering} (o : IsTotalOrder R) (exact : IsAntisymmetric R) (p : K → Bool) (address : K → Addr) (key : Addr → K)
    (passes : (a : Addr) → p (key a) ≡ true) (back : (k : K) → p k ≡ true → key (address k) ≡ k) (alike : (a c : Addr) → R (key a) (key c) ≡ addr_cmp a c) where
  abbrev addresses : List (K × X) → List Addr
  addresses es = list_map (λ e. address e.0) (filter (λ e. p e.0) es)

  among : (es : List (K × X)) (a : Addr) → is_among a (addresses es) ≡ is_some (keyed R (key a) es)
  among [] a = refl
  among (e ∷ es) a =
      elim (p e.0) as (λ t. p e.0 ≡ t → is_among a (list_map (λ e. address e.0) (cond t (e ∷ filter (λ e. p e.0) es) (filter (λ e. p e.0) es))) ≡ is_some (cond (eq_by_cmp R (key a) e.0) (Some e.1) (keyed R (key a) es))) [
        | true ↦ λ t.
            ap (λ u. u || is_among a (addresses es)) (ap is_eq (sym (alike a (address e.0)) ∙ ap (R (key a)) (back e.0 t)))
            ∙ either (eq_by_cmp R (key a) e.0) (is_among a (addresses es)) e.1 (keyed R (key a) es) (among es a)
        | false ↦ λ t.
            let apart : eq_by_cmp R (key a) e.0 ≡ false = elim (one_or_apart o exact (key a) e.0) [ inl same ↦ absurd (both_ways (p e.0) t (ap p (sym same) ∙ passes a)) | inr ne ↦ ne ] in
            among es a ∙ ap (λ u. is_some (cond u (Some e.1) (keyed R (key a) es))) (sym apart)
      ] refl

  below : (k : K) → p k ≡ true → (es : List (K × X)) → T (below_all R k es) → AllByRecursion (λ c. addr_cmp (address k) c ≡ Less) (addresses es)
  below k pk [] h = tt
  below k pk (e ∷ es) h =
      elim (p e.0) as (λ t. p e.0 ≡ t → AllByRecursion (λ c. addr_cmp (address k) c ≡ Less) (list_map (λ e. address e.0) (cond t (e ∷ filter (λ e. p e.0) es) (filter (λ e. p e.0) es)))) [
        | true ↦ λ t. (sym (alike (address k) (address e.0)) ∙ (λ i. R (back k pk i) (back e.0 t i)) ∙ is_less (R k e.0) (first_holds (is_lt (R k e.0)) (below_all R k es) h), below k pk es (second_holds (is_lt (R k e.0)) (below_all R k es) h))
        | false ↦ λ t. below k pk es (second_holds (is_lt (R k e.0)) (below_all R k es) h)
      ] refl

  rising : (es : List (K × X)) → T (is_sorted R es) → Rising (addresses es)
  rising [] h = tt
  rising (e ∷ es) h =
      elim (p e.0) as (λ t. p e.0 ≡ t → Rising (list_map (λ e. address e.0) (cond t (e ∷ filter (λ e. p e.0) es) (filter (λ e. p e.0) es)))) [
        | true ↦ λ t. (below e.0 t es (is_sorted_head o e es h), rising es (is_sorted_tail o e es h))
        | false ↦ λ t. rising es (is_sorted_tail o e es h)
      ] refl

-- the stations of a BSSID
module _ (s : State) (b : Bssid) where
  pub stations_rise : Rising (addresses_at s b)
  stations_rise = rising station_total station_exact (λ k. eq_by_cmp bssid_cmp b k.0) (λ k. k.1) (λ a. (b, a))
      (λ a. tied bssid_total bssid_exact b) (λ k e. (λ i. (same_key bssid_total bssid_exact b k.0 e i, k.1))) (λ a c. ap (λ r. ordering_then r (addr_cmp a c)) (tied_itself bssid_total b))
      (map.entries s.stations) (entries_sorted s.stations)

  pub stations_are : (a : Addr) → is_among a (addresses_at s b) ≡ is_some (station_at s b a)
  stations_are a =
      among station_total station_exact (λ k. eq_by_cmp bssid_cmp b k.0) (λ k. k.1) (λ a. (b, a))
      (λ a. tied bssid_total bssid_exact b) (λ k e. (λ i. (same_key bssid_total bssid_exact b k.0 e i, k.1))) (λ a c. ap (λ r. ordering_then r (addr_cmp a c)) (tied_itself bssid_total b))
      (map.entries s.stations) a
      ∙ ap is_some (sym (get-entries s.stations (b, a)))

  abbrev HasRow : Addr → Type 0
  HasRow a = IsSome (station_at s b a)

  no_row : (o : Option Station) → o ≡ None → ¬ (IsSome o)
  no_row o e h = cc

  pub first_text : (r : Option (Addr × Station)) → IfSome r (λ x. IsLeast HasRow x.0) → IfSome r (λ x. station_at s b x.0 ≡ Some x.1) → IfNone r ((a : Addr) → station_at s b a ≡ None)
      → row_text r ≡ found_reply s b (slice_get (addresses_at s b) 0)
  first_text None least row none =
      ap (found_reply s b) (first_is (addresses_at s b) HasRow stations_rise (λ a h. stations_are a ∙ h) (λ a h. sym (stations_are a) ∙ h) None tt (λ a. no_row (station_at s b a) (none a)))
  first_text (Some x) least row none =
      ap (station_reply x.0) (sym row)
      ∙ ap (found_reply s b) (first_is (addresses_at s b) HasRow stations_rise (λ a h. stations_are a ∙ h) (λ a h. sym (stations_are a) ∙ h) (Some x.0) least tt)

  pub next_text : (a : Addr) (r : Option (Addr × Station)) → IfSome r (λ x. IsLeastAbove a HasRow x.0) → IfSome r (λ x. station_at s b x.0 ≡ Some x.1) → IfNone r ((c : Addr) → HasRow c → addr_cmp a c ≢ Less)
      → row_text r ≡ found_reply s b (find (is_above a) (addresses_at s b))
  next_text a None least row none =
      ap (found_reply s b) (next_is (addresses_at s b) HasRow a stations_rise (λ c h. stations_are c ∙ h) (λ c h. sym (stations_are c) ∙ h) None tt none)
  next_text a (Some x) least row none =
      ap (station_reply x.0) (sym row)
      ∙ ap (found_reply s b) (next_is (addresses_at s b) HasRow a stations_rise (λ c h. stations_are c ∙ h) (λ c h. sym (stations_are c) ∙ h) (Some x.0) least tt)

-- a list of a BSSID
module _ (s : State) (b : Bssid) (w : Which) where
  key_of : (a : Addr) → is_list_row_of b w (b, w, a) ≡ true
  key_of a = (λ i. tied bssid_total bssid_exact b i && tied which_total which_exact w i)

  key_back : (k : Bssid × Which × Addr) → is_list_row_of b w k ≡ true → (b, w, k.2) ≡ k
  key_back k e =
      let parts = and_parts (eq_by_cmp bssid_cmp b k.0) (eq_by_cmp which_cmp w k.1) e in
      (λ i. (same_key bssid_total bssid_exact b k.0 parts.0 i, same_key which_total which_exact w k.1 parts.1 i, k.2))

  key_order : (a c : Addr) → list_cmp (b, w, a) (b, w, c) ≡ addr_cmp a c
  key_order a c = (λ i. ordering_then (tied_itself bssid_total b i) (ordering_then (tied_itself which_total w i) (addr_cmp a c)))

  pub listed_rise : Rising (listed_addresses s b w)
  unfolding listed_addresses
  listed_rise = rising list_total list_exact (is_list_row_of b w) (λ k. k.2) (λ a. (b, w, a)) key_of key_back key_order (map.entries s.lists) (entries_sorted s.lists)

  pub listed_are : (a : Addr) → is_among a (listed_addresses s b w) ≡ contains s.lists (b, w, a)
  unfolding listed_addresses
  listed_are a = among list_total list_exact (is_list_row_of b w) (λ k. k.2) (λ a. (b, w, a)) key_of key_back key_order (map.entries s.lists) a ∙ ap is_some (sym (get-entries s.lists (b, w, a)))

  pub listed_count : length (listed_addresses s b w) ≡ list_count s b w
  unfolding listed_addresses
  listed_count =
      length-map (filter (λ row. is_list_row_of b w row.0) (map.entries s.lists)) (λ (row : (Bssid × Which × Addr) × Unit {0}). row.0.2)
      ∙ sym (len-entries (map.retain_keys s.lists (is_list_row_of b w)) ∙ ap length (entries-retain_keys list_total list_exact (is_list_row_of b w) s.lists))

  -- none is listed
  pub none_listed : ((a : Addr) → ¬ (IsTrue (contains s.lists (b, w, a)))) → listed_addresses s b w ≡ []
  none_listed none = go (listed_addresses s b w) refl
    where
      go : (all : List Addr) → listed_addresses s b w ≡ all → listed_addresses s b w ≡ []
      go [] e = e
      go (a ∷ all) e = absurd (none a (sym (listed_are a) ∙ ap (is_among a) e ∙ ap (λ t. t || is_among a all) (tied addr_total addr_exact a)))

-- the elements of a list one after the other
pub get_some : {A : Type 0} (all : List A) (i : ℕ) → i < length all → IsSome (slice_get all i)
get_some [] i h = absurd (omega arith)
get_some (x ∷ all) zero h = refl
get_some (x ∷ all) (suc i) h = get_some all i (omega arith)

pub told_more : {A : Type 0} (f : A → List ℕ) (all : List A) (i : ℕ) (a : A) → slice_get all i ≡ Some a → flat_map f (take i all) ++ f a ≡ flat_map f (take (i + 1) all)
told_more f [] i a e = cc
told_more f (x ∷ all) zero a e = ap (λ y. f y) (sym (same_Some x a e)) ∙ sym (append-nil (f x))
told_more f (x ∷ all) (suc i) a e =
    append_assoc (f x) (flat_map f (take i all)) (f a) ∙ ap (λ rest. f x ++ rest) (told_more f all i a e) ∙ ap (λ n. flat_map f (take n (x ∷ all))) (sym (step_on i))
