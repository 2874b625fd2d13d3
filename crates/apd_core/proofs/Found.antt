-- The first entry that passes a test.
use Rattle.std.proofs.Common.{◌≡◌, Bool, true, false, cond, List, [], ◌∷◌, Some, None, ◌⊎◌, inl, inr, refl, sym, ap, subst, ◌∙◌, T}
use Rattle.std.specs.List.{find}
use Rattle.apd_core.proofs.Words.{Addr, Bssid, Less, Moment, below_found, eq_by_cmp, is_sorted_head, is_sorted_tail, one_or_apart, ordering_reverse, station_cmp, station_exact, station_total, tied, tied_itself, tied_not_below}
use Rattle.std.specs.FinMap as maps

abbrev pub Row : Type 0
Row = (Bssid × Addr) × Moment

-- a row that is found passes the test, and is an entry
pub found_entry : (p : Row → Bool) (es : List Row) → T (maps.is_sorted station_cmp es) → (e : Row) → find p es ≡ Some e → (p e ≡ true) × (maps.find station_cmp e.0 es ≡ Some e.1)
found_entry p [] h e f = cc
found_entry p (x ∷ es) h e f =
    elim (p x) as (λ t. p x ≡ t → cond t (Some x) (find p es) ≡ Some e → (p e ≡ true) × (maps.find station_cmp e.0 (x ∷ es) ≡ Some e.1)) [
      | true ↦ λ passes is. let same : x ≡ e = cc in
          subst (λ (z : Row). (p z ≡ true) × (maps.find station_cmp z.0 (x ∷ es) ≡ Some z.1)) same (passes, ap (λ t. cond t (Some x.1) (maps.find station_cmp x.0 es)) (tied station_total station_exact x.0))
      | false ↦ λ _ is.
          let rest = found_entry p es (is_sorted_tail station_total x es h) e is in
          (rest.0, ap (λ t. cond t (Some x.1) (maps.find station_cmp e.0 es)) (tied_not_below station_total e.0 x es h e.1 rest.1) ∙ rest.1)
    ] refl f

-- an entry is the first one, or stands behind it
there : (x : Row) (es : List Row) (k : Bssid × Addr) (m : Moment) → maps.find station_cmp k (x ∷ es) ≡ Some m → ((k, m) ≡ x) ⊎ (maps.find station_cmp k es ≡ Some m)
there x es k m at =
    elim (one_or_apart station_total station_exact k x.0) [
      | inl same ↦
          let ties : eq_by_cmp station_cmp k x.0 ≡ true = ap (λ (z : Bssid × Addr). eq_by_cmp station_cmp z x.0) same ∙ tied station_total station_exact x.0 in
          let value : Some m ≡ Some x.1 = sym at ∙ ap (λ t. cond t (Some x.1) (maps.find station_cmp k es)) ties in
          let moment : m ≡ x.1 = cc in
          inl (λ i. (same i, moment i))
      | inr apart ↦ inr (sym (ap (λ t. cond t (Some x.1) (maps.find station_cmp k es)) apart) ∙ at)
    ]

-- none is before the first one
not_before : (x : Row) (es : List Row) → T (maps.is_sorted station_cmp (x ∷ es)) → (k : Bssid × Addr) (m : Moment) → maps.find station_cmp k (x ∷ es) ≡ Some m → station_cmp k x.0 ≡ Less → ⊥
not_before x es h k m at less =
    elim (there x es k m at) [
      | inl same ↦
          let both : station_cmp k x.0 ≡ station_cmp x.0 x.0 = ap (λ (z : Row). station_cmp z.0 x.0) same in
          let itself = tied_itself station_total x.0 in
          cc (less, both, itself)
      | inr behind ↦
          let above = below_found station_total station_exact x.0 k m es (is_sorted_head station_total x es h) behind in
          let turned = station_total.antisymm k x.0 ∙ ap ordering_reverse above in
          cc (less, turned)
    ]

-- where no entry is found, none passes
pub none_passes : (p : Row → Bool) (es : List Row) → find p es ≡ None → (k : Bssid × Addr) (m : Moment) → maps.find station_cmp k es ≡ Some m → p (k, m) ≡ false
none_passes p [] f k m at = cc
none_passes p (x ∷ es) f k m at =
    elim (p x) as (λ t. p x ≡ t → cond t (Some x) (find p es) ≡ None → p (k, m) ≡ false) [
      | true ↦ λ passes is. cc
      | false ↦ λ fails is. elim (there x es k m at) [ inl same ↦ ap p same ∙ fails | inr behind ↦ none_passes p es is k m behind ]
    ] refl f

-- none before the one that is found does
pub none_before : (p : Row → Bool) (es : List Row) → T (maps.is_sorted station_cmp es) → (e : Row) → find p es ≡ Some e → (k : Bssid × Addr) (m : Moment) → maps.find station_cmp k es ≡ Some m → station_cmp k e.0 ≡ Less → p (k, m) ≡ false
none_before p [] h e f k m at less = cc
none_before p (x ∷ es) h e f k m at less =
    elim (p x) as (λ t. p x ≡ t → cond t (Some x) (find p es) ≡ Some e → p (k, m) ≡ false) [
      | true ↦ λ passes is. let same : x ≡ e = cc in absurd (not_before x es h k m at (ap (λ (z : Row). station_cmp k z.0) same ∙ less))
      | false ↦ λ fails is. elim (there x es k m at) [ inl same ↦ ap p same ∙ fails | inr behind ↦ none_before p es (is_sorted_tail station_total x es h) e is k m behind less ]
    ] refl f
