-- The associated stations of a BSSID, address by address.
use Rattle.std.proofs.Common.{◌≡◌, ℕ, Bool, true, false, cond, ◌||◌, List, [], ◌∷◌, ◌++◌, flat_map, Option, Some, None, inl, inr, refl, sym, ap, ◌∙◌}
use Rattle.std.specs.Ordering.{eq_by_cmp}
use Rattle.std.specs.FinMap as map
use Rattle.std.specs.FinMap.{find, get-from_entries}
use Rattle.apd_base.specs.declared.address.Addr.{Addr}
use Rattle.apd_base.specs.declared.address.Bssid.{Bssid}
use Rattle.apd_base.specs.Addr.{addr_cmp, is_among}
use Rattle.apd_base.specs.State.{State, station_at, aid_of, aid_at}
use Rattle.apd_base.proofs.AddrLemmas.{addr_total, addr_exact}
use Rattle.apd_base.proofs.MapLemmas.{one_or_apart, tied}
use Rattle.apd_table.specs.Addresses.{addresses_at}
use Rattle.apd_table.proofs.AllRows.{among_addresses}
use Rattle.apd_slot.specs.Rows.{row_of, installed_rows}

none_either : (t : Bool) → ◌≡◌ {A = Option ℕ} (cond t None None) None
none_either true = refl
none_either false = refl

abbrev at_of : (Addr → Option ℕ) → List Addr → Addr → Option ℕ
at_of f as' q = cond (is_among q as') (f q) None

one_more : (f : Addr → Option ℕ) (a : Addr) (as' : List Addr) (rows : List (Addr × ℕ)) (q : Addr) → find addr_cmp q rows ≡ at_of f as' q
    → (o : Option ℕ) → f a ≡ o → find addr_cmp q (row_of a o ++ rows) ≡ at_of f (a ∷ as') q
one_more f a as' rows q rest o is =
    elim (one_or_apart addr_total addr_exact q a) [
      | inl same ↦
          let t : eq_by_cmp addr_cmp q a ≡ true = ap (eq_by_cmp addr_cmp q) (sym same) ∙ tied addr_total addr_exact q in
          let here : at_of f (a ∷ as') q ≡ o = ap (λ t. cond (t || is_among q as') (f q) None) t ∙ ap f same ∙ is in
          elim o as (λ o. f a ≡ o → at_of f (a ∷ as') q ≡ o → find addr_cmp q (row_of a o ++ rows) ≡ at_of f (a ∷ as') q) [
            | None ↦ λ is here. rest ∙ ap (λ v. cond (is_among q as') v None) (ap f same ∙ is) ∙ none_either (is_among q as') ∙ sym here
            | Some x ↦ λ is here. ap (λ t. cond t (Some x) (find addr_cmp q rows)) t ∙ sym here
          ] is here
      | inr ne ↦
          let there : at_of f as' q ≡ at_of f (a ∷ as') q = ap (λ t. cond (t || is_among q as') (f q) None) (sym ne) in
          elim o as (λ o. find addr_cmp q (row_of a o ++ rows) ≡ at_of f (a ∷ as') q) [
            | None ↦ rest ∙ there
            | Some x ↦ ap (λ t. cond t (Some x) (find addr_cmp q rows)) ne ∙ rest ∙ there
          ]
    ]

found : (f : Addr → Option ℕ) (as' : List Addr) (q : Addr) → find addr_cmp q (flat_map (λ a. row_of a (f a)) as') ≡ at_of f as' q
found f [] q = refl
found f (a ∷ as') q = one_more f a as' (flat_map (λ a. row_of a (f a)) as') q (found f as' q) (f a) refl

all_there : (s : State) (b : Bssid) (q : Addr) → at_of (aid_at s b) (addresses_at s b) q ≡ aid_at s b q
all_there s b q =
    elim (station_at s b q) as (λ o. station_at s b q ≡ o → cond (is_among q (addresses_at s b)) (aid_of o) None ≡ aid_of o) [
      | None ↦ λ e. none_either (is_among q (addresses_at s b))
      | Some x ↦ λ e. ap (λ t. cond t (aid_of (Some x)) None) (among_addresses s b q x e)
    ] refl

pub installed_at : (s : State) (b : Bssid) (q : Addr) → map.get (installed_rows s b) q ≡ aid_at s b q
installed_at s b q = get-from_entries addr_total _ q ∙ found (aid_at s b) (addresses_at s b) q ∙ all_there s b q

pub installed_are : (s : State) (b : Bssid) → map.get (installed_rows s b) ≡ aid_at s b
installed_are s b = λ i q. installed_at s b q i
