-- List rows as a set: what an address more, an address less and an empty list make of it.
use Rattle.std.proofs.Common.{◌≡◌, Bool, true, false, cond, not, ◌&&◌, ◌||◌, Option, Some, None, refl, sym, ap, ◌∙◌}
use Rattle.apd_table.proofs.Words.{Accept, Addr, Bssid, Deny, FinMap, IsAntisymmetric, IsTotalOrder, Lists, Ordering, SetOf, Which, addr_cmp, addr_exact, addr_total, bssid_cmp, bssid_exact, bssid_total, contains, eq_by_cmp, eq_by_cmp_equiv, get-empty, get-insert, get-remove, get-retain_keys, has, is_list_row_of, is_some, list_cmp, list_exact, list_total, same_map, tied, which_cmp, with_address, without_address, without_addresses}
use Rattle.std.specs.FinMap as map
use Rattle.apd_table.proofs.Denied.{one_key}

some_or : {X : Type 0} (t : Bool) (x : X) (o : Option X) → is_some (cond t (Some x) o) ≡ (t || is_some o)
some_or true x o = refl
some_or false x o = refl

none_and : (t : Bool) (o : Option (Unit {0})) → is_some (cond t None o) ≡ (not t && is_some o)
none_and true o = refl
none_and false o = refl

some_and : (t : Bool) (o : Option (Unit {0})) → is_some (cond t o None) ≡ (t && is_some o)
some_and true o = refl
some_and false o = refl

same_unit : (o p : Option (Unit {0})) → is_some o ≡ is_some p → o ≡ p
same_unit None None e = refl
same_unit None (Some x) e = cc
same_unit (Some x) None e = cc
same_unit (Some x) (Some y) e = refl

module _ {K : Type 0} {R : K → K → Ordering} (o : IsTotalOrder R) (exact : IsAntisymmetric R) where
  -- where a value is put one is there, and elsewhere where one was
  pub is_some-insert : {X : Type 0} (m : FinMap R X) (k : K) (x : X) (q : K) → is_some (map.get (map.insert m k x) q) ≡ (eq_by_cmp R q k || is_some (map.get m q))
  is_some-insert m k x q = ap is_some (get-insert o m k x q) ∙ some_or (eq_by_cmp R q k) x (map.get m q)

  pub contains-insert : (s : SetOf R) (k q : K) → contains (map.insert s k tt) q ≡ (eq_by_cmp R q k || contains s q)
  contains-insert s k q = is_some-insert s k tt q

  pub contains-remove : (s : SetOf R) (k q : K) → contains (map.remove s k) q ≡ (not (eq_by_cmp R q k) && contains s q)
  contains-remove s k q = ap is_some (get-remove o s k q) ∙ none_and (eq_by_cmp R q k) (map.get s q)

  pub contains-retain_keys : (s : SetOf R) (p : K → Bool) (q : K) → contains (map.retain_keys s p) q ≡ (p q && contains s q)
  contains-retain_keys s p q = ap is_some (get-retain_keys s p q (λ x t. ap p (sym (exact q x t)))) ∙ some_and (p q) (map.get s q)

  -- sets with the same items are one
  pub same_set : (s t : SetOf R) → ((q : K) → contains s q ≡ contains t q) → s ≡ t
  same_set s t h = same_map o exact s t (λ q. same_unit (map.get s q) (map.get t q) (h q))

pub same_row : (b c : Bssid) (w v : Which) (a x : Addr) → eq_by_cmp list_cmp (b, w, a) (c, v, x) ≡ (eq_by_cmp bssid_cmp b c && (eq_by_cmp which_cmp w v && eq_by_cmp addr_cmp a x))
same_row b c w v a x = one_key (bssid_cmp b c) _ ∙ ap (λ t. eq_by_cmp bssid_cmp b c && t) (one_key (which_cmp w v) (addr_cmp a x))

module _ (s : SetOf list_cmp) (b : Bssid) (w : Which) where
  abbrev with_row : Addr → SetOf list_cmp
  with_row a = map.insert s (b, w, a) tt

  abbrev without_row : Addr → SetOf list_cmp
  without_row a = map.remove s (b, w, a)

  abbrev without_rows : SetOf list_cmp
  without_rows = map.retain_keys s (λ row. not (is_list_row_of b w row))

  -- at the BSSID
  pub insert_here : (a : Addr) (v : Which) (d : Addr) → contains (with_row a) (b, v, d) ≡ ((eq_by_cmp which_cmp v w && eq_by_cmp addr_cmp d a) || contains s (b, v, d))
  insert_here a v d =
      contains-insert list_total list_exact s (b, w, a) (b, v, d) ∙ ap (λ t. t || contains s (b, v, d)) (same_row b b v w d a)
      ∙ ap (λ t. (t && (eq_by_cmp which_cmp v w && eq_by_cmp addr_cmp d a)) || contains s (b, v, d)) (tied bssid_total bssid_exact b)

  pub remove_here : (a : Addr) (v : Which) (d : Addr) → contains (without_row a) (b, v, d) ≡ (not (eq_by_cmp which_cmp v w && eq_by_cmp addr_cmp d a) && contains s (b, v, d))
  remove_here a v d =
      contains-remove list_total list_exact s (b, w, a) (b, v, d) ∙ ap (λ t. not t && contains s (b, v, d)) (same_row b b v w d a)
      ∙ ap (λ t. not (t && (eq_by_cmp which_cmp v w && eq_by_cmp addr_cmp d a)) && contains s (b, v, d)) (tied bssid_total bssid_exact b)

  pub clear_here : (v : Which) (d : Addr) → contains without_rows (b, v, d) ≡ (not (eq_by_cmp which_cmp w v) && contains s (b, v, d))
  clear_here v d =
      contains-retain_keys list_total list_exact s (λ row. not (is_list_row_of b w row)) (b, v, d)
      ∙ ap (λ t. not (t && eq_by_cmp which_cmp w v) && contains s (b, v, d)) (tied bssid_total bssid_exact b)

  -- and at each other one
  module _ (c : Bssid) (apart : eq_by_cmp bssid_cmp c b ≡ false) (v : Which) (d : Addr) where
    pub insert_elsewhere : (a : Addr) → contains (with_row a) (c, v, d) ≡ contains s (c, v, d)
    insert_elsewhere a =
        contains-insert list_total list_exact s (b, w, a) (c, v, d) ∙ ap (λ t. t || contains s (c, v, d)) (same_row c b v w d a)
        ∙ ap (λ t. (t && (eq_by_cmp which_cmp v w && eq_by_cmp addr_cmp d a)) || contains s (c, v, d)) apart

    pub remove_elsewhere : (a : Addr) → contains (without_row a) (c, v, d) ≡ contains s (c, v, d)
    remove_elsewhere a =
        contains-remove list_total list_exact s (b, w, a) (c, v, d) ∙ ap (λ t. not t && contains s (c, v, d)) (same_row c b v w d a)
        ∙ ap (λ t. not (t && (eq_by_cmp which_cmp v w && eq_by_cmp addr_cmp d a)) && contains s (c, v, d)) apart

    pub clear_elsewhere : contains without_rows (c, v, d) ≡ contains s (c, v, d)
    clear_elsewhere =
        contains-retain_keys list_total list_exact s (λ row. not (is_list_row_of b w row)) (c, v, d)
        ∙ ap (λ t. not (t && eq_by_cmp which_cmp w v) && contains s (c, v, d)) ((eq_by_cmp_equiv bssid_total).symm b c ∙ apart)

-- the same of a BSSID's own lists
module _ (lists : Lists) (a d : Addr) where
  pub has_added : (w v : Which) → has (with_address lists w a) v d ≡ ((eq_by_cmp which_cmp v w && eq_by_cmp addr_cmp d a) || has lists v d)
  has_added Accept Accept = contains-insert addr_total addr_exact _ a d
  has_added Accept Deny = refl
  has_added Deny Accept = refl
  has_added Deny Deny = contains-insert addr_total addr_exact _ a d

  pub has_removed : (w v : Which) → has (without_address lists w a) v d ≡ (not (eq_by_cmp which_cmp v w && eq_by_cmp addr_cmp d a) && has lists v d)
  has_removed Accept Accept = contains-remove addr_total addr_exact _ a d
  has_removed Accept Deny = refl
  has_removed Deny Accept = refl
  has_removed Deny Deny = contains-remove addr_total addr_exact _ a d

pub has_cleared : (lists : Lists) (w v : Which) (d : Addr) → has (without_addresses lists w) v d ≡ (not (eq_by_cmp which_cmp w v) && has lists v d)
has_cleared lists Accept Accept d = ap is_some (get-empty addr_cmp d)
has_cleared lists Accept Deny d = refl
has_cleared lists Deny Accept d = refl
has_cleared lists Deny Deny d = ap is_some (get-empty addr_cmp d)
