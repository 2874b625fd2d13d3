-- An insertion that is taken back.
use Rattle.std.proofs.Common.{◌≡◌, ℕ, Some, None, Result, Ok, Err, IsOk, OnOk, IsSome, inl, inr, refl, sym, ap, ◌∙◌, subst}
use Rattle.std.specs.FinMap as map
use Rattle.std.specs.FinMap.{same_map}
use Rattle.apd_base.specs.declared.address.Addr.{Addr}
use Rattle.apd_base.proofs.AddrLemmas.{addr_total, addr_exact}
use Rattle.apd_base.proofs.MapLemmas.{one_or_apart, get_inserted, get_insert_other, get_removed, get_remove_other}
use Rattle.apd_slot.specs.Wanted.{Stations}

-- over a value
insert_back : (m : Stations) (k : Addr) (v w : ℕ) → map.get m k ≡ Some w → map.insert (map.insert m k v) k w ≡ m
insert_back m k v w was =
    same_map addr_total addr_exact _ _ (λ q.
    elim (one_or_apart addr_total addr_exact q k) [
      | inl e ↦ subst (λ (z : Addr). map.get (map.insert (map.insert m k v) k w) z ≡ map.get m z) (sym e) (get_inserted addr_total addr_exact (map.insert m k v) k w ∙ sym was)
      | inr ne ↦ get_insert_other addr_total addr_exact (map.insert m k v) k w q ne ∙ get_insert_other addr_total addr_exact m k v q ne
    ])

surely : {T E P : Type 0} (r : Result T E) → IsOk r → OnOk r P → P
surely (Ok done) h p = p
surely (Err e) h p = cc

-- where an insertion can't fail at an address that has a value
pub put_over : {T E : Type 0} (r : Result T E) (m now new : Stations) (k : Addr) (v w : ℕ) → now ≡ map.insert m k v → map.get m k ≡ Some w
    → (IsSome (map.get now k) → IsOk r) → OnOk r (new ≡ map.insert now k w) → new ≡ m
put_over r m now new k v w is was over ok =
    surely r (over (subst IsSome (sym (ap (λ (n : Stations). map.get n k) is ∙ get_inserted addr_total addr_exact m k v)) refl)) ok
    ∙ ap (λ (n : Stations). map.insert n k w) is ∙ insert_back m k v w was

-- of a new key
pub remove_back : (m : Stations) (k : Addr) (v : ℕ) → map.get m k ≡ None → map.remove (map.insert m k v) k ≡ m
remove_back m k v was =
    same_map addr_total addr_exact _ _ (λ q.
    elim (one_or_apart addr_total addr_exact q k) [
      | inl e ↦ subst (λ (z : Addr). map.get (map.remove (map.insert m k v) k) z ≡ map.get m z) (sym e) (get_removed addr_total addr_exact (map.insert m k v) k ∙ sym was)
      | inr ne ↦ get_remove_other addr_total addr_exact (map.insert m k v) k q ne ∙ get_insert_other addr_total addr_exact m k v q ne
    ])
