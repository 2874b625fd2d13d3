-- Outs in two parts.
use Rattle.std.proofs.Common.{◌≡◌, List, [], ◌∷◌, ◌++◌, refl, ap, ◌∙◌}
use Rattle.std.specs.Prelude.{map as list_map, filter}
use Rattle.apd_mlme.proofs.Words.{DriverMap, Out, Recipient, driver_after, driver_after_all, filter-append, is_same, map-append, outs_to}

-- those to a recipient
pub outs_to-append : (r : Recipient) (xs ys : List (Recipient × Out)) → outs_to r (xs ++ ys) ≡ outs_to r xs ++ outs_to r ys
outs_to-append r xs ys =
    ap (list_map (λ (z : Recipient × Out). z.1)) (filter-append (λ (z : Recipient × Out). is_same r z.0) xs ys) ∙ map-append (λ (z : Recipient × Out). z.1) (filter (λ z. is_same r z.0) xs) (filter (λ z. is_same r z.0) ys)

-- what they do to a driver
pub driver_after_all-append : (xs ys : List Out) (m : DriverMap) → driver_after_all (xs ++ ys) m ≡ driver_after_all ys (driver_after_all xs m)
driver_after_all-append [] ys m = refl
driver_after_all-append (x ∷ xs) ys m = driver_after_all-append xs ys (driver_after x m)
