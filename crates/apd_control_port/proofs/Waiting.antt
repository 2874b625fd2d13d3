-- What waits at the control port, once a call took in what there is.
use Rattle.std.proofs.Common.{◌≡◌, Option, Some, None, IfSome, IsNone, is_some, true, false, ap, refl}
use Rattle.std.specs.Option.{option_map, option_or}
use Rattle.apd_base.proofs.Cases.{differ}

module _ {T W : Type 0} (told : T → W) (P : W → Type 0) where
  -- what waited is what was taken in, where nothing was before
  pub taken_in : (received got : Option T) (old new : Option W) → IsNone received → IfSome old (λ w. P w → option_map told got ≡ Some w)
      → IfSome (option_or (option_map told received) old) (λ w. P w → option_or (option_map told got) new ≡ Some w)
  taken_in None got None new none first = tt
  taken_in None got (Some w) new none first = λ p. ap (λ o. option_or o new) (first p)
  taken_in (Some x) got old new none first = differ true none refl

  -- nothing waited, where nothing was taken in
  pub none_waited : (waited : Option W) (received : Option T) (left : Option W) → IsNone received → IsNone left
      → IfSome waited (λ w. P w → option_or (option_map told received) left ≡ Some w) → IfSome waited (λ w. P w → ⊥)
  none_waited None received left nothing none all = tt
  none_waited (Some w) None None nothing none all = λ p. differ false refl (ap is_some (all p))
  none_waited (Some w) None (Some d) nothing none all = λ p. differ true none refl
  none_waited (Some w) (Some x) left nothing none all = λ p. differ true nothing refl
