-- An image that shows a state begins with its version's mark.
use Rattle.std.proofs.Common.{◌≡◌, ◌+◌, ℕ, List, ◌++◌, length, take, get_or, refl, sym, ◌∙◌, ap, arith, length-append}
use Rattle.std.proofs.lemmas.List.{take_at}
use Rattle.apd_base.specs.State.{State}
use Rattle.apd_base.specs.declared.limits.TheConstants.{DEVICE_LENGTH}
use Rattle.apd_journal.specs.declared.writer.TheConstants.{HALF_LENGTH}
use Rattle.apd_store.specs.Image.{IsMarked, IsMarkedBy, IsMarkedOld, IsStoreBy, ShowsBy, ShowsNone, ShowsNoneOld, magic, old_magic}

sizes : 8 + (56 + (HALF_LENGTH + HALF_LENGTH)) ≡ DEVICE_LENGTH
sizes = refl

module _ (mark image : List ℕ) (eight : length mark ≡ 8) (s : State) (x : ShowsBy mark image s) where
  store : IsStoreBy mark image x.a x.b
  store = x.store

  whole : length image ≡ DEVICE_LENGTH
  whole = ap length store.is ∙ omega (arith, length-append mark (store.reserved ++ (x.a ++ x.b)), length-append store.reserved (x.a ++ x.b), length-append x.a x.b, eight, store.reserved_length, store.a_length, store.b_length, sizes)

  begins : take 8 image ≡ mark
  begins = ap (λ (l : List ℕ). take 8 l) store.is ∙ take_at mark (store.reserved ++ (x.a ++ x.b)) 8 eight

  pub marked : IsMarkedBy mark image
  marked = (whole, begins)

-- it begins with one of them at most
pub one_mark : (image : List ℕ) → IsMarked image → ¬ IsMarkedOld image
one_mark image new old =
    let last : List ℕ → ℕ = λ l. get_or l 7 0 in
    let same : 50 ≡ 49 = ap last (sym new.1 ∙ old.1) in
    absurd (omega (arith, same))

pub unmarked : (image : List ℕ) → ¬ IsMarked image → ShowsNone image
unmarked image none s shows = none (marked magic image refl s shows)

pub unmarked_old : (image : List ℕ) → ¬ IsMarkedOld image → ShowsNoneOld image
unmarked_old image none s shows = none (marked old_magic image refl s shows.by_mark)
