-- What becomes of a slot that is mended, and by what it still can be (own).
use Rattle.std.specs.Prelude.{◌≡◌, ◌≤◌, ◌+◌, ◌++◌, ◌⊎◌, ℕ, Bool, true, false, List, [], ◌∷◌, Option, Result, OnOk, OnErr, is_ok, Contains}
use Rattle.apd_radio.specs.Model.{RadioModel}
use Rattle.apd_slot.specs.Resuming.{IsGivenAnew, IsGivenRadio}
use Rattle.apd_slot.specs.Slots.{bssid_of, queue_of, radio_of, wanted_of, IsExact}
use Rattle.apd_slot.specs.declared.mending.Mending.{Mending}
use Rattle.apd_slot.specs.declared.mending.TheConstants.{TRIES}
use Rattle.apd_slot.specs.declared.slot.Slot.{Slot}
use Rattle.apd_slot.specs.declared.slot.SlotFault.{SlotFault}

-- A slot was mended by these spares, or none served it: what it wants and what waits stay, where it is up its radio has
-- what is wanted, and its radio, its own or one of the spares, receives the frames that it would have, and was handed none.
pub record IsMended {R : Type 0} (radio : RadioModel R) (frames : R → Option (List (List ℕ))) (spares : List R)
    (old new : Slot R) : Type 0 where
  pub bssid : bssid_of new ≡ bssid_of old
  pub wanted : wanted_of new ≡ wanted_of old
  pub queue : queue_of new ≡ queue_of old
  pub exact : IsExact radio old → IsExact radio new
  pub from : R
  pub either : Contains (radio_of old ∷ spares) from
  pub receives : frames (radio_of new) ≡ frames from
  pub sent : radio.sent (radio_of new) ≡ radio.sent from

-- some of the first were taken away, and these are left
abbrev pub IsEndOf : {A : Type 0} → List A → List A → Type 0
IsEndOf left all = (taken : List _) × (all ≡ taken ++ left)

-- each spare was tried, and the slot's own radio has all its tries
pub record HasOwnTries {R : Type 0} (mending : Mending R) : Type 0 where
  pub spares : mending.spares.items ≡ []
  pub tries : mending.tries ≡ TRIES

module _ {R : Type 0} (radio : RadioModel R) (frames : R → Option (List (List ℕ))) where
  -- A spare was tried in the place of the slot's radio, and it is told whether it serves. One that serves not was refused
  -- for a fault of its own or for want of memory; the slot has the radio that it had, and is down.
  pub record IsTried (spare : R) (serves : Bool) (old new : Slot R) : Type 0 where
    pub answer : Result R (R × SlotFault)
    pub told : serves ≡ is_ok answer
    pub given : IsGivenRadio radio spare answer old new
    pub placed : OnOk answer (frames (radio_of new) ≡ frames spare)

  -- these were tried, one after another, and none serves
  abbrev pub AreRefused : List R → Slot R → Slot R → Type 0
  AreRefused [] old new = new ≡ old
  AreRefused (spare ∷ spares) old new =
      (mid : Slot R) × IsTried spare false old mid × AreRefused spares mid new

  -- One of the spares serves: those in front of it were refused, and exactly those behind it are left. The slot's own
  -- radio, which is this one now, has no try.
  pub record ServesOne (mending left : Mending R) (old new : Slot R) : Type 0 where
    pub refused : List R
    pub spare : R
    pub order : mending.spares.items ≡ refused ++ spare ∷ left.spares.items
    pub mid : Slot R
    pub before : AreRefused refused old mid
    pub serves : IsTried spare true mid new
    pub tries : left.tries ≡ 0

  -- None serves: each was refused, and none is left. The slot's own radio has all its tries.
  pub record ServesNone (mending left : Mending R) (old new : Slot R) : Type 0 where
    pub refused : AreRefused mending.spares.items old new
    pub own : HasOwnTries left

  -- A slot that met a fault begins to be mended: its spares are tried in order until one serves.
  pub record Begins (mending left : Mending R) (old new : Slot R) : Type 0 where
    pub mended : IsMended radio frames mending.spares.items old new
    pub way : ServesOne mending left old new ⊎ ServesNone mending left old new

  -- A try was left, and the slot's own radio was given anew what is wanted. Where the slot is up by that no try is left;
  -- else one fewer is.
  pub record IsTriedAnew (mending left : Mending R) (old new : Slot R) : Type 0 where
    pub some : 1 ≤ mending.tries
    pub answer : Result (Unit {0}) SlotFault
    pub given : IsGivenAnew radio answer old new
    pub over : OnOk answer (left.tries ≡ 0)
    pub fewer : OnErr answer (left.tries + 1 ≡ mending.tries)

  -- whether a try was left is told so; where none was, nothing is done
  abbrev pub TriesAnew : Bool → Mending R → Mending R → Slot R → Slot R → Type 0
  TriesAnew true mending left old new = IsTriedAnew mending left old new
  TriesAnew false mending left old new = (mending.tries ≡ 0) × (left ≡ mending) × (new ≡ old)

  -- A slot goes on being mended, by its own radio; its spares stay.
  pub record GoesOn (answer : Bool) (mending left : Mending R) (old new : Slot R) : Type 0 where
    pub mended : IsMended radio frames [] old new
    pub spares : left.spares ≡ mending.spares
    pub way : TriesAnew answer mending left old new
