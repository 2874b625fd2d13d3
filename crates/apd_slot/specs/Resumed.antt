-- A slot that has resumed at a state (own).
use Rattle.std.specs.Prelude.{◌≡◌, true, []}
use Rattle.std.specs.FinMap as map
use Rattle.apd_base.specs.declared.address.Addr.{Addr}
use Rattle.apd_base.specs.State.{State, aid_at}
use Rattle.apd_radio.specs.Model.{RadioModel}
use Rattle.apd_slot.specs.declared.slot.Slot.{Slot}

-- it is up, its radio has exactly the associated stations, and no out waits
pub record Resumed {R : Type 0} (radio : RadioModel R) (s : State) (slot : Slot R) : Type 0 where
  pub up : slot.up ≡ true
  pub driver : (a : Addr) → map.get (radio.stations slot.radio) a ≡ aid_at s slot.bssid a
  pub queue : slot.queue.items ≡ []
