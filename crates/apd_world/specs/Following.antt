-- The slots follow the table: what waits for them leads to its associated stations (own).
use Rattle.std.specs.Prelude.{◌≡◌, List, Some, IsSome}
use Rattle.std.specs.List.{AllByRecursion}
use Rattle.std.specs.FinMap as maps
use Rattle.apd_world.specs.Words.{Addr, Bssid, IsExact, Radio, RadioModel, Slot, World, aid_at, conf_at, driver_after_all, front_of, held_for, wanted_then}
use Rattle.apd_world.specs.WorldParts.{durable_of, slots_of, slot_at}

-- the radio of each slot that is up has what is wanted
abbrev pub AreExact : {R : Type 0} → RadioModel R → List (Slot R) → Type 0
AreExact radio slots = AllByRecursion (IsExact radio) slots

-- For each configured BSSID that has a slot, the outs that are held for its radio lead from the stations that are
-- wanted once all that waits there is applied to those that are associated after all entries.
abbrev pub AreFollowing : {D R : Type 0} → World D R → Type 0
AreFollowing {D} {R} w =
    let core = (durable_of w).core in
    (b : Bssid) → IsSome (conf_at core.confs b) → (slot : Slot R) → slot_at (slots_of w) b ≡ Some slot
    → (a : Addr)
    → driver_after_all (held_for (Radio b) core) (maps.get (wanted_then slot)) a ≡ aid_at (front_of core) b a
