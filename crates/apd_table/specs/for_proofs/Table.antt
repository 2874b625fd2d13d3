-- A table's fields as a state.
use Rattle.apd_base.specs.State.{State}
use Rattle.apd_table.specs.for_proofs.Members.{AreMembers}
use Rattle.apd_table.specs.Sound.{Sound}
use Rattle.apd_table.specs.declared.table.Table.TheInside.{Inside}

abbrev pub state_of : Inside → State
state_of t = record { stations = t.stations; lists = t.bss.lists; policies = t.bss.policies; cursors = t.bss.cursors }

-- the state is sound, and what is kept of the stations of each BSSID is true of them
pub record IsTable (t : Inside) : Type 0 where
  pub sound : Sound (state_of t)
  pub members : AreMembers (state_of t) t.bss.members
