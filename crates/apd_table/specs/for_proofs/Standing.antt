-- How the two tables of a staged table stand to each other.
use Rattle.std.specs.Prelude.{◌≡◌, List}
use Rattle.apd_base.specs.State.{State}
use Rattle.apd_record.specs.declared.change.Change.{Change}
use Rattle.apd_record.specs.Meaning.{meaning_of}
use Rattle.apd_table.specs.Sound.{StaySound}
use Rattle.apd_table.specs.Staged.{StagedTables}
use Rattle.apd_table.specs.declared.staged.Standing.{Standing}
use Rattle.apd_table.specs.declared.staged.Standing.TheVariants.{Behind, Ahead, Unknown}
use Rattle.apd_table.specs.declared.staged.Staged.TheInside.{Inside}

-- changes lead from one state to another, by sound ones
pub record Lead (changes : List Change) (s t : State) : Type 0 where
  pub sound : StaySound changes s
  pub meaning : meaning_of changes s ≡ t

-- the other table lacks the list of changes, or has it more
abbrev pub Stand : Standing → List Change → State → State → Type 0
Stand Behind changes table other = Lead changes other table
Stand Ahead changes table other = Lead changes table other
Stand Unknown changes table other = Unit {0}

abbrev pub staged_state : Standing → State → State → State
staged_state Behind table other = table
staged_state Ahead table other = other
staged_state Unknown table other = table

abbrev pub tables_of : Inside → StagedTables
tables_of s = record { table = s.table; staged = staged_state s.standing s.table s.other }

abbrev pub IsStaged : Inside → Type 0
IsStaged s = Stand s.standing s.list.items s.table s.other
