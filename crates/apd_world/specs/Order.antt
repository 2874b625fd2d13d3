-- The order in which outs leave: none is lost, none comes twice, none passes another (own).
use Rattle.std.specs.Prelude.{◌≡◌, List, [], ◌++◌}
use Rattle.apd_world.specs.Words.{Happening, Out, Recipient, Step, Told, World, front_of, held_for, outs_run}
use Rattle.apd_world.specs.StandsFor.{outs_in_steps, waiting_outs}
use Rattle.apd_world.specs.Steps.{Account, account}
use Rattle.apd_world.specs.WorldParts.{durable_of}

module _ {D R : Type 0} where
  -- all that a recipient is still to be given: what waits at its slot, and then what the core holds for it
  abbrev pub outs_to_come : Recipient → World D R → List Out
  outs_to_come r w = waiting_outs r w ++ held_for r (durable_of w).core

  -- where a world stands: nothing more has happened
  abbrev pub account_here : World D R → Account
  account_here w = record { happened = []; state = front_of (durable_of w).core; heard = (durable_of w).core.heard }

  -- what was accepted by these steps
  abbrev pub happened_by : List Step → List Told → World D R → List Happening
  happened_by steps tolds w = (account (durable_of w).core.confs steps tolds (account_here w)).happened

  -- Each recipient was given, and is still to be given, what it was to be given before, and then the outs of what was
  -- accepted. A radio is given what is applied at its slot, and control what is handed to it.
  abbrev pub KeepsOrder : List Step → List Told → World D R → World D R → Type 0
  KeepsOrder steps tolds old new = (r : Recipient)
      → outs_in_steps r steps tolds ++ outs_to_come r new
      ≡ outs_to_come r old
      ++ outs_run r (front_of (durable_of old).core) (durable_of old).core.confs (happened_by steps tolds old)
