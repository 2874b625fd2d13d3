-- What becomes of a command at a BSSID, a query or an event, and of bytes at the interface that they mean.
use Rattle.std.specs.Prelude.{◌≡◌, ℕ, Bool, true, false, List, Option, Some, None, Result, Ok, Err}
use Rattle.apd_base.specs.declared.address.Bssid.{Bssid}
use Rattle.apd_event.specs.Happening.{Happening, Kick, ListEdit, happening}
use Rattle.apd_ctrl.specs.declared.command.Command.{Command}
use Rattle.apd_ctrl.specs.declared.command.Command.TheVariants as command
use Rattle.apd_ctrl.specs.declared.command.Query.{Query}
use Rattle.apd_ctrl.specs.declared.command.Query.TheVariants as query
use Rattle.apd_ctrl.specs.declared.command.Placed.{Placed}
use Rattle.apd_ctrl.specs.declared.command.Placed.TheVariants as place
use Rattle.apd_ctrl.specs.declared.parser.Refusal.{Refusal}
use Rattle.apd_ctrl.specs.declared.parser.Refusal.TheVariants.{Fail}
use Rattle.apd_ctrl.specs.Grammar.{IsOutcome}

pub data Placing : Type 0 where
  -- it is answered at once
  Asks : Query → Placing
  -- it is decided
  Does : Happening → Placing

abbrev pub placing : Placed → Placing
placing (place.Ask query) = Asks query
placing (place.Do event) = Does (happening event)

-- a command at a BSSID, whose radio is up or not, with a tag
abbrev pub command_placing : Command → Bssid → Bool → ℕ → Placing
command_placing command.Ping b up tag = Asks query.Ping
command_placing command.Status b up tag = Asks (query.Status b up)
command_placing (command.Sta a) b up tag = Asks (query.Sta b a)
command_placing command.StaFirst b up tag = Asks (query.First b)
command_placing (command.StaNext a) b up tag = Asks (query.Next b a)
command_placing (command.Deauthenticate to reason) b up tag = Does (Kick b to reason true tag)
command_placing (command.Disassociate to reason) b up tag = Does (Kick b to reason false tag)
command_placing (command.ListEdit which edit) b up tag = Does (ListEdit b which edit tag)
command_placing (command.Show which) b up tag = Asks (query.Show b which)

abbrev pub placing_of : Result Placed Refusal → Result Placing Refusal
placing_of (Ok placed) = Ok (placing placed)
placing_of (Err why) = Err why

-- a command with a tag at what its interface's name found: a BSSID, whose radio is up or not; it fails at nothing
abbrev pub placed_at : Command → ℕ → Option (Bssid × Bool) → Result Placing Refusal
placed_at command tag None = Err Fail
placed_at command tag (Some found) = Ok (command_placing command found.0 found.1 tag)

module _ (finds : Option (List ℕ) → Option (Bssid × Bool) → Type 0) (tag : ℕ) where
  -- by what bytes are as a command: it is placed at what its name finds, or no name; or they are refused
  abbrev pub Becomes : Result (Option (List ℕ) × Command) Refusal → Result Placing Refusal → Type 0
  Becomes (Ok read) placed =
      (found : Option (Bssid × Bool)) × finds read.0 found × (placed ≡ placed_at read.1 tag found)
  Becomes (Err why) placed = placed ≡ Err why

  -- what becomes of bytes, by the table of commands
  pub record IsPlaced (bytes : List ℕ) (placed : Result Placing Refusal) : Type 0 where
    pub outcome : Result (Option (List ℕ) × Command) Refusal
    pub is : IsOutcome bytes outcome
    pub becomes : Becomes outcome placed
