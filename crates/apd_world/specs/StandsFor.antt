-- How a world is tied to a history, and how steps lead from one to another. Who reads the theorem need not know the
-- tie: a world has it from its beginning on, each call keeps it, and what it ties to is a history.
use Rattle.std.specs.Prelude.{◌≡◌, ◌+◌, List, [], ◌∷◌, ◌++◌, length, drop}
use Rattle.apd_world.specs.Words.{Answer, Answered, Conf, Control, CoreState, DiskModel, LeavesOnly, Out, Radio, Recipient, State, Step, Told, World, ready_for, run}
use Rattle.apd_world.specs.CoreRun.{AreHeldFor, AreUnsettled}
use Rattle.apd_world.specs.History.{GoesOn, IsHistory, History, Keeps, after, blank}
use Rattle.apd_world.specs.Outside.{device_of}
use Rattle.apd_world.specs.Proper.{IsProper}
use Rattle.apd_world.specs.Steps.{Account, account, handed_outs}
use Rattle.apd_world.specs.WorldParts.{durable_of, queue_of}
use Rattle.apd_world.specs.WorldRun.{applied_outs}

-- ---- what steps told
-- where a history stands: nothing more has happened
abbrev pub account_of : History → Account
account_of h = record { happened = []; state = run h.first h.confs h.happened; heard = h.heard }

-- what happened by it, and when each station was heard last
abbrev pub account_after : History → List Step → List Told → Account
account_after h steps tolds = account h.confs steps tolds (account_of h)

-- a radio is given what is applied at its slot, and control what is handed to it
abbrev pub outs_in_step : Recipient → Step → Told → List Out
outs_in_step (Radio b) step told = applied_outs b step told
outs_in_step Control step told = handed_outs Control step told

abbrev pub outs_in_steps : Recipient → List Step → List Told → List Out
outs_in_steps r (step ∷ steps) (told ∷ tolds) = outs_in_step r step told ++ outs_in_steps r steps tolds
outs_in_steps r steps tolds = []

abbrev pub answers_in : Told → List Answer
answers_in (Answered answer) = answer ∷ []
answers_in told = []

abbrev pub all_answers : List Told → List Answer
all_answers [] = []
all_answers (told ∷ tolds) = answers_in told ++ all_answers tolds

-- ---- worlds
-- the outs that wait for a recipient beside the durable core
abbrev pub waiting_outs : {D R : Type 0} → Recipient → World D R → List Out
waiting_outs (Radio b) w = queue_of w b
waiting_outs Control w = []

-- The k-th that happened is entry `before + k`. The durable ones are the settled entries, and the settled table is the
-- state after them; the others are the entries that are not settled, and their outs are held. Of the outs of the
-- durable ones, what a recipient was not given yet waits for it beside the core or is ready.
pub record IsHistoryOf (core : CoreState) (waits : Recipient → List Out) (h : History) : Type 0 where
  pub history : IsHistory h
  pub confs : core.confs ≡ h.confs
  pub number : core.number ≡ h.before + h.durable
  pub settled : core.settled ≡ after h h.durable
  pub unsettled : AreUnsettled (drop h.durable h.happened) core
  pub held : (r : Recipient) → AreHeldFor r (drop h.durable h.happened) core
  pub heard_so : core.heard ≡ h.heard
  pub waiting : (r : Recipient) → (history.given r).0 ≡ waits r ++ ready_for r core

abbrev pub StandsFor : {D R : Type 0} → World D R → History → Type 0
StandsFor w h = IsHistoryOf (durable_of w).core (λ r. waiting_outs r w) h

-- The history begins here: nothing of what is not settled is durable, and nothing was said. Each recipient is owed what
-- waits for it, at its slot and then in the core.
pub record BeginsHere {D R : Type 0} (w : World D R) (h : History) : Type 0 where
  pub stands : StandsFor w h
  pub first : h.first ≡ (durable_of w).core.settled
  pub durable : h.durable ≡ 0
  pub owed : (r : Recipient) → h.owed r ≡ waiting_outs r w ++ ready_for r (durable_of w).core
  pub given : (r : Recipient) → h.given r ≡ []
  pub read : h.read ≡ []

-- of these configurations and from this table on, where nothing has happened yet
abbrev pub BeginsAt : {D R : Type 0} → List Conf → State → World D R → Type 0
BeginsAt confs table w = StandsFor w (blank confs table (durable_of w).core.heard)

-- Steps that told so lead from a history of the old world to one of the new: what is new in it is what they told.
pub record LeadsTo {D R : Type 0} (steps : List Step) (tolds : List Told) (old new : World D R)
    (h later : History) : Type 0 where
  pub each : length tolds ≡ length steps
  pub stands : StandsFor new later
  pub goes_on : GoesOn (account_after h steps tolds).happened (account_after h steps tolds).heard
      (λ r. outs_in_steps r steps tolds) (all_answers tolds) h later

module _ {D R : Type 0} (disk : DiskModel D) where
  -- and, from a proper world on, each image that a stop leaves meanwhile is kept
  pub record LeadsSafely (steps : List Step) (tolds : List Told) (old new : World D R)
      (h later : History) : Type 0 where
    pub leads : LeadsTo steps tolds old new h later
    pub proper : IsProper disk (durable_of old) → IsProper disk (durable_of new)
    pub keeps : IsProper disk (durable_of old)
        → LeavesOnly disk (device_of (durable_of old)) (device_of (durable_of new)) (Keeps h later)

  -- to some history
  pub record LeadsOn (steps : List Step) (tolds : List Told) (old new : World D R) (h : History) : Type 0 where
    pub later : History
    pub safely : LeadsSafely steps tolds old new h later
