-- A moment of threads that share a core, seen from a value of each: the calls of the core that the lock keeps, and the
-- committing worker's front and committer.
use Rattle.std.specs.Prelude.{◌≡◌, ℕ, List, [], ◌++◌}
use mathlib.Core.List.{IsPrefix}
use Rattle.apd_core.specs.Core.{CoreState, answer_to_query}
use Rattle.apd_core.specs.Heard.{LastHeard}
use Rattle.apd_ctrl.specs.declared.command.Query.{Query}
use Rattle.apd_disk.specs.Disk.{DiskModel, LeavesOnly}
use Rattle.apd_event.specs.Happening.{Happening}
use Rattle.apd_flusher.specs.Outside.{flusher_device, flusher_of}
use Rattle.apd_flusher.specs.declared.committer.Committer.{Committer}
use Rattle.apd_history.specs.Calling.{HasRun, by_committer}
use Rattle.apd_history.specs.Chain.{AreCalls, Call, commits_of, core_at, given_by}
use Rattle.apd_mlme.specs.declared.decision.Recipient.{Recipient}
use Rattle.apd_steps.specs.Run as worker
use Rattle.apd_world.specs.History.{GoesOn, History, Keeps, SpeaksOf}
use Rattle.apd_world.specs.Outside.{device_of}
use Rattle.apd_world.specs.StandsFor.{IsHistoryOf, account_after}
use Rattle.apd_world.specs.Steps.{Account}
use Rattle.apd_world.specs.declared.durable_core.DurableCore.{DurableCore}
use Rattle.apd_moment.specs.Parts.{AreParts, Part, of_committer, parts_of, steps_of, tolds_of}

abbrev pub committers_device : {D : Type 0} → Committer D → D
committers_device committer = flusher_device (flusher_of committer)

-- what happened by these parts, and when each station was heard last
abbrev pub account_by : History → List Part → Account
account_by h parts = account_after h (steps_of parts) (tolds_of parts)

-- what is new in the later history is what these parts told, and what these calls handed out
abbrev pub GoesBy : List Part → List Call → History → History → Type 0
GoesBy parts calls h later =
    GoesOn (account_by h parts).happened (account_by h parts).heard (λ r. given_by r calls) [] h later

module _ {D : Type 0} (begun : DurableCore D) where
  -- the core that the lock keeps after these calls, and a committer beside it
  abbrev pub durable_at : List Call → Committer D → DurableCore D
  durable_at calls committer = record { core = core_at begun.core calls; committer = committer }

  -- the history stands for a core beside which no out waits: what was handed to a recipient was given to it
  abbrev pub StandsForCore : List Call → History → Type 0
  StandsForCore calls h = IsHistoryOf (core_at begun.core calls) (λ r. []) h

-- What one thread knows by what it has seen of the calls, whatever the others do: the core that was there stands for a
-- history, which goes on from the first by what was handed out, and what is read there is of it.
pub record HasSeen (first : CoreState) (h : History) (seen_by : List Call) : Type 0 where
  pub happened : List Happening
  pub heard : LastHeard
  pub between : History
  pub stands : IsHistoryOf (core_at first seen_by) (λ r. []) between
  pub goes_on : GoesOn happened heard (λ r. given_by r seen_by) [] h between
  pub read : (q : Query) → SpeaksOf between (answer_to_query (core_at first seen_by) q)

-- In the midst of these parts, the first of them made, the durable core stood for a history, which the others lead on
-- from: what a stop left since then has all that had been said by then.
pub record KeepsSince {D : Type 0} (disk : DiskModel D) (first rest : List Part) (calls : List Call)
    (old new : DurableCore D) (h later : History) : Type 0 where
  pub mid : DurableCore D
  pub logged : List Call
  pub more : List Call
  pub all : calls ≡ logged ++ more
  pub made : AreParts disk first logged old mid
  pub others : AreParts disk rest more mid new
  pub between : History
  pub stands : IsHistoryOf mid.core (λ r. []) between
  pub before : GoesBy first logged h between
  pub behind : GoesBy rest more between later
  pub keeps : LeavesOnly disk (device_of mid) (device_of new) (Keeps between later)

module _ {D : Type 0} (disk : DiskModel D) (begun : DurableCore D) where
  -- All calls of the core since it began; the front that the committing worker saw, behind which nobody committed; and the
  -- steps by which its committer came to be so.
  pub record IsSeen (all front : List Call) (committer : Committer D) : Type 0 where
    pub calls : AreCalls begun.core all
    pub front_is : IsPrefix front all
    pub alone : commits_of all ≡ commits_of front
    pub run : HasRun disk begun.core begun.committer front committer

  pub record IsMoment (h : History) (all front : List Call) (committer : Committer D) (seen : IsSeen all front committer)
      : Type 0 where
    -- one list of steps leads there: the committing worker's own, in its order, and the others' in between
    pub parts : List Part
    pub list : AreParts disk parts all begun (durable_at begun all committer)
    pub own : of_committer parts ≡ parts_of seen.run.steps
    -- they lead from the first history to a later one
    pub later : History
    pub stands : StandsForCore begun all later
    pub goes_on : GoesBy parts all h later
    -- what a stop leaves now has all that had been said; and what one left since an earlier step, all by that step
    pub keeps : (image : List ℕ) → disk.may_leave (committers_device committer) image → Keeps later later image
    pub since : (first rest : List Part) → parts ≡ first ++ rest
        → KeepsSince disk first rest all begun (durable_at begun all committer) h later
    -- what who saw this much of the calls was handed, and what it read, is of that history
    pub told : (seen_by : List Call) → IsPrefix seen_by all → (r : Recipient)
        → IsPrefix (h.given r ++ given_by r seen_by) (later.given r)
    pub read : (seen_by : List Call) → IsPrefix seen_by all → (q : Query)
        → SpeaksOf later (answer_to_query (core_at begun.core seen_by) q)
    -- a step of the worker is under way, and not over: what a stop leaves meanwhile has all that had been said
    pub within : (step : worker.Step) (front_then : List Call) (next : Committer D)
        → worker.IsStep disk (by_committer begun.core) step front front_then committer next
        → LeavesOnly disk (committers_device committer) (committers_device next) (Keeps later later)
