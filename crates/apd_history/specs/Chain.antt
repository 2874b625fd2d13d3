-- A history of a core: calls of it, each of the core that the one before left.
use Rattle.std.specs.Prelude.{◌≡◌, ℕ, ◌+◌, List, [], ◌∷◌, ◌++◌, Some, Ok, if◌then◌else◌}
use Rattle.apd_base.specs.declared.moment.Moment.{Moment}
use Rattle.apd_journal.specs.declared.batch.Batch.{Batch}
use Rattle.apd_mlme.specs.Outs.{is_same}
use Rattle.apd_mlme.specs.declared.decision.Out.{Out}
use Rattle.apd_mlme.specs.declared.decision.Recipient.{Recipient}
use Rattle.apd_store.specs.declared.store.Receipt.{Receipt}
use Rattle.apd_core.specs.Core.{CoreState, ready_for}
use Rattle.apd_core.specs.declared.input.Input.{Input}
use Rattle.apd_core.specs.declared.ticket.Accepted.{Accepted}
use Rattle.apd_steps.specs.Calls.{exactly, CollectTells, FailTells, PublishTells, SubmitTells, TakeTells}
use Rattle.apd_history.specs.declared.entry.Kind.{Kind}
use Rattle.apd_history.specs.declared.entry.Kind.TheVariants.{Submit, Take, Publish, Fail, Hand}

-- a call of the core, and what the core was before and after it
pub record Call : Type 0 where
  pub kind : Kind
  pub before : CoreState
  pub after : CoreState

abbrev pub call_of : Kind → CoreState → CoreState → Call
call_of kind before after = record { kind = kind; before = before; after = after }

-- the core after these calls, of one that was so before
abbrev pub core_at : CoreState → List Call → CoreState
core_at first [] = first
core_at first (c ∷ cs) = core_at c.after cs

-- some call of this kind took one core to the other, and may have left it otherwise than it was
abbrev pub IsCall : Kind → CoreState → CoreState → Type 0
IsCall Submit old new = (i : Input) × (m : Moment) × (answer : Accepted) × exactly (SubmitTells i m (Ok answer)) old new
IsCall Take old new = (batch : Batch) × exactly (TakeTells (Ok (Some batch))) old new
IsCall Publish old new = (receipt : Receipt) × exactly (PublishTells (Ok tt) receipt) old new
IsCall Fail old new = exactly FailTells old new
IsCall (Hand to) old new = exactly (CollectTells to (Ok (ready_for to old))) old new

-- some call went so
abbrev pub IsCalled : Call → Type 0
IsCalled c = IsCall c.kind c.before c.after

-- calls that went so, from this core on
abbrev pub AreCalls : CoreState → List Call → Type 0
AreCalls first [] = Unit {0}
AreCalls first (c ∷ cs) = (c.before ≡ first) × IsCalled c × AreCalls c.after cs

-- one list of calls leads from one core to another
abbrev pub HasCalls : CoreState → CoreState → Type 0
HasCalls old new = (cs : List Call) × AreCalls old cs × (new ≡ core_at old cs)

-- the calls by which batches are committed, which the committing worker alone makes
abbrev pub commits_by : Kind → ℕ
commits_by Submit = 0
commits_by Take = 1
commits_by Publish = 1
commits_by Fail = 1
commits_by (Hand to) = 0

abbrev pub commits_of : List Call → ℕ
commits_of [] = 0
commits_of (c ∷ cs) = commits_by c.kind + commits_of cs

-- what a recipient was handed by a call, and by calls
abbrev pub given_as : Recipient → Kind → CoreState → List Out
given_as r (Hand to) core = if is_same r to then ready_for to core else []
given_as r Submit core = []
given_as r Take core = []
given_as r Publish core = []
given_as r Fail core = []

abbrev pub given_by : Recipient → List Call → List Out
given_by r [] = []
given_by r (c ∷ cs) = given_as r c.kind c.before ++ given_by r cs

-- one more call of this kind, by which the core went so, stands behind all calls before
abbrev pub IsOneMore : Kind → CoreState → CoreState → List Call → List Call → Type 0
IsOneMore kind before after old new =
    new ≡ old ++ call_of kind before after ∷ []
