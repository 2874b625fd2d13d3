-- What each call does to a core, by its answer, and what may be known of the core (own).
use Rattle.std.specs.Prelude.{◌≡◌, ◌↔◌, ◌≤◌, true, List, length, Option, Some, None, Result, Ok, Err, IsTrue}
use Rattle.std.specs.declared.alloc.AllocError.{AllocError}
use Rattle.apd_base.specs.declared.moment.Moment.{Moment}
use Rattle.apd_ctrl.specs.declared.command.Query.{Query}
use Rattle.apd_journal.specs.Half.{IsGroup}
use Rattle.apd_journal.specs.declared.batch.Batch.{Batch}
use Rattle.apd_store.specs.Outside.{held_batch}
use Rattle.apd_store.specs.declared.store.Receipt.{Receipt}
use Rattle.apd_table.specs.Sound.{StaySound}
use Rattle.apd_mlme.specs.Run.{AreFit}
use Rattle.apd_mlme.specs.declared.decision.Out.{Out}
use Rattle.apd_mlme.specs.declared.decision.Recipient.{Recipient}
use Rattle.apd_core.specs.Core.{CoreState, IsDecided, IsFlight, IsTaken, after_handing_out, after_publish, after_request, answer_at, answer_happenings, answer_to_query, cannot_take, front_of, ready_for}
use Rattle.apd_core.specs.Invariant.{IsCore}
use Rattle.apd_core.specs.Requests.{happening_of}
use Rattle.apd_core.specs.declared.input.Input.{Input}
use Rattle.apd_core.specs.declared.query_answer.Answer.{Answer}
use Rattle.apd_core.specs.declared.ticket.Accepted.{Accepted}
use Rattle.apd_core.specs.declared.publish_fault.PublishFault.{PublishFault}
use Rattle.apd_core.specs.declared.publish_fault.PublishFault.TheVariants as publish_fault

-- a batch is given away; or none is; or memory is lacking for one
abbrev pub TakeTells : Result (Option Batch) AllocError → CoreState → CoreState → Type 0
TakeTells (Ok None) old new = IsTrue (cannot_take old) × (new ≡ old)
TakeTells (Ok (Some batch)) old new =
    (¬ IsTrue (cannot_take old)) × IsTaken batch old new × IsGroup batch.changes × StaySound batch.changes old.settled
TakeTells (Err short) old new = (¬ IsTrue (cannot_take old)) × (new ≡ old)

-- why a receipt comes back
abbrev pub refused_by : Result (Unit {0}) (Receipt × PublishFault) → Result (Unit {0}) PublishFault
refused_by (Ok done) = Ok done
refused_by (Err back) = Err back.1

-- the batch of the receipt is settled, or the receipt is refused
abbrev pub PublishTells : Result (Unit {0}) PublishFault → Receipt → CoreState → CoreState → Type 0
PublishTells (Ok done) receipt old new = IsFlight (held_batch receipt) old × (new ≡ after_publish old)
PublishTells (Err fault) receipt old new =
    ((fault ≡ publish_fault.Foreign) ↔ ¬ IsFlight (held_batch receipt) old) × (new ≡ old)

-- no request is accepted any more
abbrev pub FailTells : CoreState → CoreState → Type 0
FailTells old new = new ≡ record old { failed = true }

-- a request at a moment is answered, and what it enters is fit; or memory is lacking for the entry that it would be
abbrev pub SubmitTells : Input → Moment → Result Accepted AllocError → CoreState → CoreState → Type 0
SubmitTells i m (Ok answer) old new = (answer ≡ answer_at old m i) × (new ≡ after_request old m i)
    × AreFit (front_of old) old.confs (answer_happenings answer (happening_of old.confs old.heard m i))
SubmitTells i m (Err short) old new = IsDecided old m i × (new ≡ old)

-- a query is answered, or is not for some reason; nothing changes
abbrev pub AskTells : {E : Type 0} → Query → Result Answer E → CoreState → CoreState → Type 0
AskTells q (Ok answer) old new = (answer ≡ answer_to_query old q) × (new ≡ old)
AskTells q (Err why) old new = new ≡ old

-- the outs in an answer
abbrev pub outs_in : {V E : Type 0} → (V → List Out) → Result V E → Result (List Out) E
outs_in items (Ok outs) = Ok (items outs)
outs_in items (Err short) = Err short

-- a recipient is given all that is ready for it; or memory is lacking, and some is ready
abbrev pub CollectTells : Recipient → Result (List Out) AllocError → CoreState → CoreState → Type 0
CollectTells to (Ok outs) old new = (outs ≡ ready_for to old) × (new ≡ after_handing_out to old)
CollectTells to (Err short) old new = (1 ≤ length (ready_for to old)) × (new ≡ old)

-- what is known of the core, before and after, by who makes a call that goes so
abbrev pub Made : Type 0 → Type 1
Made A = (CoreState → CoreState → Type 0) → A → A → Type 0

-- of a core that one has, all: it is a core, and it went so
abbrev pub exactly : Made CoreState
exactly call core after = IsCore core × call core after

-- of a core that others call before and after: there was one that went so
abbrev pub of_some_core : {A : Type 0} → Made A
of_some_core call here there = (core : CoreState) × (after : CoreState) × exactly call core after

-- of no core: no call is made
abbrev pub no_core : Made (Unit {0})
no_core call here there = ⊥
