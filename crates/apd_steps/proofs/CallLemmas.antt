-- What each call of a core tells.
use Rattle.std.proofs.Common.{◌≡◌, ◌≤◌, List, length, Option, Some, None, Result, Ok, Err, refl, sym}
use Rattle.std.specs.Prelude.{◌↔◌, IfErr, IfNone, IfOk, IfSome, IsNone, IsTrue, OnErr, OnOk}
use Rattle.std.specs.declared.alloc.AllocError.{AllocError}
use Rattle.std.proofs.lemmas.Bool.{false≢true}
use Rattle.apd_base.specs.declared.moment.Moment.{Moment}
use Rattle.apd_ctrl.specs.declared.command.Query.{Query}
use Rattle.apd_journal.specs.Half.{IsGroup}
use Rattle.apd_journal.specs.declared.batch.Batch.{Batch}
use Rattle.apd_store.specs.Outside.{held_batch}
use Rattle.apd_store.specs.declared.store.Receipt.{Receipt}
use Rattle.apd_table.specs.Sound.{StaySound}
use Rattle.apd_mlme.specs.Run.{AreFit}
use Rattle.apd_mlme.specs.declared.decision.Out.{Out}
use Rattle.apd_mlme.specs.declared.decision.Recipient.{Recipient}
use Rattle.apd_core.specs.Core.{CoreState, IsDecided, IsFlight, IsTaken, after_handing_out, after_publish, after_request, answer_at, answer_happenings, answer_to_query, cannot_take, front_of, ready_for}
use Rattle.apd_core.specs.Requests.{happening_of}
use Rattle.apd_core.specs.declared.input.Input.{Input}
use Rattle.apd_core.specs.declared.query_answer.Answer.{Answer}
use Rattle.apd_core.specs.declared.ticket.Accepted.{Accepted}
use Rattle.apd_core.specs.declared.publish_fault.PublishFault.{PublishFault}
use Rattle.apd_core.specs.declared.publish_fault.PublishFault.TheVariants as publish_fault
use Rattle.apd_steps.specs.Calls.{AskTells, CollectTells, PublishTells, SubmitTells, TakeTells, outs_in, refused_by}

pub take_tells : (result : Result (Option Batch) AllocError) (old new : CoreState)
    → IfOk result (λ batch. IsNone batch ↔ IsTrue (cannot_take old))
    → IfOk result (λ batch. IfNone batch (new ≡ old))
    → IfOk result (λ batch. IfSome batch (λ batch. IsTaken batch old new))
    → IfOk result (λ batch. IfSome batch (λ batch. IsGroup batch.changes))
    → IfOk result (λ batch. IfSome batch (λ batch. StaySound batch.changes old.settled))
    → OnErr result (new ≡ old) → OnErr result (¬ IsTrue (cannot_take old)) → TakeTells result old new
take_tells (Ok None) old new none stays taken group sound err lacks = (none.0 refl, stays)
take_tells (Ok (Some batch)) old new none stays taken group sound err lacks =
    (λ cannot. false≢true (sym (none.1 cannot)), taken, group, sound)
take_tells (Err short) old new none stays taken group sound err lacks = (lacks, err)

pub publish_tells : (result : Result (Unit {0}) (Receipt × PublishFault)) (receipt : Receipt) (old new : CoreState)
    → OnOk result (IsFlight (held_batch receipt) old) → OnOk result (new ≡ after_publish old)
    → IfErr result (λ e. (e.1 ≡ publish_fault.Foreign) ↔ ¬ IsFlight (held_batch receipt) old)
    → IfErr result (λ e. (e.0 ≡ receipt) × (new ≡ old)) → PublishTells (refused_by result) receipt old new
publish_tells (Ok done) receipt old new flight ok foreign err = (flight, ok)
publish_tells (Err e) receipt old new flight ok foreign err = (foreign, err.1)

pub comes_back : (result : Result (Unit {0}) (Receipt × PublishFault)) (receipt : Receipt) (old new : CoreState)
    → IfErr result (λ e. (e.0 ≡ receipt) × (new ≡ old)) → IfErr result (λ e. e.0 ≡ receipt)
comes_back (Ok done) receipt old new err = tt
comes_back (Err e) receipt old new err = err.0

pub submit_tells : (result : Result Accepted AllocError) (i : Input) (m : Moment) (old new : CoreState)
    → IfOk result (λ answer. answer ≡ answer_at old m i) → OnOk result (new ≡ after_request old m i)
    → IfOk result (λ answer. AreFit (front_of old) old.confs (answer_happenings answer (happening_of old.confs old.heard m i)))
    → OnErr result (new ≡ old) → OnErr result (IsDecided old m i) → SubmitTells i m result old new
submit_tells (Ok answer) i m old new told ok fit err lacks = (told, ok, fit)
submit_tells (Err short) i m old new told ok fit err lacks = (lacks, err)

pub ask_tells : {E : Type 0} (result : Result Answer E) (q : Query) (s : CoreState)
    → IfOk result (λ answer. answer ≡ answer_to_query s q) → AskTells q result s s
ask_tells (Ok answer) q s told = (told, refl)
ask_tells (Err why) q s told = refl

pub collect_tells : {V : Type 0} (items : V → List Out) (result : Result V AllocError) (to : Recipient) (old new : CoreState)
    → IfOk result (λ outs. items outs ≡ ready_for to old) → OnOk result (new ≡ after_handing_out to old)
    → OnErr result (new ≡ old) → OnErr result (1 ≤ length (ready_for to old)) → CollectTells to (outs_in items result) old new
collect_tells items (Ok outs) to old new are ok err lacks = (are, ok)
collect_tells items (Err short) to old new are ok err lacks = (lacks, err)
