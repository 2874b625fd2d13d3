-- The words that proofs cite, passed on from one place. Declares nothing.
pub use Rattle.apd_journal.specs.Half.{changes_of}
pub use Rattle.apd_core.specs.Core.{answer_at, after_request, batch_of, answer_happenings, new_core, with_entry, with_sender}
pub use Rattle.apd_core.specs.Heard.{AreHeardAt, due_row, heard_by}
pub use Rattle.apd_flusher.specs.Committing.{IsDurable, IsInStep, IsUnderWay, IsWaiting}
pub use Rattle.apd_flusher.specs.Handing.{IsLoadGiven, IsNextBatch, IsTurnMade, IsUnloaded, Keeps, TurnTells}
pub use Rattle.apd_flusher.specs.declared.phase.Phase.TheVariants.{Busy, Done, Failed, Idle}
pub use Rattle.apd_world.specs.Applying.{AppliesFirst, IsApplied}
pub use Rattle.apd_world.specs.CoreRun.{AreHeldFor, AreUnsettled, Goes, GoesQuietly, Settles}
pub use Rattle.apd_world.specs.Ending.{Ends, HasEnded, HasFailedCore, HasGoneOn, HasMetNoRefusal, IsEnd, IsNoOtherRefusal, IsNoRefusal}
pub use Rattle.apd_world.specs.Starting.{IsAtRest, IsFlushed, rounds}
pub use Rattle.apd_world.specs.Failing.{IsFailed}
pub use Rattle.apd_world.specs.Following.{AreExact, AreFollowing}
pub use Rattle.apd_world.specs.HandingOut.{HoldsReplies, IsForRadio, IsGiven, IsHandedOut, IsHanding, OnlyHands, applies, hands, radio_hands, recipient_of}
pub use Rattle.apd_world.specs.Outside.{device_of, flusher_of}
pub use Rattle.apd_world.specs.Proper.{IsProper, IsSafe, IsSafeAtBoth, IsStepMade, IsWhole}
pub use Rattle.apd_world.specs.Queueing.{AreQueued, QueuesReady}
pub use Rattle.apd_world.specs.Replacing.{IsReplaced, IsReplacedAt, RefusesRadio, Replaces}
pub use Rattle.apd_world.specs.Resumed.{AreHandedBack, AreLeft, AreResumed, EndsAtSlot, HasNotResumed, HaveSameBssids, IsResumed}
pub use Rattle.apd_world.specs.Round.{IsRoundAnswer, Commits, HasNoChangesNext, HasRoomForNext, IsRound, answer_of, round, commit_of}
pub use Rattle.apd_world.specs.Run.{IsStep}
pub use Rattle.apd_world.specs.SafelyMade.{AreMadeInTurn, AreSafelyMade, LeadsSince}
pub use Rattle.apd_world.specs.Shown.{ShowsEither, ShowsFlight, flight_of}
pub use Rattle.apd_world.specs.Steps.{Account, account, step_happenings, reception_happenings, handed_outs, heard_after, heard_as, one_more}
pub use Rattle.apd_world.specs.StepsMade.{AreAccepted, AreAllApplied, AreAnswered, AreSettled}
pub use Rattle.apd_world.specs.Telling.{HasNoBatch, HasNoCall, HasNoReceipt, IsAccepted, IsCalled, IsHanded, IsNext, IsPublished, IsAsked, IsTakenUp, Tells, reception_of}
pub use Rattle.apd_world.specs.Words.{Accept, Accepted, Addr, Answer, Answered, Applied, Apply, AreFit, Ask, Batch, Bssid, Call, Called, Change, Commit, Committer, Conf, Configure, Control, CoreState, Device, DiskModel, DurableCore, Flusher, Hand, Handed, Happening, HasForgotten, HasNoneToLoad, HasRisen, Input, IsCore, IsExact, IsFlight, IsGood, IsImaged, IsTaken, LastHeard, LeavesOnly, Loaded, Moment, NoMemory, Nothing, Out, Phase, Publish, Published, Query, Queued, QuietReason, Radio, RadioModel, Receipt, Reception, Recipient, SameButRoom, Shows, Slot, SlotFault, Sound, State, Step, Store, StoreFault, Take, Told, World, WorldFault, aid_at, bssid_cmp, bssid_of, calls_left, cannot_take, driver_after_all, has_failed_after, front_of, after_handing_out, happening_of, held_batch, held_for, installed_rows, last_of, outs_run, outs_to, phase_of, after_publish, radio_of, ready_for, run, state_after, up_to, verdict, waiting_batch, waiting_receipt, wanted_after_all, wanted_then}
pub use Rattle.apd_world.specs.WorldParts.{durable_of, queue_if, queue_of, slot_at, slot_in, slot_place, slots_of}
pub use Rattle.apd_world.specs.WorldRun.{HasNoSlot, IsWorldStep, Joins, RestStays, SlotGoes, applied_outs}
