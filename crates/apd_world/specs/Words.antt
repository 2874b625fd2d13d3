-- The words of other crates and of this crate's types that its specs cite, passed on from one place. Declares nothing.
pub use Rattle.apd_base.specs.Addr.{bssid_cmp}
pub use Rattle.apd_base.specs.Failures.{HasRisen}
pub use Rattle.apd_base.specs.State.{State, aid_at}
pub use Rattle.apd_base.specs.declared.address.Addr.{Addr}
pub use Rattle.apd_base.specs.declared.address.Bssid.{Bssid}
pub use Rattle.apd_base.specs.declared.moment.Moment.{Moment}
pub use Rattle.apd_conf.specs.Confs.{conf_at}
pub use Rattle.apd_conf.specs.declared.conf.Conf.{Conf}
pub use Rattle.apd_core.specs.Core.{CoreState, IsFlight, IsTaken, answer_at, after_request, batch_of, cannot_take, front_of, after_handing_out, held_for, last_of, new_core, after_publish, ready_for, state_after}
pub use Rattle.apd_core.specs.Heard.{AreHeardAt, LastHeard, heard_by}
pub use Rattle.apd_core.specs.Held.{queue_of, up_to}
pub use Rattle.apd_core.specs.Invariant.{AreDecided, IsCore, numbered_outs}
pub use Rattle.apd_core.specs.Requests.{happening_of}
pub use Rattle.apd_core.specs.declared.input.Input.{Input}
pub use Rattle.apd_core.specs.declared.input.QuietReason.{QuietReason}
pub use Rattle.apd_core.specs.declared.publish_fault.PublishFault.{PublishFault}
pub use Rattle.apd_core.specs.declared.query_answer.Answer.{Answer}
pub use Rattle.apd_ctrl.specs.Texts.{text}
pub use Rattle.apd_ctrl.specs.declared.command.Query.{Query}
pub use Rattle.apd_disk.specs.Disk.{DiskModel, LeavesOnly, Only}
pub use Rattle.apd_flusher.specs.Committing.{IsImaged, has_failed_after}
pub use Rattle.apd_flusher.specs.Flushing.{IsGood}
pub use Rattle.apd_flusher.specs.Handing.{HasNoneToLoad}
pub use Rattle.apd_flusher.specs.Outside.{calls_left, phase_of, table_of, waiting_batch, waiting_receipt}
pub use Rattle.apd_flusher.specs.declared.committer.Committer.{Committer}
pub use Rattle.apd_flusher.specs.declared.flusher.Flusher.{Flusher}
pub use Rattle.apd_flusher.specs.declared.phase.Phase.{Phase}
pub use Rattle.apd_journal.specs.declared.batch.Batch.{Batch}
pub use Rattle.apd_event.specs.Happening.{Configure, Happening}
pub use Rattle.apd_mlme.specs.Outs.{is_same, outs_to}
pub use Rattle.apd_mlme.specs.Run.{AreFit, outs_run, run}
pub use Rattle.apd_mlme.specs.declared.decision.Out.{Out}
pub use Rattle.apd_mlme.specs.declared.decision.Recipient.{Recipient}
pub use Rattle.apd_mlme.specs.declared.decision.Recipient.TheVariants.{Control, Radio}
pub use Rattle.apd_mlme.specs.laws.Driver.{driver_after_all}
pub use Rattle.apd_mlme.specs.rules.{verdict}
pub use Rattle.apd_radio.specs.Model.{RadioModel}
pub use Rattle.apd_record.specs.declared.change.Change.{Change}
pub use Rattle.apd_slot.specs.Resuming.{IsGivenRadio, IsGivenRows}
pub use Rattle.apd_slot.specs.Rows.{installed_rows}
pub use Rattle.apd_slot.specs.Slots.{HasForgotten, IsExact, SameButRoom, bssid_of, is_up_of, radio_of, wanted_of, wanted_then}
pub use Rattle.apd_slot.specs.Wanted.{wanted_after_all}
pub use Rattle.apd_slot.specs.declared.slot.Slot.{Slot}
pub use Rattle.apd_slot.specs.declared.slot.SlotFault.{SlotFault}
pub use Rattle.apd_store.specs.Image.{Shows}
pub use Rattle.apd_store.specs.Outside.{held_batch}
pub use Rattle.apd_store.specs.declared.fault.StoreFault.{StoreFault}
pub use Rattle.apd_store.specs.declared.fault.StoreFault.TheVariants.{Device}
pub use Rattle.apd_store.specs.declared.store.Receipt.{Receipt}
pub use Rattle.apd_store.specs.declared.store.Store.{Store}
pub use Rattle.apd_table.specs.Sound.{Sound}
pub use Rattle.apd_world.specs.declared.durable_core.DurableCore.{DurableCore}
pub use Rattle.apd_world.specs.declared.fault.WorldFault.{WorldFault}
pub use Rattle.apd_world.specs.declared.step.Commit.{Commit}
pub use Rattle.apd_world.specs.declared.step.Reception.{Reception}
pub use Rattle.apd_world.specs.declared.step.Step.{Step}
pub use Rattle.apd_world.specs.declared.step.Step.TheVariants.{Accept, Apply, Ask, Call, Hand, Publish, Take}
pub use Rattle.apd_world.specs.declared.step.Told.{Told}
pub use Rattle.apd_world.specs.declared.step.Told.TheVariants.{Accepted, Answered, Applied, Called, Handed, Loaded, NoMemory, Nothing, Published, Queued}
pub use Rattle.apd_world.specs.declared.world.World.{World}
