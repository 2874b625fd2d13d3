-- The words of specs and the lemmas of lower crates that proofs cite, passed on from one place. Declares nothing.
pub use Rattle.apd_base.specs.State.{State, empty_state, policy_at}
pub use Rattle.apd_base.specs.declared.limits.TheConstants.{DEVICE_LENGTH}
pub use Rattle.apd_disk.proofs.Moments.{one_call, quiet_call, started, then_run, weaker}
pub use Rattle.apd_disk.specs.Disk.{DiskModel, Elapses, Follows, IsRead, IsSynced, IsWritten, LeavesOnly, Only, TornWithin, with_bytes}
pub use Rattle.apd_disk.specs.for_proofs.MemLaws.{length-with_bytes, torn_overwritten}
pub use Rattle.apd_journal.proofs.Growth.{behind_unread, front_holds, length-begun, length-planned, new_front}
pub use Rattle.apd_journal.proofs.Once.{half_once}
pub use Rattle.apd_journal.specs.Half.{HalfHolds, IsGroup, begun_bytes, block_of, groups_of, planned_bytes}
pub use Rattle.apd_journal.specs.declared.writer.TheConstants.{HALF_LENGTH}
pub use Rattle.apd_record.specs.Meaning.{cursors_with, meaning, meaning_of, none_given}
pub use Rattle.apd_record.specs.Ranges.{AreChanges}
pub use Rattle.apd_record.specs.Record.{records_of}
pub use Rattle.apd_record.specs.declared.change.Change.{Change}
pub use Rattle.apd_record.specs.declared.change.Change.TheVariants.{Cursor, Drop, ListAdd, ListClear, ListDel, Policy, Put}
pub use Rattle.apd_store.specs.Commit.{AtPhase, HasFailed, IsCommitting, IsIdle, IsWithoutCalls, IsWriting, MayShow, with_group, with_open_group}
pub use Rattle.apd_store.specs.Image.{HalfShows, HasNoCursor, HasOpenGate, IsBehind, IsCurrent, IsMarked, IsMarkedBy, IsMarkedOld, IsNoCursor, IsOpen, IsOverMark, IsStoreBy, MayBeMade, Shows, ShowsBy, ShowsNone, ShowsOld, current_changes, magic, marks, old_magic}
pub use Rattle.apd_store.specs.Layout.{AreParts, AreTorn, BeginsBy, HalfShowsPlainly, HasZeroGate, IsFound, IsFoundBy, IsLaidOut, blank_mark, head_a, image_by, image_of, opposite, start_of}
pub use Rattle.apd_store.specs.Phases.{calls_from}
pub use Rattle.apd_store.specs.Switch.{AtSwitch, IsSnapshot, IsSwitching, with_closed_gate, with_open_snapshot, with_snapshot}
pub use Rattle.apd_store.specs.Upgrading.{HasNoneGiven}
pub use Rattle.apd_store.specs.declared.fault.StoreFault.{StoreFault}
pub use Rattle.apd_store.specs.declared.fault.StoreFault.TheVariants.{Damaged}
pub use Rattle.apd_store.specs.declared.half.Half.{Half}
pub use Rattle.apd_store.specs.declared.half.Half.TheVariants.{A, B}
pub use Rattle.apd_store.specs.declared.phase.Phase.{Phase}
pub use Rattle.apd_store.specs.declared.phase.Phase.TheVariants.{CloseOther, Done, Failed, Idle, OpenGate, OpenHalf, SyncClosed, SyncGate, SyncGroup, SyncHalf, SyncOpened, WriteGroup, WriteHalf}
pub use Rattle.apd_store.specs.declared.store.Store.{Store}
pub use Rattle.apd_table.proofs.Empty.{sound_empty}
pub use Rattle.apd_table.specs.Snapshot.{canonical, cursor_change, is_given, list_change, list_changes, policy_change, policy_changes, station_change, station_changes}
pub use Rattle.apd_table.specs.Sound.{Sound, StaySound}
pub use Rattle.std.proofs.Math.Seq.{drop-cons}
pub use Rattle.std.proofs.lemmas.Bool.{cases_eq, false≢true, lt-ltb, ltb-true}
pub use Rattle.std.proofs.lemmas.List.{append-nil, append_assoc, drop-drop, drop-take, drop_at, length-take-le, nil_from_length, take-take, take_at, take_rest}
pub use Rattle.std.specs.Int.{from_le_bytes, to_le_bytes, w64}
pub use Rattle.std.specs.List.{Contains}
