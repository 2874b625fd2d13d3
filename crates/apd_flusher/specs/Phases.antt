-- The four phases of a flusher, by what its store does next.
use Rattle.apd_store.specs.declared.phase.Phase.{Phase as StorePhase}
use Rattle.apd_store.specs.declared.phase.Phase.TheVariants as store
use Rattle.apd_flusher.specs.declared.phase.Phase.{Phase}
use Rattle.apd_flusher.specs.declared.phase.Phase.TheVariants.{Idle, Busy, Done, Failed}

-- busy is any phase in which calls are left
abbrev pub phase_from : StorePhase → Phase
phase_from store.Idle = Idle
phase_from store.CloseOther = Busy
phase_from store.SyncClosed = Busy
phase_from store.WriteHalf = Busy
phase_from store.SyncHalf = Busy
phase_from store.OpenHalf = Busy
phase_from store.SyncOpened = Busy
phase_from store.WriteGroup = Busy
phase_from store.SyncGroup = Busy
phase_from store.OpenGate = Busy
phase_from store.SyncGate = Busy
phase_from store.Done = Done
phase_from store.Failed = Failed
