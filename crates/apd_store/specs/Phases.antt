-- How many calls of a batch are left.
use Rattle.std.specs.Prelude.{ℕ}
use Rattle.apd_store.specs.declared.phase.Phase.{Phase}
use Rattle.apd_store.specs.declared.phase.Phase.TheVariants.{Idle, CloseOther, SyncClosed, WriteHalf, SyncHalf, OpenHalf, SyncOpened, WriteGroup, SyncGroup, OpenGate, SyncGate, Done, Failed}

-- the calls from this phase on; none where no batch is begun, all were made, or the device has failed
abbrev pub calls_from : Phase → ℕ
calls_from Idle = 0
calls_from CloseOther = 10
calls_from SyncClosed = 9
calls_from WriteHalf = 8
calls_from SyncHalf = 7
calls_from OpenHalf = 6
calls_from SyncOpened = 5
calls_from WriteGroup = 4
calls_from SyncGroup = 3
calls_from OpenGate = 2
calls_from SyncGate = 1
calls_from Done = 0
calls_from Failed = 0
