-- What is seen of a durable core.
use Rattle.apd_flusher.specs.Outside as committer
use Rattle.apd_world.specs.Words.{DurableCore, Flusher}

abbrev pub flusher_of : {D : Type 0} → DurableCore D → Flusher D
flusher_of w = committer.flusher_of w.committer

abbrev pub device_of : {D : Type 0} → DurableCore D → D
device_of w = committer.flusher_device (flusher_of w)
