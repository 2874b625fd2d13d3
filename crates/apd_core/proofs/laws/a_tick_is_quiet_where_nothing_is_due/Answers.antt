use Rattle.apd_core.proofs.Settling.{front_sound}
use Rattle.apd_core.proofs.Ticking.{tick_is_quiet}
use Rattle.apd_core.proofs.laws.a_tick_is_quiet_where_nothing_is_due.Goals as goal

pub returns : goal.returns
returns c = λ s m core. tick_is_quiet s m (front_sound s core) core.moments
