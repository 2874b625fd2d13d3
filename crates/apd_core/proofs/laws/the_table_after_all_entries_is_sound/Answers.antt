use Rattle.apd_core.proofs.Settling.{front_sound}
use Rattle.apd_core.proofs.laws.the_table_after_all_entries_is_sound.Goals as goal

pub returns : goal.returns
returns c = front_sound
