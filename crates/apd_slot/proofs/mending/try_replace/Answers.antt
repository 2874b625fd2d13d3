use Rattle.apd_slot.proofs.MendingLemmas.{replace_mends}
use Rattle.apd_slot.proofs.mending.try_replace.Goals as goal

pub returns-clause-mended : goal.returns-clause-mended
returns-clause-mended g c =
    replace_mends g.R.Radio.model g.R.Radio.frames _ _ _ _ c.replace.ensures.given c.replace.ensures.other
