use Rattle.std.proofs.Common.{refl}
use Rattle.apd_slot.proofs.MendingLemmas.{resync_mends, unmended, zero_of}
use Rattle.apd_slot.proofs.mending.Mending.go_on.Goals as goal

pub returns-clause-mended : goal.returns-clause-mended
returns-clause-mended g c =
    resync_mends g.R.Radio.model g.R.Radio.frames _ _ _ c.resync.ensures.given c.resync.ensures.frames

pub returns-in_default-clause-mended : goal.returns-in_default-clause-mended
returns-in_default-clause-mended g c = unmended g.R.Radio.model g.R.Radio.frames _ _

pub returns-in_default-clause-goes_on : goal.returns-in_default-clause-goes_on
returns-in_default-clause-goes_on g c = record {
  mended = unmended g.R.Radio.model g.R.Radio.frames _ _;
  spares = refl;
  way = (zero_of c.args.self.now.tries c.in_default.ensures, refl, refl);
}
