use Rattle.apd_mlme.proofs.FrameLemmas.{verdict_due}
use Rattle.apd_mlme.proofs.laws.no_other_frame_leaves.Goals as goal

pub returns : goal.returns
returns c = λ s confs h b sound there. verdict_due s confs sound b there h
