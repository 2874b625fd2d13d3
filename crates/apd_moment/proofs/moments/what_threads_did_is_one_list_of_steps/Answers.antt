use Rattle.apd_moment.proofs.MomentLemmas.{is_moment}
use Rattle.apd_moment.proofs.moments.what_threads_did_is_one_list_of_steps.Goals as goal

pub returns : goal.returns
returns g c = λ begun h proper stands all front seen.
    is_moment g.D.Disk.model begun h proper stands all front c.args.committer.now seen c.show_images.ensures.now c.show_images.ensures.any_moment
