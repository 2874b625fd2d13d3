use Rattle.apd_moment.proofs.Threads.{all_seen}
use Rattle.apd_moment.proofs.moments.what_a_thread_has_seen_is_a_history.Goals as goal

pub returns : goal.returns
returns c = λ first h stands seen_by are. all_seen seen_by first h stands are
