use Rattle.apd_mlme.proofs.AuthenticationLemmas.{room_kept}
use Rattle.apd_mlme.proofs.laws.as_many_authenticate_as_the_policy_says.Goals as goal

pub returns : goal.returns
returns c = λ s confs conf b policy request is at. rw is (room_kept s conf b request policy at)
