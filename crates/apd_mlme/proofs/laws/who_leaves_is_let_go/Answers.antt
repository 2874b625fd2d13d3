use Rattle.std.proofs.Common.{refl}
use Rattle.apd_base.specs.State.{station_at}
use Rattle.apd_mlme.proofs.DepartureLemmas.{disassociated, deauthenticated}
use Rattle.apd_mlme.proofs.laws.who_leaves_is_let_go.Goals as goal

pub returns-clause-disassociation : goal.returns-clause-disassociation
returns-clause-disassociation c = λ s confs conf b a reason is known. rw is (disassociated s b a (station_at s b a) refl known)

pub returns-clause-deauthentication : goal.returns-clause-deauthentication
returns-clause-deauthentication c = λ s confs conf b a reason is. rw is (deauthenticated s b a (station_at s b a) refl)
