use Rattle.std.proofs.Common.{[], refl}
use Rattle.apd_world.proofs.CoreHistories.{begins_blank}
use Rattle.apd_moment.proofs.beginnings.threads_begin_with_no_call.Goals as goal

pub returns-clause-history : goal.returns-clause-history
returns-clause-history g c = λ begun unused sound. begins_blank begun.core begun.core.confs begun.core.settled unused sound (λ r. []) (λ r. refl)

pub returns-clause-seen : goal.returns-clause-seen
returns-clause-seen g c = λ begun. record {
  calls = tt;
  front_is = ([], refl);
  alone = refl;
  run = record { steps = []; are = (refl, refl); fails = tt };
}
