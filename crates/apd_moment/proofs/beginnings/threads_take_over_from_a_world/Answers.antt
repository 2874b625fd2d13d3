use Rattle.std.proofs.Common.{◌≡◌, [], ◌++◌, List, refl, sym, ap, ◌∙◌}
use Rattle.apd_base.specs.declared.address.Bssid.{Bssid}
use Rattle.apd_core.specs.Core.{ready_for}
use Rattle.apd_mlme.specs.declared.decision.Out.{Out}
use Rattle.apd_mlme.specs.declared.decision.Recipient.{Recipient}
use Rattle.apd_mlme.specs.declared.decision.Recipient.TheVariants.{Control, Radio}
use Rattle.apd_world.specs.StandsFor.{waiting_outs}
use Rattle.apd_world.specs.WorldParts.{durable_of, queue_of}
use Rattle.apd_world.specs.declared.world.World.{World}
use Rattle.apd_moment.proofs.beginnings.threads_take_over_from_a_world.Goals as goal

none_waits : {D R : Type 0} (w : World D R) → ((b : Bssid) → queue_of w b ≡ []) → (r : Recipient) → waiting_outs r w ≡ []
none_waits w empty (Radio b) = empty b
none_waits w empty Control = refl

pub returns-clause-history : goal.returns-clause-history
returns-clause-history g c = λ w h stands empty. record {
  history = stands.history;
  confs = stands.confs;
  number = stands.number;
  settled = stands.settled;
  unsettled = stands.unsettled;
  held = stands.held;
  heard_so = stands.heard_so;
  waiting = λ r. stands.waiting r ∙ ap (λ (outs : List Out). outs ++ ready_for r (durable_of w).core) (none_waits w empty r);
}

pub returns-clause-durable : goal.returns-clause-durable
returns-clause-durable g c = λ w committer rests flusher batch receipt.
    let old = (durable_of w).committer in
    let none = sym rests.batch.0 in
    let given = sym rests.receipt.0 in
    λ i. record {
      core = (durable_of w).core;
      committer = record { flusher = flusher i; batch = (batch ∙ none) i; receipt = (receipt ∙ given) i };
    }
