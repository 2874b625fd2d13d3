use Rattle.std.proofs.Common.{◌≡◌, List, ℕ, ◌∙◌, subst}
use Rattle.apd_store.specs.Image.{IsMarkedOld, ShowsNoneOld}
use Rattle.apd_store.proofs.Copied.{old_none_given_if}
use Rattle.apd_store.proofs.upgrading.read_old.Goals as goal

pub returns-clause-none_given : goal.returns-clause-none_given
returns-clause-none_given g c = old_none_given_if c.deref.result.now c.read_old_image.result c.read_old_image.ensures.ok

pub returns-clause-damaged : goal.returns-clause-damaged
returns-clause-damaged g c = λ h e.
    let is : c.deref.result.now ≡ g.D.Disk.model.reads c.args.device.now = c.deref.ensures.value ∙ c.in_ok-bytes.ensures.bytes h in
    subst (λ (l : List ℕ). IsMarkedOld l × ShowsNoneOld l) is (c.read_old_image.ensures.damaged e)
