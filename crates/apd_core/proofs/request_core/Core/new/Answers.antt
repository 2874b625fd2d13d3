use Rattle.std.proofs.Common.{refl, ap, subst, ◌∙◌}
use Rattle.apd_core.proofs.Words.{AreConfs, no_outs}
use Rattle.apd_core.proofs.Hearing.{heard_at}
use Rattle.apd_core.proofs.Kept.{new_kept}
use Rattle.apd_core.proofs.request_core.Core.new.Goals as goal

pub invariant_of-result : goal.invariant_of-result
invariant_of-result c =
    new_kept _ c.args.table c.args.confs refl (ap (λ s. s.table) c.in-Ok-new.ensures.ok) refl c.new-2.ensures.items refl (c.in-Ok.ensures.held ∙ ap no_outs c.list.ensures.list) refl c.in-Ok.ensures.front refl c.new-3.ensures
    (subst AreConfs c.list.ensures.list c.list.ensures.confs) c.sound.ensures (heard_at c.args.moment c.args.table c.in-Ok.parts.1 c.in-Ok.ensures.heard)
