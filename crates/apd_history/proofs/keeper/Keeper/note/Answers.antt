use Rattle.std.proofs.Common.{◌∙◌, ap, ◌∷◌, [], ◌++◌}
use Rattle.apd_history.specs.Chain.{Call, IsOneMore}
use Rattle.apd_history.proofs.Noting.{at_after}
use Rattle.apd_history.proofs.keeper.Keeper.note.Goals as goal

pub returns-clause-at : goal.returns-clause-at
returns-clause-at g c =
    let a = c.args in
    let m : IsOneMore a.kind a.before.value a.core.now a.self.now c.front.new.self =
    c.front.ensures.same ∙ (c.append.ensures ∙ ap (λ (x : Call). a.self.now ++ x ∷ []) c.of-entry.ensures) in
    at_after a.kind a.before.value a.core.now a.self.now c.front.new.self m c.args.first.now
