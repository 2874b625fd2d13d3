use Rattle.std.proofs.Common.{[], ◌∷◌, ◌++◌, ap, ◌∙◌}
use Rattle.apd_mlme.proofs.CommandLemmas.{edit_made}
use Rattle.apd_mlme.proofs.list_edit.unanswered_edit.Goals as goal

pub returns-clause-changes : goal.returns-clause-changes
returns-clause-changes c =
    let change = c.change_of-change.result in
    c.in_ok-push.ensures.ok ∙ ap (λ changes. changes ++ change ∷ []) c.in_ok-decision.ensures.changes
    ∙ (edit_made c.args.table.now c.args.bssid c.args.which c.args.edit c.requires change c.change_of-change.ensures c.as_slice.result.now (c.as_slice.ensures.value ∙ c.in_ok-denied.ensures)).0

pub returns-clause-outs : goal.returns-clause-outs
returns-clause-outs c =
    c.in_ok-decision.ensures.outs
    ∙ (edit_made c.args.table.now c.args.bssid c.args.which c.args.edit c.requires c.change_of-change.result c.change_of-change.ensures c.as_slice.result.now (c.as_slice.ensures.value ∙ c.in_ok-denied.ensures)).1
