use Rattle.std.proofs.Common.{◌≡◌, IfOk, List, [], ◌∷◌, cond, ap, subst, ◌∙◌}
use Rattle.apd_base.specs.declared.address.Addr.{Addr}
use Rattle.apd_table.proofs.OneDenied.{one_denied}
use Rattle.apd_table.proofs.table.Table.denials_at.Goals as goal

pub returns-in-Some : goal.returns-in-Some
returns-in-Some c =
    let bss = c.args.bss.now in
    let addr = c.in-Some.addr in
    subst (λ (items : List Addr). IfOk c.alone.result (λ v. v.items ≡ items))
    (ap (λ t. cond t (addr ∷ []) []) c.is_denied_after-is_denied.ensures
    ∙ one_denied c.args.self.now c.args.bssid c.sound.ensures bss.policy c.requires.policy bss.lists c.requires.lists c.args.change.now addr c.in-Some.ensures)
    c.alone.ensures

pub returns-in-None : goal.returns-in-None
returns-in-None c = rw (← c.self.view_is) c.denials_after.ensures
