use Rattle.std.proofs.Common.{◌≡◌, IfOk, List, ap, subst, ◌∙◌}
use Rattle.apd_table.proofs.Words.{Addr, State, Which, contains, denials_under, has, policy_at, with_lists_after}
use Rattle.apd_table.proofs.AllRows.{denials_after-is}
use Rattle.apd_table.proofs.table.Table.denials_after.Goals as goal

pub returns-in-Some : goal.returns-in-Some
returns-in-Some c =
    let s = c.args.self.now in
    let b = c.args.bssid in
    let change = c.args.change.now in
    let mode = c.in-Some.bss.now.policy.mode in
    let lists = c.in-Some.bss.now.lists in
    let same : (w : Which) (a : Addr) → has lists w a ≡ contains s.lists (b, w, a) =
    subst (λ (x : State). (w : Which) (a : Addr) → has lists w a ≡ contains x.lists (b, w, a)) c.self.view_is c.in-Some.ensures.lists in
    subst (λ (items : List Addr). IfOk c.denials_at.result (λ v. v.items ≡ items))
    (denials_after-is s b lists same mode change ∙ ap (denials_under (with_lists_after change s) b) (c.in-Some.ensures.policy ∙ ap (λ (x : State). policy_at x b) c.self.view_is)) c.denials_at.ensures
