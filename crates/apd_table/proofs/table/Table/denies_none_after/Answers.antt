use Rattle.std.proofs.Common.{sym, ap, ◌∙◌}
use Rattle.std.specs.FinMap as map
use Rattle.apd_table.proofs.Words.{Policy, is_denied_after, list_any, state_of}
use Rattle.apd_table.proofs.OneDenied.{any_denied, kept_policy, none_denied_iff}
use Rattle.apd_table.proofs.table.Table.denies_none_after.Goals as goal

pub returns-in-Some-listed_address : goal.returns-in-Some-listed_address
returns-in-Some-listed_address c =
    let s = state_of c.self.inside in
    let b = c.args.bssid in
    let bss = c.in-Some.bss.now in
    let change = c.args.change.now in
    let one = c.in-Some-listed_address in
    rw (← c.self.view_is) (none_denied_iff s b bss.policy c.in-Some.ensures.policy bss.lists c.in-Some.ensures.lists change c.is_denied_after.result
    ((rw (← c.self.view_is) at c.is_denied_after.ensures) ∙ any_denied s b c.self.invariant.sound bss.policy c.in-Some.ensures.policy bss.lists c.in-Some.ensures.lists change one.addr one.ensures
    ∙ ap (λ (p : Policy). list_any (is_denied_after bss.lists p.mode b change) (map.entries s.stations)) (sym (kept_policy bss.policy b change one.addr one.ensures))))

pub returns-in-None : goal.returns-in-None
returns-in-None c =
    let s = state_of c.self.inside in
    let bss = c.in-Some.bss.now in
    let change = c.args.change.now in
    rw (← c.self.view_is) (none_denied_iff s c.args.bssid bss.policy c.in-Some.ensures.policy bss.lists c.in-Some.ensures.lists change c.denies_any_after.result
    (c.denies_any_after.ensures ∙ ap (λ (p : Policy). list_any (is_denied_after bss.lists p.mode c.args.bssid change) (map.entries s.stations)) c.policy_after-policy.ensures))
