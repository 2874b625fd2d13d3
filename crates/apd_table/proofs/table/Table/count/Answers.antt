use Rattle.std.proofs.Common.{sym, ap, ◌∙◌}
use Rattle.apd_table.proofs.Words.{State, count, state_of}
use Rattle.apd_table.proofs.MembersLemmas.{count_none, without_policy}
use Rattle.apd_table.proofs.table.Table.count.Goals as goal

pub returns-in-Some : goal.returns-in-Some
returns-in-Some c =
    (c.self.invariant.members c.args.bssid c.in-Some.bss.now.members (sym c.in-Some.ensures.members)).count ∙ ap (λ (s : State). count s c.args.bssid) c.self.view_is

pub returns-in-None : goal.returns-in-None
returns-in-None c =
    let s = state_of c.self.inside in
    sym (count_none s c.args.bssid (without_policy s c.args.bssid c.self.invariant.sound (sym c.in-None.ensures.policy))) ∙ ap (λ (x : State). count x c.args.bssid) c.self.view_is
