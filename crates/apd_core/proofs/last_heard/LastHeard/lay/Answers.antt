use Rattle.std.proofs.Common.{◌≡◌, true, false, not, ◌||◌, ◌⊎◌, None, is_some, sym, ap, subst, ◌∙◌}
use Rattle.std.specs.FinMap as map
use Rattle.apd_core.proofs.Words.{Addr, Bssid, is_put_of}
use Rattle.apd_core.proofs.Laying.{laid_put, put_there, was_there}
use Rattle.apd_core.proofs.last_heard.LastHeard.lay.Goals as goal

pub returns-in_ok-put-clause-kept : goal.returns-in_ok-put-clause-kept
returns-in_ok-put-clause-kept c k =
    let key : Bssid × Addr = (c.in-Put.bssid, c.in-Put.addr) in
    let old = c.args.self.now in
    subst (λ change. (map.get c.put.new.self k ≡ map.get old k) ⊎ (((is_put_of k change || false) ≡ true) × (map.get old k ≡ None))) (sym c.in-Put.is)
    (laid_put k key old c.put.new.self c.args.moment c.in_ok-put.ensures.ok (ap is_some (sym c.get.ensures) ∙ c.is_none.ensures ∙ ap not c.if-is_none.true))

pub returns-in_ok-put-clause-there : goal.returns-in_ok-put-clause-there
returns-in_ok-put-clause-there c k put =
    let key : Bssid × Addr = (c.in-Put.bssid, c.in-Put.addr) in
    put_there k key c.args.self.now c.put.new.self c.args.moment c.in_ok-put.ensures.ok (sym (ap (is_put_of k) c.in-Put.is) ∙ put)

pub returns-else-is_none-clause-there : goal.returns-else-is_none-clause-there
returns-else-is_none-clause-there c k put =
    let key : Bssid × Addr = (c.in-Put.bssid, c.in-Put.addr) in
    was_there k key c.args.self.now (ap is_some (sym c.get.ensures) ∙ c.is_none.ensures ∙ ap not c.if-is_none.false) (sym (ap (is_put_of k) c.in-Put.is) ∙ put)
