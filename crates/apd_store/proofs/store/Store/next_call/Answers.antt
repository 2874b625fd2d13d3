use Rattle.std.proofs.Common.{inl, inr, ⊎_elim}
use Rattle.apd_store.proofs.Words.{MayShow, Shows, calls_from, started, weaker}
use Rattle.apd_store.proofs.Calls.{on_ok_as}
use Rattle.apd_store.proofs.SwitchSteps.{committing_shows, of_group, of_switch, switches, writes}
use Rattle.apd_store.proofs.store.Store.next_call.Goals as goal

pub returns-in-Idle-clause-any_moment : goal.returns-in-Idle-clause-any_moment
returns-in-Idle-clause-any_moment g c = λ state after h s.
    let store = c.args.self.now in
    started g.D.Disk.model store.device (MayShow (calls_from store.phase) state after)
    (λ i left. committing_shows g.D.Disk.model store state after s i (g.met.D.Disk.only_now store.device i h left))

pub returns-in-CloseOther-clause-any_moment : goal.returns-in-CloseOther-clause-any_moment
returns-in-CloseOther-clause-any_moment g c = λ state after h s.
    let store = c.args.self.now in
    let switching = switches g.D.Disk.model store state after (of_switch store.phase c.in-CloseOther.is) s in
    weaker g.D.Disk.model store.device c.next_of_switch.new.self.device (λ i. Shows i state) (MayShow (calls_from store.phase) state after) (λ i shown. inl shown)
    (c.next_of_switch.ensures.any_moment state after h switching)

pub returns-in-CloseOther-clause-on : goal.returns-in-CloseOther-clause-on
returns-in-CloseOther-clause-on g c = λ state after h s.
    let store = c.args.self.now in
    on_ok_as c.next_of_switch.result _ _ (c.next_of_switch.ensures.on state after h (switches g.D.Disk.model store state after (of_switch store.phase c.in-CloseOther.is) s))
    (⊎_elim (λ switching. inl switching) (λ writing. inr (inl writing)))

pub returns-in-WriteGroup-clause-any_moment : goal.returns-in-WriteGroup-clause-any_moment
returns-in-WriteGroup-clause-any_moment g c = λ state after h s.
    let store = c.args.self.now in
    c.next_of_group.ensures.any_moment state after h (writes g.D.Disk.model store state after (of_group store.phase c.in-WriteGroup.is).0 (of_group store.phase c.in-WriteGroup.is).1 s)

pub returns-in-WriteGroup-clause-on : goal.returns-in-WriteGroup-clause-on
returns-in-WriteGroup-clause-on g c = λ state after h s.
    let store = c.args.self.now in
    on_ok_as c.next_of_group.result _ _ (c.next_of_group.ensures.on state after h (writes g.D.Disk.model store state after (of_group store.phase c.in-WriteGroup.is).0 (of_group store.phase c.in-WriteGroup.is).1 s)) (λ writing. inr (inl writing))

pub returns-in-WriteGroup-clause-stuck : goal.returns-in-WriteGroup-clause-stuck
returns-in-WriteGroup-clause-stuck g c = λ state after h s.
    let store = c.args.self.now in
    c.next_of_group.ensures.stuck state after h (writes g.D.Disk.model store state after (of_group store.phase c.in-WriteGroup.is).0 (of_group store.phase c.in-WriteGroup.is).1 s)

pub returns-in-WriteGroup-clause-stuck_early : goal.returns-in-WriteGroup-clause-stuck_early
returns-in-WriteGroup-clause-stuck_early g c = λ state after h s early.
    let store = c.args.self.now in
    c.next_of_group.ensures.stuck_early state after h (writes g.D.Disk.model store state after (of_group store.phase c.in-WriteGroup.is).0 (of_group store.phase c.in-WriteGroup.is).1 s) early
