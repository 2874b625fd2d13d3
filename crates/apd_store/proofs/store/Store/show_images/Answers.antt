use Rattle.std.proofs.Common.{◌≤◌, ⊎_elim, subst, sym, arith}
use Rattle.apd_store.proofs.Words.{Phase, calls_from}
use Rattle.apd_store.proofs.Steps.{at_rest_shows, at_rest_shows_after, before_gate, done_shows, idle_shows}
use Rattle.apd_store.proofs.SwitchSteps.{committing_shows, ends, switch_shows}
use Rattle.apd_store.proofs.store.Store.show_images.Goals as goal

pub returns-clause-idle : goal.returns-clause-idle
returns-clause-idle g c = λ state s. idle_shows g.D.Disk.model c.args.self.now state s

pub returns-clause-under_way : goal.returns-clause-under_way
returns-clause-under_way g c = λ state after s. committing_shows g.D.Disk.model c.args.self.now state after s

pub returns-clause-before : goal.returns-clause-before
returns-clause-before g c = λ state after s early i left. ⊎_elim
    (λ switching. switch_shows g.D.Disk.model c.args.self.now state after switching i left)
    (⊎_elim (λ writing. before_gate g.D.Disk.model c.args.self.now state after writing early i left)
    (λ none. at_rest_shows g.D.Disk.model c.args.self.now state after none i left)) s

pub returns-clause-done : goal.returns-clause-done
returns-clause-done g c = λ state after s done.
    let few : calls_from c.args.self.now.phase ≤ 4 = subst (λ (p : Phase). calls_from p ≤ 4) (sym done) (omega arith) in
    ⊎_elim (λ writing. done_shows g.D.Disk.model c.args.self.now state after writing done)
    (λ none. at_rest_shows_after g.D.Disk.model c.args.self.now state after none)
    (ends g.D.Disk.model c.args.self.now state after few s)

pub returns-clause-stuck : goal.returns-clause-stuck
returns-clause-stuck g c = λ state after s. s.shows
