use Rattle.std.proofs.Common.{◌≡◌, ◌≤◌, ⊎_elim, subst, sym, refl, rules, arith}
use Rattle.apd_store.proofs.Words.{Done, Idle, Phase, Store, calls_from}
use Rattle.apd_store.proofs.Steps.{rests, settles}
use Rattle.apd_store.proofs.SwitchSteps.{ends}
use Rattle.apd_store.proofs.store.Store.finish.Goals as goal

pub returns-clause-settled : goal.returns-clause-settled
returns-clause-settled g c = λ state after s.
    let done : c.args.self.now.phase ≡ Done = search rules in
    let few : calls_from c.args.self.now.phase ≤ 4 = subst (λ (p : Phase). calls_from p ≤ 4) (sym done) (omega arith) in
    let now : Store g.row.D.Denot = record {
      alloc = c.args.self.now.alloc;
      device = c.args.self.now.device;
      half = c.args.self.now.half;
      epoch = c.args.self.now.epoch;
      gate = c.last_place-self.result;
      other_open = c.args.self.now.other_open;
      phase = Idle;
      batch = c.replace-batch.new.dest;
      plan = c.no_plan.result;
      fresh = c.args.self.now.fresh;
    } in
    ⊎_elim
    (λ writing. settles g.D.Disk.model c.args.self.now state after writing now done refl refl refl refl c.last_place-self.ensures.last refl)
    (λ none. rests g.D.Disk.model c.args.self.now state after none now refl refl refl refl c.last_place-self.ensures.last refl)
    (ends g.D.Disk.model c.args.self.now state after few s)
