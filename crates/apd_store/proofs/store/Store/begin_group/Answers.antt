use Rattle.std.proofs.Common.{inl, inr, refl, arith}
use Rattle.apd_store.specs.declared.phase.Phase.TheVariants.{WriteGroup}
use Rattle.apd_store.proofs.SwitchSteps.{group_begins}
use Rattle.apd_store.proofs.store.Store.begin_group.Goals as goal

pub returns-clause-begun : goal.returns-clause-begun
returns-clause-begun g c = λ state.
    let store = c.args.self.now in
    record {
      was_idle = c.requires.idle;
      batch_is = refl;
      committing = λ idle group sound. inr (inl (group_begins g.D.Disk.model store (record store { phase = WriteGroup; batch = c.args.batch; plan = c.in-Ok.plan }) state idle group sound refl refl refl refl refl refl
          c.requires.room (omega (arith, c.in-Ok.ensures.place, c.requires.room)) c.in-Ok.ensures.bytes));
      no_calls = λ empty. absurd (c.requires.some empty);
      some_calls = λ some. (omega arith, omega arith);
      four_calls = λ some room. refl;
      eight_calls = λ none side. absurd (none (inr c.requires.room));
      ten_calls = λ none side. absurd (none (inr c.requires.room));
      anew = λ none. absurd (none (inr c.requires.room));
      lasts = λ none. absurd (none (inr c.requires.room));
    }
