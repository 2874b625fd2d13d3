use Rattle.std.proofs.Common.{inl, inr, refl, arith}
use Rattle.apd_store.specs.declared.phase.Phase.TheVariants.{Done}
use Rattle.apd_store.proofs.Steps.{none_begins}
use Rattle.apd_store.proofs.store.Store.begin_none.Goals as goal

pub returns-clause-begun : goal.returns-clause-begun
returns-clause-begun g c = λ state.
    let store = c.args.self.now in
    record {
      was_idle = c.requires.idle;
      batch_is = refl;
      committing = λ idle group sound. inr (inr (none_begins g.D.Disk.model store
          (record store { phase = Done; batch = c.args.batch; plan = record { place = c.saturating_add.result; bytes = c.new.result } }) state idle c.requires.none
          refl refl refl refl refl refl (λ inside. omega (arith, c.saturating_add.ensures, inside)) c.new.ensures));
      no_calls = λ empty. refl;
      some_calls = λ some. absurd (some c.requires.none);
      four_calls = λ some. absurd (some c.requires.none);
      eight_calls = λ none. absurd (none (inl c.requires.none));
      ten_calls = λ none. absurd (none (inl c.requires.none));
      anew = λ none. absurd (none (inl c.requires.none));
      lasts = λ none. absurd (none (inl c.requires.none));
    }
