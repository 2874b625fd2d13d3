use Rattle.std.proofs.Common.{◌≡◌, ◌≤◌, ◌<◌, ◌+◌, ◌-◌, ◌^◌, ℕ, Bool, false, true, length, min, inl, refl, sym, ap, subst, ◌∙◌, arith, rules}
use Rattle.apd_store.proofs.Words.{CloseOther, Phase, WriteHalf, begun_bytes, calls_from, canonical, length-begun, records_of}
use Rattle.apd_store.proofs.SwitchSteps.{switch_begins}
use Rattle.apd_store.proofs.store.Store.begin_switch.Goals as goal

-- a switch makes eight calls, or ten
switch_calls : (other_open : Bool) (phase : Phase) → (other_open ≡ false → phase ≡ WriteHalf) → (other_open ≡ true → phase ≡ CloseOther) → (4 ≤ calls_from phase) × (calls_from phase ≤ 10)
switch_calls false phase eight ten = subst (λ (p : Phase). (4 ≤ calls_from p) × (calls_from p ≤ 10)) (sym (eight refl)) (omega arith, omega arith)
switch_calls true phase eight ten = subst (λ (p : Phase). (4 ≤ calls_from p) × (calls_from p ≤ 10)) (sym (ten refl)) (omega arith, omega arith)

pub returns-clause-begun : goal.returns-clause-begun
returns-clause-begun g c =
    let store = c.args.self.now in
    let first = c.first_of_a_switch-self.ensures in
    let fits : store.epoch + 1 < 2 ^ 64 = search rules in
    let next : min (store.epoch + 1) (2 ^ 64 - 1) ≡ store.epoch + 1 = omega (arith, fits) in
    let size : length c.in-Ok.fresh.bytes ≡ length (records_of (canonical c.args.table.now)) + 13 = ap length c.in-Ok.ensures.bytes ∙ length-begun (min (store.epoch + 1) (2 ^ 64 - 1)) (canonical c.args.table.now) in
    record {
      was_idle = c.requires.idle;
      batch_is = refl;
      committing = λ idle group sound. inl (switch_begins g.D.Disk.model store c.args.batch c.in-Ok-plan.plan c.in-Ok.fresh c.first_of_a_switch-self.result c.args.table.now idle group sound
          fits (search rules) c.in-Ok.ensures.place (c.in-Ok.ensures.bytes ∙ ap (λ (n : ℕ). begun_bytes n (canonical c.args.table.now)) next) (omega (arith, c.in-Ok-plan.ensures.place, c.len-gate.ensures)) c.in-Ok-plan.ensures.bytes
          first.closed first.open);
      no_calls = λ empty. absurd (c.requires.room (inl empty));
      some_calls = λ some. switch_calls store.other_open c.first_of_a_switch-self.result first.closed first.open;
      four_calls = λ some room. absurd (c.requires.room room);
      eight_calls = λ none closed. ap calls_from (first.closed closed);
      ten_calls = λ none gate. ap calls_from (first.open gate);
      anew = λ none. search rules;
      lasts = λ none. fits;
    }
