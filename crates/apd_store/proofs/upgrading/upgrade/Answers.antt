use Rattle.std.proofs.Common.{◌≡◌, List, ℕ, false, inl, inr, refl, rules, sym, ◌∙◌, ap, subst}
use Rattle.std.specs.Prelude.{Err}
use Rattle.apd_store.proofs.Words.{A, HasNoneGiven, Shows}
use Rattle.apd_store.proofs.Current.{found_shows}
use Rattle.apd_store.proofs.upgrading.upgrade.Goals as goal

pub returns-in-Ok-lay_out_copy-clause-made : goal.returns-in-Ok-lay_out_copy-clause-made
returns-in-Ok-lay_out_copy-clause-made g c =
    let table = c.in-Ok.table in
    let none : HasNoneGiven table = c.in-Ok.ensures.none_given in
    let device = c.lay_out_copy.new.device in
    record {
      old_length = search rules;
      length = search rules;
      inside = search rules;
      ready = search rules;
      old_count = search rules;
      count = search rules;
      old_was_honest = search rules;
      was_honest = search rules;
      made = record { state = table; shown = λ read. c.in-Ok.ensures.ok read; any_moment = search rules; calls = search rules };
      none_given = none;
      idle = search rules;
      shown = λ there i left.
          let found = c.in-Ok-lay_out_copy.ensures.found (subst g.N.Disk.model.honest c.new.ensures.device there) none in
          let is : i ≡ g.N.Disk.model.reads device = found.1 i (subst (λ d. g.N.Disk.model.may_leave d i) c.new.ensures.device left) in
          subst (λ (l : List ℕ). Shows l table) (sym is) (found_shows (g.N.Disk.model.reads device) A 1 c.in-Ok-lay_out_copy.gate false table found.0);
      old_stays = search rules;
      old_durable = search rules;
    }

pub returns-in-Err-clause-none : goal.returns-in-Err-clause-none
returns-in-Err-clause-none g c = record {
  few = search rules;
  other_length = search rules;
  device_failed = search rules;
  no_fault = search rules;
  untouched = search rules;
  new_length = search rules;
  old_count = search rules;
  count = search rules;
  old_was_honest = search rules;
  was_honest = search rules;
  not_a_store = search rules;
  new_version = search rules;
  damaged = λ read e. c.read_old.ensures.damaged read (c.in-Err.is ∙ ap Err e);
  stays = search rules;
  old_durable = search rules;
  made = inl refl;
}

pub returns-clause-none : goal.returns-clause-none
returns-clause-none g c =
    let table = c.in-Ok.table in
    let none : HasNoneGiven table = c.in-Ok.ensures.none_given in
    record {
      few = search rules;
      other_length = search rules;
      device_failed = search rules;
      no_fault = search rules;
      untouched = search rules;
      new_length = search rules;
      old_count = search rules;
      count = search rules;
      old_was_honest = search rules;
      was_honest = search rules;
      not_a_store = λ read e. inr (c.lay_out_copy.ensures.not_a_store (c.in-Err-lay_out_copy.is ∙ ap Err e), (table, c.in-Ok.ensures.ok read));
      new_version = search rules;
      damaged = search rules;
      stays = search rules;
      old_durable = λ read. inl (search rules);
      made = inr (record { state = table; shown = λ read. c.in-Ok.ensures.ok read; any_moment = search rules; calls = search rules });
    }
