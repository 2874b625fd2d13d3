use Rattle.std.proofs.Common.{◌≡◌, List, ℕ, false, rules, sym, subst}
use Rattle.apd_store.proofs.Words.{A, Shows, empty_state}
use Rattle.apd_store.proofs.Current.{found_shows}
use Rattle.apd_store.proofs.formatting.format.Goals as goal

pub returns-clause-made : goal.returns-clause-made
returns-clause-made g c =
    let device = c.lay_out_empty.new.device in
    record {
      length = search rules;
      inside = search rules;
      ready = search rules;
      count = search rules;
      was_honest = search rules;
      empty = search rules;
      shown = λ there i left.
          let found = c.in-Ok.ensures.found (subst g.D.Disk.model.honest c.new.ensures.device there) in
          let is : i ≡ g.D.Disk.model.reads device = found.1 i (subst (λ d. g.D.Disk.model.may_leave d i) c.new.ensures.device left) in
          subst (λ (l : List ℕ). Shows l empty_state) (sym is) (found_shows (g.D.Disk.model.reads device) A 1 13 false empty_state found.0);
      any_moment = search rules;
      calls = search rules;
    }
