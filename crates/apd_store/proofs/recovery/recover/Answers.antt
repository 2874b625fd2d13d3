use Rattle.std.proofs.Common.{◌≡◌, List, ℕ, ◌∙◌, ap, subst, arith, rules}
use Rattle.std.proofs.lemmas.Grind.{common_steps}
use Rattle.std.specs.Prelude.{Err}
use Rattle.apd_store.proofs.Words.{IsFound, IsMarked, Shows, ShowsNone}
use Rattle.apd_store.proofs.Current.{found_shows}
use Rattle.apd_store.proofs.recovery.recover.Goals as goal

pub returns-in-Ok-read_image-clause-found : goal.returns-in-Ok-read_image-clause-found
returns-in-Ok-read_image-clause-found g c =
    let found = c.in-Ok-read_image.found in
    let f : IsFound c.deref.result.now found.half found.epoch found.gate found.other_open found.table = c.in-Ok-read_image.ensures.ok in
    record {
      length = search rules;
      inside = record { gate = grind (arith, common_steps); group = search rules; half = search rules; device = search rules };
      ready = search rules;
      count = search rules;
      was_honest = search rules;
      shown = λ there.
          let is : c.deref.result.now ≡ g.D.Disk.model.reads c.args.device = c.deref.ensures.value ∙ c.in-Ok.ensures.bytes (subst g.D.Disk.model.honest c.new.ensures.device there) in
          subst (λ (l : List ℕ). Shows l found.table) is (found_shows c.deref.result.now found.half found.epoch found.gate found.other_open found.table f);
      idle = search rules;
      stays = search rules;
      any_moment = search rules;
      calls = search rules;
    }

pub returns-clause-none : goal.returns-clause-none
returns-clause-none g c = record {
  few = search rules;
  other_length = search rules;
  device_failed = search rules;
  no_fault = search rules;
  count = search rules;
  was_honest = search rules;
  not_a_store = search rules;
  old_version = search rules;
  damaged = λ read e.
      let is : c.deref.result.now ≡ g.D.Disk.model.reads c.args.device = c.deref.ensures.value ∙ c.in-Ok.ensures.bytes read in
      subst (λ (l : List ℕ). IsMarked l × ShowsNone l) is (c.read_image.ensures.damaged (c.in-Err-read_image.is ∙ ap Err e));
  durable = search rules;
  stays = search rules;
  still = search rules;
  any_moment = search rules;
  calls = search rules;
}
