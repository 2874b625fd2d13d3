use Rattle.apd_serve.proofs.started.start.Goals as goal

pub invariant_of-result : goal.invariant_of-result
invariant_of-result g c = record {
  started = ∣ record {
    before = c.args.world;
    started = record {
      answers = c.in-Ok.told.items;
      started = c.in-Ok.ensures.started;
      rests = c.in-Ok.ensures.started.flushed.rests;
    };
  } ∣₁;
}
