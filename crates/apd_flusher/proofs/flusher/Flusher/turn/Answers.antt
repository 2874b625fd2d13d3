use Rattle.apd_flusher.proofs.Turns.{turn_run}
use Rattle.apd_flusher.proofs.flusher.Flusher.turn.Goals as goal

pub returns-in-Err-clause-between : goal.returns-in-Err-clause-between
returns-in-Err-clause-between g c = λ state after.
    let old = c.args.self.now in
    record {
      any_moment = λ h stands. turn_run g.D.Disk.model old state after c.next_call.new.self stands
          (λ i left. c.show_images.ensures.shown state after stands i (g.met.D.Disk.only_now old.store.device i h left)) c.next_call.ensures.rest (c.next_call.ensures.any_moment state after h);
      on = λ h s. tt;
      stuck = λ h s. c.in-Err.ensures.stuck state after h s.committing;
      stuck_early = λ h s early. c.in-Err.ensures.stuck_early state after h s.committing early;
    }

pub returns-in-Ok-clause-between : goal.returns-in-Ok-clause-between
returns-in-Ok-clause-between g c = λ state after.
    let old = c.args.self.now in
    record {
      any_moment = λ h stands. turn_run g.D.Disk.model old state after c.next_call.new.self stands
          (λ i left. c.show_images.ensures.shown state after stands i (g.met.D.Disk.only_now old.store.device i h left)) c.next_call.ensures.rest (c.next_call.ensures.any_moment state after h);
      on = λ h s. record { committing = c.in-Ok.ensures.on state after h s.committing; table = s.table; next = s.next };
      stuck = λ h s. tt;
      stuck_early = λ h s early. tt;
    }
