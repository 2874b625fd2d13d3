use Rattle.std.proofs.Common.{◌≡◌, ◌+◌, refl, sym, ◌∙◌}
use Rattle.apd_store.proofs.Words.{Done, IsWriting, MayShow, Only, OpenGate, Phase, SyncGate, SyncGroup, calls_from, one_call, start_of}
use Rattle.apd_store.proofs.Steps.{at_phase, write_images, write_reads, gate_images, gate_reads, during_write, during_gate, now_shows, moves}
use Rattle.apd_store.proofs.Calls.{move_on_made, move_on_stuck, synced, write_run, leaves_stuck, leaves_stuck_early}
use Rattle.apd_store.proofs.store.Store.next_of_group.Goals as goal

pub returns-in-WriteGroup-clause-any_moment : goal.returns-in-WriteGroup-clause-any_moment
returns-in-WriteGroup-clause-any_moment g c = λ state after h s.
    let store = c.args.self.now in
    let device = c.write_in_half-made.new.device in
    write_run g.D.Disk.model c.write_in_half-made.result store.device device (MayShow (calls_from store.phase) state after) c.write_in_half-made.ensures.only c.write_in_half-made.ensures.outside c.write_in_half-made.ensures.goes_on (c.write_in_half-made.ensures.time h)
    (λ made. during_write g.D.Disk.model store state after s (start_of store.half + store.plan.place) c.as_slice-bytes.result.now refl c.as_slice-bytes.ensures
    c.in-WriteGroup.is (g.D.Disk.model.left_since device (g.D.Disk.model.moment store.device)) (c.write_in_half-made.ensures.stop h made))
    (λ i left. now_shows g.D.Disk.model store state after s i (g.met.D.Disk.only_now store.device i h left))

pub returns-in-WriteGroup-clause-on : goal.returns-in-WriteGroup-clause-on
returns-in-WriteGroup-clause-on g c = λ state after h s.
    let store = c.args.self.now in
    let device = c.write_in_half-made.new.device in
    let at = start_of store.half + store.plan.place in
    let P = λ (phase : Phase). IsWriting g.D.Disk.model (record store { device = device; phase = phase }) state after in
    let during = g.D.Disk.model.left_since device (g.D.Disk.model.moment store.device) in
    move_on_made c.write_in_half-made.result SyncGroup c.move_on.new.phase c.move_on.result _ P c.move_on.ensures (c.write_in_half-made.ensures.written h)
    (λ made written. moves g.D.Disk.model store state after s device SyncGroup (
      write_reads g.D.Disk.model store state after s at c.as_slice-bytes.result.now refl c.as_slice-bytes.ensures c.in-WriteGroup.is (g.D.Disk.model.reads device) written,
      λ i left. write_images g.D.Disk.model store state after s at c.as_slice-bytes.result.now refl c.as_slice-bytes.ensures c.in-WriteGroup.is during (c.write_in_half-made.ensures.stop h made) i
          (g.met.D.Disk.counts_now device (g.D.Disk.model.moment store.device) i (c.write_in_half-made.ensures.honest.0 h) ((c.write_in_half-made.ensures.time h made).later) left),
    ))

pub returns-in-WriteGroup-clause-stuck : goal.returns-in-WriteGroup-clause-stuck
returns-in-WriteGroup-clause-stuck g c = λ state after h s.
    let store = c.args.self.now in
    let now = record store { device = c.write_in_half-made.new.device; phase = c.move_on.new.phase } in
    move_on_stuck c.write_in_half-made.result SyncGroup c.move_on.new.phase c.move_on.result _ c.move_on.ensures
    (leaves_stuck g.D.Disk.model store.device now (calls_from store.phase) state after
    (λ t i le left. g.met.D.Disk.counts_now c.write_in_half-made.new.device t i (c.write_in_half-made.ensures.honest.0 h) le left) (returns-in-WriteGroup-clause-any_moment g c state after h s))

pub returns-in-WriteGroup-clause-stuck_early : goal.returns-in-WriteGroup-clause-stuck_early
returns-in-WriteGroup-clause-stuck_early g c = λ state after h s early.
    let store = c.args.self.now in
    let now = record store { device = c.write_in_half-made.new.device; phase = c.move_on.new.phase } in
    move_on_stuck c.write_in_half-made.result SyncGroup c.move_on.new.phase c.move_on.result _ c.move_on.ensures
    (leaves_stuck_early g.D.Disk.model store.device now (calls_from store.phase) state after
    (λ t i le left. g.met.D.Disk.counts_now c.write_in_half-made.new.device t i (c.write_in_half-made.ensures.honest.0 h) le left) (returns-in-WriteGroup-clause-any_moment g c state after h s) early)

pub returns-in-SyncGroup-clause-any_moment : goal.returns-in-SyncGroup-clause-any_moment
returns-in-SyncGroup-clause-any_moment g c = λ state after h s.
    let store = c.args.self.now in
    one_call g.D.Disk.model store.device c.sync.new.self (MayShow (calls_from store.phase) state after) c.sync.ensures.call.goes_on (c.sync.ensures.call.time h)
    (λ i during. now_shows g.D.Disk.model store state after s i (c.sync.ensures.call.stop h i during))

pub returns-in-SyncGroup-clause-stuck : goal.returns-in-SyncGroup-clause-stuck
returns-in-SyncGroup-clause-stuck g c = λ state after h s.
    let store = c.args.self.now in
    let now = record store { device = c.sync.new.self; phase = c.move_on-in-SyncGroup.new.phase } in
    move_on_stuck c.map_err-made.result OpenGate c.move_on-in-SyncGroup.new.phase c.move_on-in-SyncGroup.result _ c.move_on-in-SyncGroup.ensures
    (leaves_stuck g.D.Disk.model store.device now (calls_from store.phase) state after
    (λ t i le left. g.met.D.Disk.counts_now c.sync.new.self t i (c.sync.ensures.call.stays_honest.0 h) le left) (returns-in-SyncGroup-clause-any_moment g c state after h s))

pub returns-in-SyncGroup-clause-stuck_early : goal.returns-in-SyncGroup-clause-stuck_early
returns-in-SyncGroup-clause-stuck_early g c = λ state after h s early.
    let store = c.args.self.now in
    let now = record store { device = c.sync.new.self; phase = c.move_on-in-SyncGroup.new.phase } in
    move_on_stuck c.map_err-made.result OpenGate c.move_on-in-SyncGroup.new.phase c.move_on-in-SyncGroup.result _ c.move_on-in-SyncGroup.ensures
    (leaves_stuck_early g.D.Disk.model store.device now (calls_from store.phase) state after
    (λ t i le left. g.met.D.Disk.counts_now c.sync.new.self t i (c.sync.ensures.call.stays_honest.0 h) le left) (returns-in-SyncGroup-clause-any_moment g c state after h s) early)

pub returns-in-OpenGate-clause-any_moment : goal.returns-in-OpenGate-clause-any_moment
returns-in-OpenGate-clause-any_moment g c = λ state after h s.
    let store = c.args.self.now in
    let device = c.write_in_half-made-in-OpenGate.new.device in
    write_run g.D.Disk.model c.write_in_half-made-in-OpenGate.result store.device device (MayShow (calls_from store.phase) state after) c.write_in_half-made-in-OpenGate.ensures.only c.write_in_half-made-in-OpenGate.ensures.outside c.write_in_half-made-in-OpenGate.ensures.goes_on (c.write_in_half-made-in-OpenGate.ensures.time h)
    (λ made. during_gate g.D.Disk.model store state after s (start_of store.half + store.gate) refl
    c.in-OpenGate.is (g.D.Disk.model.left_since device (g.D.Disk.model.moment store.device)) (c.write_in_half-made-in-OpenGate.ensures.stop h made))
    (λ i left. now_shows g.D.Disk.model store state after s i (g.met.D.Disk.only_now store.device i h left))

pub returns-in-OpenGate-clause-on : goal.returns-in-OpenGate-clause-on
returns-in-OpenGate-clause-on g c = λ state after h s.
    let store = c.args.self.now in
    let device = c.write_in_half-made-in-OpenGate.new.device in
    let at = start_of store.half + store.gate in
    let P = λ (phase : Phase). IsWriting g.D.Disk.model (record store { device = device; phase = phase }) state after in
    let during = g.D.Disk.model.left_since device (g.D.Disk.model.moment store.device) in
    move_on_made c.write_in_half-made-in-OpenGate.result SyncGate c.move_on-in-OpenGate.new.phase c.move_on-in-OpenGate.result _ P c.move_on-in-OpenGate.ensures (c.write_in_half-made-in-OpenGate.ensures.written h)
    (λ made written. moves g.D.Disk.model store state after s device SyncGate (
      gate_reads g.D.Disk.model store state after s at refl c.in-OpenGate.is (g.D.Disk.model.reads device) written,
      λ i left. gate_images g.D.Disk.model store state after s at refl c.in-OpenGate.is during (c.write_in_half-made-in-OpenGate.ensures.stop h made) i
          (g.met.D.Disk.counts_now device (g.D.Disk.model.moment store.device) i (c.write_in_half-made-in-OpenGate.ensures.honest.0 h) ((c.write_in_half-made-in-OpenGate.ensures.time h made).later) left),
    ))

pub returns-in-OpenGate-clause-stuck : goal.returns-in-OpenGate-clause-stuck
returns-in-OpenGate-clause-stuck g c = λ state after h s.
    let store = c.args.self.now in
    let now = record store { device = c.write_in_half-made-in-OpenGate.new.device; phase = c.move_on-in-OpenGate.new.phase } in
    move_on_stuck c.write_in_half-made-in-OpenGate.result SyncGate c.move_on-in-OpenGate.new.phase c.move_on-in-OpenGate.result _ c.move_on-in-OpenGate.ensures
    (leaves_stuck g.D.Disk.model store.device now (calls_from store.phase) state after
    (λ t i le left. g.met.D.Disk.counts_now c.write_in_half-made-in-OpenGate.new.device t i (c.write_in_half-made-in-OpenGate.ensures.honest.0 h) le left) (returns-in-OpenGate-clause-any_moment g c state after h s))

pub returns-in-SyncGate-clause-any_moment : goal.returns-in-SyncGate-clause-any_moment
returns-in-SyncGate-clause-any_moment g c = λ state after h s.
    let store = c.args.self.now in
    one_call g.D.Disk.model store.device c.sync-in-SyncGate.new.self (MayShow (calls_from store.phase) state after) c.sync-in-SyncGate.ensures.call.goes_on (c.sync-in-SyncGate.ensures.call.time h)
    (λ i during. now_shows g.D.Disk.model store state after s i (c.sync-in-SyncGate.ensures.call.stop h i during))

pub returns-in-SyncGate-clause-stuck : goal.returns-in-SyncGate-clause-stuck
returns-in-SyncGate-clause-stuck g c = λ state after h s.
    let store = c.args.self.now in
    let now = record store { device = c.sync-in-SyncGate.new.self; phase = c.move_on-in-SyncGate.new.phase } in
    move_on_stuck c.map_err-made-in-SyncGate.result Done c.move_on-in-SyncGate.new.phase c.move_on-in-SyncGate.result _ c.move_on-in-SyncGate.ensures
    (leaves_stuck g.D.Disk.model store.device now (calls_from store.phase) state after
    (λ t i le left. g.met.D.Disk.counts_now c.sync-in-SyncGate.new.self t i (c.sync-in-SyncGate.ensures.call.stays_honest.0 h) le left) (returns-in-SyncGate-clause-any_moment g c state after h s))

pub returns-in-SyncGroup-clause-on : goal.returns-in-SyncGroup-clause-on
returns-in-SyncGroup-clause-on g c = λ state after h s.
    let store = c.args.self.now in
    let device = c.sync.new.self in
    let P = λ (phase : Phase). IsWriting g.D.Disk.model (record store { device = device; phase = phase }) state after in
    move_on_made c.map_err-made.result OpenGate c.move_on-in-SyncGroup.new.phase c.move_on-in-SyncGroup.result (g.D.Disk.model.reads device ≡ g.D.Disk.model.reads store.device × Only (g.D.Disk.model.reads store.device) (g.D.Disk.model.may_leave device)) P c.move_on-in-SyncGroup.ensures
    (synced c.sync.result c.map_err-made.result _ _ c.map_err-made.ensures.variant (c.sync.ensures.call.stays h) (c.sync.ensures.call.durable h))
    (λ made both. moves g.D.Disk.model store state after s device OpenGate
    (both.0 ∙ (at_phase g.D.Disk.model store state after s SyncGroup c.in-SyncGroup.is).0, λ i left. both.1 i left ∙ sym both.0))

pub returns-in-SyncGate-clause-on : goal.returns-in-SyncGate-clause-on
returns-in-SyncGate-clause-on g c = λ state after h s.
    let store = c.args.self.now in
    let device = c.sync-in-SyncGate.new.self in
    let P = λ (phase : Phase). IsWriting g.D.Disk.model (record store { device = device; phase = phase }) state after in
    move_on_made c.map_err-made-in-SyncGate.result Done c.move_on-in-SyncGate.new.phase c.move_on-in-SyncGate.result (g.D.Disk.model.reads device ≡ g.D.Disk.model.reads store.device × Only (g.D.Disk.model.reads store.device) (g.D.Disk.model.may_leave device)) P c.move_on-in-SyncGate.ensures
    (synced c.sync-in-SyncGate.result c.map_err-made-in-SyncGate.result _ _ c.map_err-made-in-SyncGate.ensures.variant (c.sync-in-SyncGate.ensures.call.stays h) (c.sync-in-SyncGate.ensures.call.durable h))
    (λ made both. moves g.D.Disk.model store state after s device Done
    (both.0 ∙ (at_phase g.D.Disk.model store state after s SyncGate c.in-SyncGate.is).0, λ i left. both.1 i left ∙ sym both.0))
