use Rattle.std.proofs.Common.{◌≡◌, ◌⊎◌, inl, inr, refl, sym, ap, subst, ◌∙◌}
use Rattle.apd_store.proofs.Words.{CloseOther, Failed, IsSwitching, IsWriting, LeavesOnly, Only, OpenHalf, Phase, Shows, SyncClosed, SyncHalf, SyncOpened, WriteHalf, one_call}
use Rattle.apd_store.proofs.Calls.{move_on_made, move_on_stuck, synced, write_run, leaves_stuck_shown}
use Rattle.apd_store.proofs.SwitchSteps.{at_call, closing_images, closing_reads, during_closing, during_opening, during_writing, opening_images, opening_reads, switch_closed, switch_ends, switch_moves, switch_shows, writing_images, writing_reads}
use Rattle.apd_store.proofs.store.Store.next_of_switch.Goals as goal

pub returns-in-CloseOther-clause-any_moment : goal.returns-in-CloseOther-clause-any_moment
returns-in-CloseOther-clause-any_moment g c = λ state after h s.
    let store = c.args.self.now in
    let device = c.write_in_half-made.new.device in
    let during = g.D.Disk.model.left_since device (g.D.Disk.model.moment store.device) in
    write_run g.D.Disk.model c.write_in_half-made.result store.device device (λ i. Shows i state) c.write_in_half-made.ensures.only c.write_in_half-made.ensures.outside c.write_in_half-made.ensures.goes_on (c.write_in_half-made.ensures.time h)
    (λ made. during_closing g.D.Disk.model store state after s c.in-CloseOther.is during (closing_images g.D.Disk.model store state after s c.other-side.result c.other-side.ensures c.in-CloseOther.is during (c.write_in_half-made.ensures.stop h made)))
    (λ i left. switch_shows g.D.Disk.model store state after s i (g.met.D.Disk.only_now store.device i h left))

pub returns-in-CloseOther-clause-on : goal.returns-in-CloseOther-clause-on
returns-in-CloseOther-clause-on g c = λ state after h s.
    let store = c.args.self.now in
    let device = c.write_in_half-made.new.device in
    let during = g.D.Disk.model.left_since device (g.D.Disk.model.moment store.device) in
    let P = λ (phase : Phase). IsSwitching g.D.Disk.model (record store { device = device; phase = phase }) state after ⊎ IsWriting g.D.Disk.model (record store { device = device; phase = phase }) state after in
    move_on_made c.write_in_half-made.result SyncClosed c.move_on.new.phase c.move_on.result _ P c.move_on.ensures (c.write_in_half-made.ensures.written h)
    (λ made written. inl (switch_moves g.D.Disk.model store state after s device SyncClosed (
      (at_call g.D.Disk.model store state after s CloseOther c.in-CloseOther.is).0,
      closing_reads g.D.Disk.model store state after s c.other-side.result c.other-side.ensures c.in-CloseOther.is (g.D.Disk.model.reads device) written,
      λ i left. closing_images g.D.Disk.model store state after s c.other-side.result c.other-side.ensures c.in-CloseOther.is during (c.write_in_half-made.ensures.stop h made) i
          (g.met.D.Disk.counts_now device (g.D.Disk.model.moment store.device) i (c.write_in_half-made.ensures.honest.0 h) ((c.write_in_half-made.ensures.time h made).later) left),
    )))

pub returns-in-CloseOther-clause-stuck : goal.returns-in-CloseOther-clause-stuck
returns-in-CloseOther-clause-stuck g c = λ state after h s.
    let store = c.args.self.now in
    let now = record store { device = c.write_in_half-made.new.device; phase = c.move_on.new.phase } in
    move_on_stuck c.write_in_half-made.result SyncClosed c.move_on.new.phase c.move_on.result _ c.move_on.ensures
    (leaves_stuck_shown g.D.Disk.model store.device now state
    (λ t i le left. g.met.D.Disk.counts_now c.write_in_half-made.new.device t i (c.write_in_half-made.ensures.honest.0 h) le left) (returns-in-CloseOther-clause-any_moment g c state after h s))

pub returns-in-WriteHalf-clause-any_moment : goal.returns-in-WriteHalf-clause-any_moment
returns-in-WriteHalf-clause-any_moment g c = λ state after h s.
    let store = c.args.self.now in
    let device = c.write_in_half-made-in-WriteHalf.new.device in
    let during = g.D.Disk.model.left_since device (g.D.Disk.model.moment store.device) in
    write_run g.D.Disk.model c.write_in_half-made-in-WriteHalf.result store.device device (λ i. Shows i state) c.write_in_half-made-in-WriteHalf.ensures.only c.write_in_half-made-in-WriteHalf.ensures.outside c.write_in_half-made-in-WriteHalf.ensures.goes_on (c.write_in_half-made-in-WriteHalf.ensures.time h)
    (λ made. during_writing g.D.Disk.model store state after s c.in-WriteHalf.is during (writing_images g.D.Disk.model store state after s c.other-side.result c.other-side.ensures c.as_slice-bytes.result.now c.as_slice-bytes.ensures c.in-WriteHalf.is during (c.write_in_half-made-in-WriteHalf.ensures.stop h made)))
    (λ i left. switch_shows g.D.Disk.model store state after s i (g.met.D.Disk.only_now store.device i h left))

pub returns-in-WriteHalf-clause-on : goal.returns-in-WriteHalf-clause-on
returns-in-WriteHalf-clause-on g c = λ state after h s.
    let store = c.args.self.now in
    let device = c.write_in_half-made-in-WriteHalf.new.device in
    let during = g.D.Disk.model.left_since device (g.D.Disk.model.moment store.device) in
    let P = λ (phase : Phase). IsSwitching g.D.Disk.model (record store { device = device; phase = phase }) state after ⊎ IsWriting g.D.Disk.model (record store { device = device; phase = phase }) state after in
    move_on_made c.write_in_half-made-in-WriteHalf.result SyncHalf c.move_on-in-WriteHalf.new.phase c.move_on-in-WriteHalf.result _ P c.move_on-in-WriteHalf.ensures (c.write_in_half-made-in-WriteHalf.ensures.written h)
    (λ made written. inl (switch_moves g.D.Disk.model store state after s device SyncHalf (
      (at_call g.D.Disk.model store state after s WriteHalf c.in-WriteHalf.is).0,
      writing_reads g.D.Disk.model store state after s c.other-side.result c.other-side.ensures c.as_slice-bytes.result.now c.as_slice-bytes.ensures c.in-WriteHalf.is (g.D.Disk.model.reads device) written,
      λ i left. writing_images g.D.Disk.model store state after s c.other-side.result c.other-side.ensures c.as_slice-bytes.result.now c.as_slice-bytes.ensures c.in-WriteHalf.is during (c.write_in_half-made-in-WriteHalf.ensures.stop h made) i
          (g.met.D.Disk.counts_now device (g.D.Disk.model.moment store.device) i (c.write_in_half-made-in-WriteHalf.ensures.honest.0 h) ((c.write_in_half-made-in-WriteHalf.ensures.time h made).later) left),
    )))

pub returns-in-WriteHalf-clause-stuck : goal.returns-in-WriteHalf-clause-stuck
returns-in-WriteHalf-clause-stuck g c = λ state after h s.
    let store = c.args.self.now in
    let now = record store { device = c.write_in_half-made-in-WriteHalf.new.device; phase = c.move_on-in-WriteHalf.new.phase } in
    move_on_stuck c.write_in_half-made-in-WriteHalf.result SyncHalf c.move_on-in-WriteHalf.new.phase c.move_on-in-WriteHalf.result _ c.move_on-in-WriteHalf.ensures
    (leaves_stuck_shown g.D.Disk.model store.device now state
    (λ t i le left. g.met.D.Disk.counts_now c.write_in_half-made-in-WriteHalf.new.device t i (c.write_in_half-made-in-WriteHalf.ensures.honest.0 h) le left) (returns-in-WriteHalf-clause-any_moment g c state after h s))

pub returns-in-OpenHalf-clause-any_moment : goal.returns-in-OpenHalf-clause-any_moment
returns-in-OpenHalf-clause-any_moment g c = λ state after h s.
    let store = c.args.self.now in
    let device = c.write_in_half-made-in-OpenHalf.new.device in
    let during = g.D.Disk.model.left_since device (g.D.Disk.model.moment store.device) in
    write_run g.D.Disk.model c.write_in_half-made-in-OpenHalf.result store.device device (λ i. Shows i state) c.write_in_half-made-in-OpenHalf.ensures.only c.write_in_half-made-in-OpenHalf.ensures.outside c.write_in_half-made-in-OpenHalf.ensures.goes_on (c.write_in_half-made-in-OpenHalf.ensures.time h)
    (λ made. during_opening g.D.Disk.model store state after s during (opening_images g.D.Disk.model store state after s c.other-side.result c.other-side.ensures c.in-OpenHalf.is during (c.write_in_half-made-in-OpenHalf.ensures.stop h made)))
    (λ i left. switch_shows g.D.Disk.model store state after s i (g.met.D.Disk.only_now store.device i h left))

pub returns-in-OpenHalf-clause-on : goal.returns-in-OpenHalf-clause-on
returns-in-OpenHalf-clause-on g c = λ state after h s.
    let store = c.args.self.now in
    let device = c.write_in_half-made-in-OpenHalf.new.device in
    let during = g.D.Disk.model.left_since device (g.D.Disk.model.moment store.device) in
    let P = λ (phase : Phase). IsSwitching g.D.Disk.model (record store { device = device; phase = phase }) state after ⊎ IsWriting g.D.Disk.model (record store { device = device; phase = phase }) state after in
    move_on_made c.write_in_half-made-in-OpenHalf.result SyncOpened c.move_on-in-OpenHalf.new.phase c.move_on-in-OpenHalf.result _ P c.move_on-in-OpenHalf.ensures (c.write_in_half-made-in-OpenHalf.ensures.written h)
    (λ made written. inl (switch_moves g.D.Disk.model store state after s device SyncOpened (
      (at_call g.D.Disk.model store state after s OpenHalf c.in-OpenHalf.is).0,
      opening_reads g.D.Disk.model store state after s c.other-side.result c.other-side.ensures c.in-OpenHalf.is (g.D.Disk.model.reads device) written,
      λ i left. opening_images g.D.Disk.model store state after s c.other-side.result c.other-side.ensures c.in-OpenHalf.is during (c.write_in_half-made-in-OpenHalf.ensures.stop h made) i
          (g.met.D.Disk.counts_now device (g.D.Disk.model.moment store.device) i (c.write_in_half-made-in-OpenHalf.ensures.honest.0 h) ((c.write_in_half-made-in-OpenHalf.ensures.time h made).later) left),
    )))

pub returns-in-OpenHalf-clause-stuck : goal.returns-in-OpenHalf-clause-stuck
returns-in-OpenHalf-clause-stuck g c = λ state after h s.
    let store = c.args.self.now in
    let now = record store { device = c.write_in_half-made-in-OpenHalf.new.device; phase = c.move_on-in-OpenHalf.new.phase } in
    move_on_stuck c.write_in_half-made-in-OpenHalf.result SyncOpened c.move_on-in-OpenHalf.new.phase c.move_on-in-OpenHalf.result _ c.move_on-in-OpenHalf.ensures
    (leaves_stuck_shown g.D.Disk.model store.device now state
    (λ t i le left. g.met.D.Disk.counts_now c.write_in_half-made-in-OpenHalf.new.device t i (c.write_in_half-made-in-OpenHalf.ensures.honest.0 h) le left) (returns-in-OpenHalf-clause-any_moment g c state after h s))

pub returns-in-SyncClosed-clause-any_moment : goal.returns-in-SyncClosed-clause-any_moment
returns-in-SyncClosed-clause-any_moment g c = λ state after h s.
    let store = c.args.self.now in
    one_call g.D.Disk.model store.device c.sync.new.self (λ i. Shows i state) c.sync.ensures.call.goes_on (c.sync.ensures.call.time h)
    (λ i during. switch_shows g.D.Disk.model store state after s i (c.sync.ensures.call.stop h i during))

pub returns-in-SyncClosed-clause-on : goal.returns-in-SyncClosed-clause-on
returns-in-SyncClosed-clause-on g c = λ state after h s.
    let store = c.args.self.now in
    let device = c.sync.new.self in
    let P = λ (phase : Phase). IsSwitching g.D.Disk.model (record store { device = device; phase = phase }) state after ⊎ IsWriting g.D.Disk.model (record store { device = device; phase = phase }) state after in
    move_on_made c.map_err-made.result WriteHalf c.move_on-in-SyncClosed.new.phase c.move_on-in-SyncClosed.result (g.D.Disk.model.reads device ≡ g.D.Disk.model.reads store.device × Only (g.D.Disk.model.reads store.device) (g.D.Disk.model.may_leave device)) P c.move_on-in-SyncClosed.ensures
    (synced c.sync.result c.map_err-made.result _ _ c.map_err-made.ensures.variant (c.sync.ensures.call.stays h) (c.sync.ensures.call.durable h))
    (λ made both. let at = at_call g.D.Disk.model store state after s SyncClosed c.in-SyncClosed.is in inl (switch_closed g.D.Disk.model store state after s device (both.0 ∙ at.1) (λ i left. both.1 i left ∙ sym both.0)))

pub returns-in-SyncClosed-clause-stuck : goal.returns-in-SyncClosed-clause-stuck
returns-in-SyncClosed-clause-stuck g c = λ state after h s.
    let store = c.args.self.now in
    let now = record store { device = c.sync.new.self; phase = c.move_on-in-SyncClosed.new.phase } in
    move_on_stuck c.map_err-made.result WriteHalf c.move_on-in-SyncClosed.new.phase c.move_on-in-SyncClosed.result _ c.move_on-in-SyncClosed.ensures
    (leaves_stuck_shown g.D.Disk.model store.device now state
    (λ t i le left. g.met.D.Disk.counts_now c.sync.new.self t i (c.sync.ensures.call.stays_honest.0 h) le left) (returns-in-SyncClosed-clause-any_moment g c state after h s))

pub returns-in-SyncHalf-clause-any_moment : goal.returns-in-SyncHalf-clause-any_moment
returns-in-SyncHalf-clause-any_moment g c = λ state after h s.
    let store = c.args.self.now in
    one_call g.D.Disk.model store.device c.sync-in-SyncHalf.new.self (λ i. Shows i state) c.sync-in-SyncHalf.ensures.call.goes_on (c.sync-in-SyncHalf.ensures.call.time h)
    (λ i during. switch_shows g.D.Disk.model store state after s i (c.sync-in-SyncHalf.ensures.call.stop h i during))

pub returns-in-SyncHalf-clause-on : goal.returns-in-SyncHalf-clause-on
returns-in-SyncHalf-clause-on g c = λ state after h s.
    let store = c.args.self.now in
    let device = c.sync-in-SyncHalf.new.self in
    let P = λ (phase : Phase). IsSwitching g.D.Disk.model (record store { device = device; phase = phase }) state after ⊎ IsWriting g.D.Disk.model (record store { device = device; phase = phase }) state after in
    move_on_made c.map_err-made-in-SyncHalf.result OpenHalf c.move_on-in-SyncHalf.new.phase c.move_on-in-SyncHalf.result (g.D.Disk.model.reads device ≡ g.D.Disk.model.reads store.device × Only (g.D.Disk.model.reads store.device) (g.D.Disk.model.may_leave device)) P c.move_on-in-SyncHalf.ensures
    (synced c.sync-in-SyncHalf.result c.map_err-made-in-SyncHalf.result _ _ c.map_err-made-in-SyncHalf.ensures.variant (c.sync-in-SyncHalf.ensures.call.stays h) (c.sync-in-SyncHalf.ensures.call.durable h))
    (λ made both. let at = at_call g.D.Disk.model store state after s SyncHalf c.in-SyncHalf.is in inl (switch_moves g.D.Disk.model store state after s device OpenHalf (at.0, both.0 ∙ at.1, λ i left. both.1 i left ∙ sym both.0)))

pub returns-in-SyncHalf-clause-stuck : goal.returns-in-SyncHalf-clause-stuck
returns-in-SyncHalf-clause-stuck g c = λ state after h s.
    let store = c.args.self.now in
    let now = record store { device = c.sync-in-SyncHalf.new.self; phase = c.move_on-in-SyncHalf.new.phase } in
    move_on_stuck c.map_err-made-in-SyncHalf.result OpenHalf c.move_on-in-SyncHalf.new.phase c.move_on-in-SyncHalf.result _ c.move_on-in-SyncHalf.ensures
    (leaves_stuck_shown g.D.Disk.model store.device now state
    (λ t i le left. g.met.D.Disk.counts_now c.sync-in-SyncHalf.new.self t i (c.sync-in-SyncHalf.ensures.call.stays_honest.0 h) le left) (returns-in-SyncHalf-clause-any_moment g c state after h s))

pub returns-in_default-sync-clause-any_moment : goal.returns-in_default-sync-clause-any_moment
returns-in_default-sync-clause-any_moment g c = λ state after h s.
    let store = c.args.self.now in
    one_call g.D.Disk.model store.device c.sync-in-SyncOpened.new.self (λ i. Shows i state) c.sync-in-SyncOpened.ensures.call.goes_on (c.sync-in-SyncOpened.ensures.call.time h)
    (λ i during. switch_shows g.D.Disk.model store state after s i (c.sync-in-SyncOpened.ensures.call.stop h i during))

pub returns-in_default-sync-clause-stuck : goal.returns-in_default-sync-clause-stuck
returns-in_default-sync-clause-stuck g c = λ state after h s.
    let store = c.args.self.now in
    let now = record store { device = c.sync-in-SyncOpened.new.self; phase = Failed } in
    leaves_stuck_shown g.D.Disk.model store.device now state
    (λ t i le left. g.met.D.Disk.counts_now c.sync-in-SyncOpened.new.self t i (c.sync-in-SyncOpened.ensures.call.stays_honest.0 h) le left) (returns-in_default-sync-clause-any_moment g c state after h s) refl

pub returns-in-Ok-clause-any_moment : goal.returns-in-Ok-clause-any_moment
returns-in-Ok-clause-any_moment g c = λ state after h s.
    let store = c.args.self.now in
    subst (λ d. LeavesOnly g.D.Disk.model store.device d (λ i. Shows i state)) (sym c.turn_over.ensures.device)
    (one_call g.D.Disk.model store.device c.sync-in-SyncOpened.new.self (λ i. Shows i state) c.sync-in-SyncOpened.ensures.call.goes_on (c.sync-in-SyncOpened.ensures.call.time h)
    (λ i during. switch_shows g.D.Disk.model store state after s i (c.sync-in-SyncOpened.ensures.call.stop h i during)))

pub returns-in-Ok-clause-on : goal.returns-in-Ok-clause-on
returns-in-Ok-clause-on g c = λ state after h s.
    let store = c.args.self.now in
    let device = c.sync-in-SyncOpened.new.self in
    let of = c.turn_over.ensures in
    let at = at_call g.D.Disk.model store state after s SyncOpened c.in-SyncOpened.is in
    let same : g.D.Disk.model.reads device ≡ g.D.Disk.model.reads store.device = c.in-Ok.ensures.call.stays h in
    let durable : Only (g.D.Disk.model.reads store.device) (g.D.Disk.model.may_leave device) = c.in-Ok.ensures.call.durable h in
    inr (switch_ends g.D.Disk.model store state after s c.turn_over.new.self of.half of.epoch of.gate of.other of.phase of.batch of.plan
    (ap g.D.Disk.model.reads of.device ∙ same ∙ at.1)
    (subst (λ d. Only (g.D.Disk.model.reads d) (g.D.Disk.model.may_leave d)) (sym of.device) (λ i left. durable i left ∙ sym same)))
