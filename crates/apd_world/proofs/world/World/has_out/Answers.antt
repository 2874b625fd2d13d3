use Rattle.std.proofs.Common.{◌≡◌, ◌≤◌, Some, sym, ap, ◌∙◌, arith}
use Rattle.std.proofs.lemmas.Bool.{ltb-false}
use Rattle.std.proofs.lemmas.List.{nil_from_length}
use Rattle.apd_slot.specs.Slots.{queue_of as slot_queue}
use Rattle.apd_world.proofs.Words.{queue_if, queue_of, slot_place, slots_of}
use Rattle.apd_world.proofs.SlotLemmas.{place_seen, slot_is}
use Rattle.apd_world.proofs.world.World.has_out.Goals as goal

pub returns-in-Some-clause-none : goal.returns-in-Some-clause-none
returns-in-Some-clause-none g c = λ none.
    let slots = slots_of c.args.self.now in
    let slot = c.index.result.now in
    let at : slot_place slots c.args.bssid ≡ Some c.in-Some.place = place_seen slots c.deref.result.now c.args.bssid (Some c.in-Some.place) c.deref.ensures.value c.in-Some.ensures in
    let is : queue_of c.args.self.now c.args.bssid ≡ slot_queue slot = ap queue_if (slot_is slots c.args.bssid c.in-Some.place slot at ∙ ap Some (sym c.index.ensures)) in
    let few : c.waiting_count.result ≤ 0 = ltb-false 0 c.waiting_count.result none in
    is ∙ nil_from_length (slot_queue slot) (omega (arith, c.waiting_count.ensures, few))
