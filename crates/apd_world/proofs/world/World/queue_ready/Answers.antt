use Rattle.std.proofs.Common.{◌≡◌, Some, None, refl, ap}
use Rattle.std.specs.Vec.{with_item}
use Rattle.apd_world.proofs.Words.{Nothing, slot_in, slot_place, slots_of}
use Rattle.apd_world.proofs.Joining.{hand_joins, no_slot_joins}
use Rattle.apd_world.proofs.SlotLemmas.{place_seen}
use Rattle.apd_world.proofs.DurableSteps.{made_unchanged}
use Rattle.apd_world.proofs.StepLemmas.{nothing_not_called}
use Rattle.apd_world.proofs.world.World.queue_ready.Goals as goal

pub returns-in_default-clause-step : goal.returns-in_default-clause-step
returns-in_default-clause-step g c =
    let old = c.args.self.now in
    let none : slot_place (slots_of old) c.args.bssid ≡ None = place_seen (slots_of old) c.deref.result.now c.args.bssid None c.deref.ensures.value c.in_default.ensures in
    no_slot_joins g.R.Radio.model c.args.bssid old (ap (slot_in (slots_of old)) none)

pub returns-in_default-clause-made : goal.returns-in_default-clause-made
returns-in_default-clause-made g c =
    made_unchanged g.D.Disk.model Nothing c.args.self.now.durable c.args.self.now.durable refl (nothing_not_called _) c.stops.ensures

pub returns-clause-step : goal.returns-clause-step
returns-clause-step g c =
    let old = c.args.self.now in
    let place = c.in-Some.place in
    let new = record old { durable = c.hand_to.new.durable; slots = with_item old.slots place c.hand_to.new.slot } in
    let at : slot_place (slots_of old) c.args.bssid ≡ Some place = place_seen (slots_of old) c.deref.result.now c.args.bssid (Some c.in-Some.place) c.deref.ensures.value c.in-Some.ensures in
    hand_joins g.R.Radio.model c.args.bssid old new place c.index_mut.result.now c.hand_to.new.slot at c.index_mut.ensures.value refl c.hand_to.result c.hand_to.ensures.queues
