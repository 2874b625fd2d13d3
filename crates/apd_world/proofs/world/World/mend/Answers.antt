use Rattle.std.proofs.Common.{◌≡◌, Some, inl, refl}
use Rattle.std.specs.Vec.{with_item}
use Rattle.apd_slot.specs.Mending.{GoesOn}
use Rattle.apd_world.proofs.Words.{slot_place, slots_of}
use Rattle.apd_world.proofs.HistoryBegins.{mended_leads}
use Rattle.apd_world.proofs.HistoryLemmas.{still_leads}
use Rattle.apd_world.proofs.ReplaceLemmas.{mended_following}
use Rattle.apd_world.proofs.SlotLemmas.{place_seen, slot_goes}
use Rattle.apd_world.proofs.world.World.mend.Goals as goal

pub returns-in_default-clause-leads : goal.returns-in_default-clause-leads
returns-in_default-clause-leads g c = λ j stands. still_leads g.D.Disk.model c.args.self.now c.args.self.now j c.stops.ensures stands stands

pub returns-clause-mended : goal.returns-clause-mended
returns-clause-mended g c =
    let old = c.args.self.now in
    let place = c.in-Some.place in
    let after = c.go_on.new.slot in
    let new = record old { slots = with_item old.slots place after } in
    let at : slot_place (slots_of old) c.args.bssid ≡ Some place = place_seen (slots_of old) c.deref.result.now c.args.bssid (Some place) c.deref.ensures.value c.in-Some.ensures in
    let said = c.go_on.ensures.goes_on in
    record {
      mended = inl (slot_goes c.args.bssid (GoesOn g.R.Radio.model g.R.Radio.frames c.go_on.result c.args.mending.now c.go_on.new.self) old new place c.index_mut.result.now after at c.index_mut.ensures.value refl said.mended.bssid said);
      only = refl;
      safe = c.stops.ensures;
    }

pub returns-clause-following : goal.returns-clause-following
returns-clause-following g c = mended_following g.D.Disk.model g.R.Radio.model g.R.Radio.frames c.args.bssid _ c.args.self.now _ _ (λ was now so. so.mended) _ (returns-clause-mended g c)

pub returns-clause-leads : goal.returns-clause-leads
returns-clause-leads g c = mended_leads g.D.Disk.model g.R.Radio.model g.R.Radio.frames c.args.bssid c.args.self.now _ _ _ (λ was now so. so.mended) _ (returns-clause-mended g c)
