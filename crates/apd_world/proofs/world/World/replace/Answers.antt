use Rattle.std.proofs.Common.{◌≡◌, Some, Ok, Err, refl}
use Rattle.std.specs.Vec.{with_item}
use Rattle.apd_world.proofs.Words.{slot_place, slots_of}
use Rattle.apd_world.proofs.HistoryBegins.{replaced_leads}
use Rattle.apd_world.proofs.HistoryLemmas.{still_leads}
use Rattle.apd_world.proofs.ReplaceLemmas.{placed, replaced_following}
use Rattle.apd_world.proofs.SlotLemmas.{place_seen}
use Rattle.apd_world.proofs.world.World.replace.Goals as goal

pub returns-in_default-clause-leads : goal.returns-in_default-clause-leads
returns-in_default-clause-leads g c = λ j stands. still_leads g.D.Disk.model c.args.self.now c.args.self.now j c.stops.ensures stands stands

pub returns-in-Ok-clause-replaced : goal.returns-in-Ok-clause-replaced
returns-in-Ok-clause-replaced g c =
    let old = c.args.self.now in
    let place = c.in-Some.place in
    let after = c.replace.new.self in
    let new = record old { slots = with_item old.slots place after } in
    let at : slot_place (slots_of old) c.args.bssid ≡ Some place = place_seen (slots_of old) c.deref.result.now c.args.bssid (Some place) c.deref.ensures.value c.in-Some.ensures in
    let said = c.in-Ok.ensures in
    record {
      replaces = placed g.D.Disk.model g.R.Radio.model g.R.Radio.frames c.args.bssid c.args.radio (Ok c.in-Ok.own) old new place c.index_mut.result.now after at c.index_mut.ensures.value refl
          (record { given = said.given; own = said.own; placed = said.other; back = said.back; wanted_then = said.wanted_then });
      only = refl;
      safe = c.stops.ensures;
    }

pub returns-in-Ok-clause-following : goal.returns-in-Ok-clause-following
returns-in-Ok-clause-following g c = replaced_following g.D.Disk.model g.R.Radio.model g.R.Radio.frames c.args.bssid c.args.radio c.args.self.now _ _ (returns-in-Ok-clause-replaced g c)

pub returns-in-Ok-clause-leads : goal.returns-in-Ok-clause-leads
returns-in-Ok-clause-leads g c = replaced_leads g.D.Disk.model g.R.Radio.model g.R.Radio.frames c.args.bssid c.args.self.now _ c.args.radio _ (returns-in-Ok-clause-replaced g c)

pub returns-in-Err-clause-replaced : goal.returns-in-Err-clause-replaced
returns-in-Err-clause-replaced g c =
    let old = c.args.self.now in
    let place = c.in-Some.place in
    let after = c.replace.new.self in
    let new = record old { slots = with_item old.slots place after } in
    let at : slot_place (slots_of old) c.args.bssid ≡ Some place = place_seen (slots_of old) c.deref.result.now c.args.bssid (Some place) c.deref.ensures.value c.in-Some.ensures in
    let said = c.in-Err.ensures in
    record {
      replaces = (
        refl,
        placed g.D.Disk.model g.R.Radio.model g.R.Radio.frames c.args.bssid c.args.radio (Err (c.in-Err.back, c.in-Err.fault)) old new place c.index_mut.result.now after at c.index_mut.ensures.value refl
            (record { given = said.given; own = said.own; placed = said.other; back = said.back; wanted_then = said.wanted_then }),
      );
      only = refl;
      safe = c.stops.ensures;
    }

pub returns-in-Err-clause-following : goal.returns-in-Err-clause-following
returns-in-Err-clause-following g c = replaced_following g.D.Disk.model g.R.Radio.model g.R.Radio.frames c.args.bssid c.args.radio c.args.self.now _ _ (returns-in-Err-clause-replaced g c)

pub returns-in-Err-clause-leads : goal.returns-in-Err-clause-leads
returns-in-Err-clause-leads g c = replaced_leads g.D.Disk.model g.R.Radio.model g.R.Radio.frames c.args.bssid c.args.self.now _ c.args.radio _ (returns-in-Err-clause-replaced g c)
