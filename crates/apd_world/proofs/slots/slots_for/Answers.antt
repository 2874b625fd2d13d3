use Rattle.std.proofs.Common.{◌≡◌, [], ◌∷◌, ◌++◌, ◌+◌, ◌∙◌, arith, ap, map, sym, take, take-add}
use Rattle.std.proofs.lemmas.Grind.{common_steps}
use Rattle.std.proofs.lemmas.List.{map-append}
use Rattle.apd_world.proofs.Words.{radio_of}
use Rattle.apd_world.proofs.slots.slots_for.Goals as goal

pub loop-conf-preserved : goal.loop-conf-preserved
loop-conf-preserved g c =
    let k = c.loop-conf.invariant in
    let i = c.loop-conf.conf-index in
    let radios = c.args.radios.items in
    let radio = c.in-Some.radio in
    let frames = g.R.Radio.frames in
    let more : take (i + 1) radios ≡ take i radios ++ radio ∷ [] =
    take-add i 1 radios ∙ ap (λ xs. take i radios ++ take 1 xs) (sym k.rest ∙ c.in-Some.ensures.items) in
    record {
      slots = grind (arith, common_steps);
      frames = ap (map (λ slot. frames (radio_of slot))) c.in_ok-push.ensures.items
          ∙ map-append (λ slot. frames (radio_of slot)) c.loop-conf.slots.items (c.new.result ∷ [])
          ∙ (λ j. k.frames j ++ c.new.ensures.frames j ∷ [])
          ∙ sym (map-append frames (take i radios) (radio ∷ [])) ∙ ap (map frames) (sym more);
      rest = grind (arith, common_steps);
    }
