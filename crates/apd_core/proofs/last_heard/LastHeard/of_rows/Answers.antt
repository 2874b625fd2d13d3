use Rattle.std.proofs.Common.{◌≡◌, sym, ap, ◌∙◌, arith}
use Rattle.std.proofs.lemmas.List.{drop_all}
use Rattle.std.specs.FinMap as map
use Rattle.apd_core.proofs.AllHeard.{all_heard, all_rows, as_many_keys, some_within}
use Rattle.apd_core.proofs.last_heard.LastHeard.of_rows.Goals as goal

pub unwrap-bssid-requires : goal.unwrap-bssid-requires
unwrap-bssid-requires c =
    let many = as_many_keys c.args.table.now.policies in
    let end = c.bss_count-place-end.ensures in
    let place = c.loop-place-test.true in
    rw c.bss.ensures (some_within (map.keys c.args.table.now.policies) c.loop-place.place (omega arith))

pub returns : goal.returns
returns c =
    let s = c.args.table.now in
    let many = as_many_keys s.policies in
    let end = c.bss_count-place-end.ensures in
    let place = c.loop-place-test.false in
    let all : c.loop-place.moments ≡ all_heard c.args.moment s (map.keys s.policies) map.empty =
    sym (ap (λ bs. all_heard c.args.moment s bs c.loop-place.moments) (drop_all c.loop-place.place (map.keys s.policies) (omega arith))) ∙ c.loop-place.invariant.heard in
    λ b a. ap (λ heard. map.get heard (b, a)) all ∙ all_rows c.args.moment s c.sound.ensures b a
