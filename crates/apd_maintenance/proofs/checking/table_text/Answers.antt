use Rattle.std.proofs.Common.{◌≡◌, ◌++◌, ◌<◌, ◌≤◌, Some, sym, ap, ◌∙◌, arith}
use Rattle.std.specs.Prelude.{slice_get}
use Rattle.std.specs.FinMap as map
use Rattle.std.specs.List.{flat_map}
use Rattle.std.specs.Option.{is_some}
use Rattle.std.proofs.lemmas.List.{take_all}
use Rattle.apd_ctrl.proofs.Addresses.{get_some, told_more}
use Rattle.apd_maintenance.specs.Checking.{bss_text}
use Rattle.apd_maintenance.proofs.Printing.{all_bss}
use Rattle.apd_maintenance.proofs.checking.table_text.Goals as goal

pub unwrap-bssid-requires : goal.unwrap-bssid-requires
unwrap-bssid-requires c =
    let keys = map.keys c.args.table.now.policies in
    let within : c.loop-place.place < c.bss_count-place-end.result = c.loop-place-test.true in
    ap is_some c.bss.ensures ∙ get_some keys c.loop-place.place (omega (arith, all_bss c.args.table.now))

pub loop-place-preserved : goal.loop-place-preserved
loop-place-preserved c =
    let keys = map.keys c.args.table.now.policies in
    let here : slice_get keys c.loop-place.place ≡ Some c.unwrap-bssid.result = sym c.bss.ensures ∙ c.unwrap-bssid.ensures in
    c.in_ok-extend_from_slice.ensures.items ∙ ap (λ lines. c.loop-place.text.items ++ lines) (c.as_slice.ensures.value ∙ c.in_ok-lines.ensures) ∙ ap (λ front. front ++ bss_text c.args.detail c.args.table.now c.unwrap-bssid.result) c.loop-place.invariant
    ∙ told_more (bss_text c.args.detail c.args.table.now) keys c.loop-place.place c.unwrap-bssid.result here

pub returns : goal.returns
returns c =
    let keys = map.keys c.args.table.now.policies in
    let done : c.bss_count-place-end.result ≤ c.loop-place.place = c.loop-place-test.false in
    c.loop-place.invariant ∙ ap (flat_map (bss_text c.args.detail c.args.table.now)) (take_all c.loop-place.place keys (omega (arith, all_bss c.args.table.now)))
