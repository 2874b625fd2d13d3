use Rattle.std.proofs.Common.{◌≡◌, ◌++◌, ◌<◌, ◌≤◌, length, Option, Some, None, IsSome, IsTrue, sym, ap, ◌∙◌, arith}
use Rattle.std.specs.Prelude.{slice_get}
use Rattle.std.specs.List.{flat_map}
use Rattle.std.specs.Option.{is_some}
use Rattle.std.proofs.lemmas.List.{take_all}
use Rattle.apd_acl.specs.Lists.{has}
use Rattle.apd_ctrl.specs.Texts.{listed_addresses}
use Rattle.apd_maintenance.specs.Listing.{listed_line}
use Rattle.apd_ctrl.proofs.Addresses.{none_listed, listed_rise, listed_are, listed_count, get_some, told_more}
use Rattle.apd_ctrl.proofs.Rising.{first_is, next_is, place_next}
use Rattle.apd_maintenance.proofs.listing.list_lines.Goals as goal

no_some : {A : Type 0} (o : Option A) → o ≡ None → IsSome o → ⊥
no_some o e h = cc

pub returns-in_default : goal.returns-in_default
returns-in_default c =
    c.new-text.ensures.items
    ∙ ap (flat_map (listed_line c.args.which)) (sym (none_listed c.args.table.now c.args.bssid c.args.which
    (λ a h. no_some c.lists.result c.in_default.is (c.lists.ensures.policy.1 (c.sound.ensures.lists_have_policy c.args.bssid c.args.which a h)))))

pub loop-place-init : goal.loop-place-init
loop-place-init c =
    let all = listed_addresses c.args.table.now c.args.bssid c.args.which in
    let are = listed_are c.args.table.now c.args.bssid c.args.which in
    let rows = c.in-Some.ensures.rows c.args.which in
    record {
      next = first_is all (λ a. IsTrue (has c.in-Some.lists.now c.args.which a)) (listed_rise c.args.table.now c.args.bssid c.args.which)
          (λ a h. are a ∙ sym (rows a) ∙ h) (λ a h. rows a ∙ sym (are a) ∙ h) c.least-next.result c.least-next.ensures.some c.least-next.ensures.none;
      told = c.new-text.ensures.items;
    }

pub unwrap-addr-requires : goal.unwrap-addr-requires
unwrap-addr-requires c =
    let all = listed_addresses c.args.table.now c.args.bssid c.args.which in
    let count : length all ≡ c.len-place-end.result = listed_count c.args.table.now c.args.bssid c.args.which ∙ sym (c.len-place-end.ensures ∙ c.in-Some.ensures.counts c.args.which) in
    let within : c.loop-place._place < c.len-place-end.result = c.loop-place-test.true in
    ap is_some c.loop-place.invariant.next ∙ get_some all c.loop-place._place (omega arith)

pub loop-place-preserved : goal.loop-place-preserved
loop-place-preserved c =
    let all = listed_addresses c.args.table.now c.args.bssid c.args.which in
    let are = listed_are c.args.table.now c.args.bssid c.args.which in
    let rise = listed_rise c.args.table.now c.args.bssid c.args.which in
    let rows = c.in-Some.ensures.rows c.args.which in
    let here : slice_get all c.loop-place._place ≡ Some c.unwrap-addr.result = sym c.loop-place.invariant.next ∙ c.unwrap-addr.ensures in
    record {
      next = next_is all (λ a. IsTrue (has c.in-Some.lists.now c.args.which a)) c.unwrap-addr.result rise
          (λ a h. are a ∙ sym (rows a) ∙ h) (λ a h. rows a ∙ sym (are a) ∙ h) c.after-next.result c.after-next.ensures.some c.after-next.ensures.none
          ∙ place_next all c.loop-place._place c.unwrap-addr.result rise here;
      told = c.in_ok-push_listed.ensures ∙ ap (λ front. front ++ listed_line c.args.which c.unwrap-addr.result) c.loop-place.invariant.told ∙ told_more (listed_line c.args.which) all c.loop-place._place c.unwrap-addr.result here;
    }

pub returns : goal.returns
returns c =
    let all = listed_addresses c.args.table.now c.args.bssid c.args.which in
    let count : length all ≡ c.len-place-end.result = listed_count c.args.table.now c.args.bssid c.args.which ∙ sym (c.len-place-end.ensures ∙ c.in-Some.ensures.counts c.args.which) in
    let done : c.len-place-end.result ≤ c.loop-place._place = c.loop-place-test.false in
    c.loop-place.invariant.told ∙ ap (flat_map (listed_line c.args.which)) (take_all c.loop-place._place all (omega arith))
