use Rattle.std.proofs.Common.{List, sym, ap, ◌∙◌, arith}
use Rattle.std.specs.List.{position}
use Rattle.apd_core.proofs.Words.{Conf, bssid_cmp, eq_by_cmp, queue_place}
use Rattle.apd_core.proofs.Places.{place_is, place_small}
use Rattle.apd_core.proofs.held.place_of.Goals as goal

pub returns-in-Radio-clause-place : goal.returns-in-Radio-clause-place
returns-in-Radio-clause-place c =
    c.radio_place.ensures ∙ ap (λ (l : List Conf). position (λ conf. eq_by_cmp bssid_cmp c.in-Radio.bssid conf.bssid) l) c.list.ensures.list
    ∙ place_is c.args.confs.now c.in-Radio.bssid ∙ ap (queue_place c.args.confs.now) (sym c.in-Radio.is)

pub returns-in-Radio-clause-small : goal.returns-in-Radio-clause-small
returns-in-Radio-clause-small c =
    place_small c.list.result.now c.in-Radio.bssid c.radio_place.result (c.radio_place.ensures ∙ place_is c.list.result.now c.in-Radio.bssid) (omega (arith, c.list.ensures.confs.count.1))
