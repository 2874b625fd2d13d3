use Rattle.std.proofs.Common.{◌≡◌, Some, refl, sym, ap, subst, ◌∙◌}
use Rattle.apd_table.proofs.Words.{Sound, State, put_station, state_of, station_at}
use Rattle.apd_table.proofs.MembersLemmas.{few_members, members_changed, put_is_change, same_members}
use Rattle.apd_table.proofs.SameRows.{put_there, same_row}
use Rattle.apd_table.proofs.table.Table.put.Goals as goal

pub invariant_of-self-2 : goal.invariant_of-self-2
invariant_of-self-2 c =
    let s = state_of c.self.inside in
    let sound = subst (λ (x : State). Sound (put_station c.args.bssid c.args.addr c.args.station x)) (sym c.self.view_is) c.requires.sound in
    let old : c.args.old ≡ station_at s c.args.bssid c.args.addr = c.requires.old ∙ ap (λ (x : State). station_at x c.args.bssid c.args.addr) (sym c.self.view_is) in
    record {
      sound = rw (c.change_row.ensures, c.in_ok-put.ensures.ok) sound;
      members = rw (c.change_row.ensures, c.in_ok-put.ensures.ok, old) (same_members (put_station c.args.bssid c.args.addr c.args.station s) _ refl _
          (members_changed s _ c.self.invariant.sound c.args.bssid c.args.addr (Some c.args.station) (put_is_change s c.args.bssid c.args.addr c.args.station) _ c.self.invariant.members));
    }

pub change_row-requires : goal.change_row-requires
change_row-requires c = few_members (state_of c.self.inside) c.self.invariant.sound c.args.bssid _ c.self.invariant.members

-- the row is there already
pub returns-then-eq-clause-ok : goal.returns-then-eq-clause-ok
returns-then-eq-clause-ok c =
    let s = c.args.self.now in
    sym (put_there s c.args.bssid c.args.addr c.args.station (sym c.requires.old ∙ same_row c.args.old c.args.station (sym c.eq.ensures ∙ c.if-eq.true)))
