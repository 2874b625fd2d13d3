use Rattle.std.proofs.Common.{◌≡◌, None, refl, sym, ap, ◌∙◌}
use Rattle.apd_table.proofs.Words.{State, drop_station, state_of, station_at}
use Rattle.apd_table.proofs.MembersLemmas.{drop_is_change, few_members, members_changed, same_members}
use Rattle.apd_table.proofs.Parts.{sound_drop}
use Rattle.apd_table.proofs.table.Table.drop_station.Goals as goal

pub change_row-requires : goal.change_row-requires
change_row-requires c = few_members (state_of c.self.inside) c.self.invariant.sound c.args.bssid _ c.self.invariant.members

pub invariant_of-self : goal.invariant_of-self
invariant_of-self c =
    let s = state_of c.self.inside in
    let old : c.args.old ≡ station_at s c.args.bssid c.args.addr = c.requires ∙ ap (λ (x : State). station_at x c.args.bssid c.args.addr) (sym c.self.view_is) in
    record {
      sound = rw (c.change_row.ensures, c.remove.ensures) (sound_drop s c.args.bssid c.args.addr c.self.invariant.sound);
      members = rw (c.change_row.ensures, c.remove.ensures, old) (same_members (drop_station c.args.bssid c.args.addr s) _ refl _
          (members_changed s _ c.self.invariant.sound c.args.bssid c.args.addr None (drop_is_change s c.args.bssid c.args.addr) _ c.self.invariant.members));
    }
