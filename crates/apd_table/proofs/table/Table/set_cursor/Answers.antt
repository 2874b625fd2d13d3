use Rattle.std.proofs.Common.{refl, sym, subst}
use Rattle.apd_table.proofs.Words.{Sound, State, set_cursor, state_of}
use Rattle.apd_table.proofs.Cursors.{can_cursor}
use Rattle.apd_table.proofs.MembersLemmas.{same_members}
use Rattle.apd_table.proofs.table.Table.set_cursor.Goals as goal

pub set_cursor-requires : goal.set_cursor-requires
set_cursor-requires c =
    let sound = subst (λ (x : State). Sound (set_cursor c.args.bssid c.args.last x)) (sym c.self.view_is) c.requires in
    can_cursor (state_of c.self.inside) c.args.bssid c.args.last sound

pub invariant_of-self : goal.invariant_of-self
invariant_of-self c =
    let s = state_of c.self.inside in
    let sound = subst (λ (x : State). Sound (set_cursor c.args.bssid c.args.last x)) (sym c.self.view_is) c.requires in
    record { sound = rw c.set_cursor.ensures sound; members = rw c.set_cursor.ensures (same_members s _ refl _ c.self.invariant.members) }
