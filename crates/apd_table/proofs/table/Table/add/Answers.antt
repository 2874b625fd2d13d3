use Rattle.std.proofs.Common.{refl, sym, subst}
use Rattle.apd_table.proofs.Words.{Sound, State, add_to_list, state_of}
use Rattle.apd_table.proofs.ListChanges.{can_add}
use Rattle.apd_table.proofs.MembersLemmas.{same_members}
use Rattle.apd_table.proofs.table.Table.add.Goals as goal

pub invariant_of-self-2 : goal.invariant_of-self-2
invariant_of-self-2 c =
    let s = state_of c.self.inside in
    let sound = subst (λ (x : State). Sound (add_to_list c.args.bssid c.args.which c.args.addr x)) (sym c.self.view_is) c.requires in
    record { sound = rw c.in_ok-add.ensures.ok sound; members = rw c.in_ok-add.ensures.ok (same_members s _ refl _ c.self.invariant.members) }

pub add-requires : goal.add-requires
add-requires c =
    let sound = subst (λ (x : State). Sound (add_to_list c.args.bssid c.args.which c.args.addr x)) (sym c.self.view_is) c.requires in
    (can_add (state_of c.self.inside) c.args.bssid c.args.which c.args.addr sound).policy
