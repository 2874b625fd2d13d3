use Rattle.std.proofs.Common.{refl, sym, subst}
use Rattle.apd_table.proofs.Words.{Sound, State, state_of, take_from_list}
use Rattle.apd_table.proofs.MembersLemmas.{same_members}
use Rattle.apd_table.proofs.table.Table.take.Goals as goal

pub invariant_of-self : goal.invariant_of-self
invariant_of-self c =
    let s = state_of c.self.inside in
    let sound = subst (λ (x : State). Sound (take_from_list c.args.bssid c.args.which c.args.addr x)) (sym c.self.view_is) c.requires in
    record { sound = rw c.remove.ensures sound; members = rw c.remove.ensures (same_members s _ refl _ c.self.invariant.members) }
