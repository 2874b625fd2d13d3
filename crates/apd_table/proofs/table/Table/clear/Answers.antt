use Rattle.std.proofs.Common.{refl, sym, subst}
use Rattle.apd_table.proofs.Words.{Sound, State, clear_list, state_of}
use Rattle.apd_table.proofs.MembersLemmas.{same_members}
use Rattle.apd_table.proofs.table.Table.clear.Goals as goal

pub invariant_of-self : goal.invariant_of-self
invariant_of-self c =
    let s = state_of c.self.inside in
    let sound = subst (λ (x : State). Sound (clear_list c.args.bssid c.args.which x)) (sym c.self.view_is) c.requires in
    record { sound = rw c.clear.ensures sound; members = rw c.clear.ensures (same_members s _ refl _ c.self.invariant.members) }
