use Rattle.std.proofs.Common.{refl, sym, subst}
use Rattle.apd_table.proofs.Words.{Sound, State, set_policy, state_of}
use Rattle.apd_table.proofs.MembersLemmas.{members_joined, same_members}
use Rattle.apd_table.proofs.table.Table.set.Goals as goal

pub invariant_of-self-2 : goal.invariant_of-self-2
invariant_of-self-2 c =
    let s = state_of c.self.inside in
    let sound = subst (λ (x : State). Sound (set_policy c.args.bssid c.args.policy x)) (sym c.self.view_is) c.requires in
    record { sound = rw c.in_ok-set.ensures.ok sound; members = rw c.in_ok-set.ensures.ok (same_members s _ refl _ (members_joined s c.self.invariant.sound c.args.bssid _ _ refl c.self.invariant.members)) }
