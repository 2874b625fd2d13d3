use Rattle.std.proofs.Common.{sym}
use Rattle.apd_table.specs.for_proofs.Table.{state_of}
use Rattle.apd_table.proofs.Identifiers.{least_is, all_taken, first_is_free}
use Rattle.apd_table.proofs.MembersLemmas.{without_policy}
use Rattle.apd_table.proofs.Places.{ArePlaces, places_of}
use Rattle.apd_table.proofs.table.Table.least_free.Goals as goal

places : (c : goal.After-free_above) → ArePlaces (state_of c.self.inside) c.args.bssid c.in-Some.bss.now.members.words
places c = places_of (state_of c.self.inside) c.args.bssid _ (c.self.invariant.members c.args.bssid c.in-Some.bss.now.members (sym c.in-Some.ensures.members)).words

pub returns-in-Some-clause-some : goal.returns-in-Some-clause-some
returns-in-Some-clause-some c = rw (← c.self.view_is) (least_is (state_of c.self.inside) c.args.bssid _ (places c) 0 c.free_above.result c.free_above.ensures.some)

pub returns-in-Some-clause-none : goal.returns-in-Some-clause-none
returns-in-Some-clause-none c = rw (← c.self.view_is) (all_taken (state_of c.self.inside) c.args.bssid _ (places c) 0 c.free_above.result c.free_above.ensures.none)

pub returns-in-None-clause-some : goal.returns-in-None-clause-some
returns-in-None-clause-some c =
    rw (← c.self.view_is) (first_is_free (state_of c.self.inside) c.args.bssid (without_policy (state_of c.self.inside) c.args.bssid c.self.invariant.sound (sym c.in-None.ensures.policy)))
