use Rattle.std.proofs.Common.{◌≡◌, ap, sym}
use Rattle.apd_table.proofs.Words.{last_given, number_or_0, state_of}
use Rattle.apd_table.proofs.Identifiers.{all_taken, first_is_next, next_is}
use Rattle.apd_table.proofs.Places.{ArePlaces, places_of}
use Rattle.apd_table.proofs.table.Table.next_free.Goals as goal

places : (c : goal.After-next_free) → ArePlaces (state_of c.self.inside) c.args.bssid c.in-Some.bss.now.members.words
places c = places_of (state_of c.self.inside) c.args.bssid _ (c.self.invariant.members c.args.bssid c.in-Some.bss.now.members (sym c.in-Some.ensures.members)).words

last_is : (c : goal.After-next_free) → c.in-Some.bss.now.cursor.number ≡ last_given (state_of c.self.inside) c.args.bssid
last_is c = ap number_or_0 c.in-Some.ensures.cursor

pub returns-in-Some-clause-some : goal.returns-in-Some-clause-some
returns-in-Some-clause-some c =
    rw (← c.self.view_is) (next_is (state_of c.self.inside) c.args.bssid _ (places c) _ (last_is c) c.next_free.result c.next_free.ensures.some)

pub returns-in-Some-clause-none : goal.returns-in-Some-clause-none
returns-in-Some-clause-none c = rw (← c.self.view_is) (all_taken (state_of c.self.inside) c.args.bssid _ (places c) 0 c.next_free.result c.next_free.ensures.none)

pub returns-in-None-clause-some : goal.returns-in-None-clause-some
returns-in-None-clause-some c =
    rw (← c.self.view_is) (first_is_next (state_of c.self.inside) c.args.bssid c.self.invariant.sound (sym c.in-None.ensures.policy))
