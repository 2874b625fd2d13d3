use Rattle.std.proofs.Common.{◌≡◌, ℕ, Option, Some, IfSome, subst}
use Rattle.apd_mlme.proofs.Words.{Aid, Bssid, IsNextFree, State, next_free}
use Rattle.apd_mlme.proofs.IdentifierLemmas.{one_is_left, found_next}
use Rattle.apd_mlme.proofs.association.next_free.Goals as goal

pub unwrap-number-requires : goal.unwrap-number-requires
unwrap-number-requires c = one_is_left c.args.table.now c.args.bssid c.sound.ensures c.args.sender c.requires.known c.requires.without c.next_free.result c.next_free.ensures.none

-- the number that was found, as an identifier
found : (s : State) (b : Bssid) (r : Option ℕ) (n : ℕ) (o : Option Aid) (aid : Aid) → IfSome r (IsNextFree s b) → r ≡ Some n → IfSome o (λ x. x.number ≡ n) → o ≡ Some aid → next_free s b ≡ Some aid
found s b r n o aid next is number was =
    found_next s b n aid (subst (λ q. IfSome q (IsNextFree s b)) is next) (subst (λ q. IfSome q (λ (x : Aid). x.number ≡ n)) was number)

pub returns : goal.returns
returns c = found c.args.table.now c.args.bssid c.next_free.result c.unwrap-number.result c.new.result c.unwrap.result c.next_free.ensures.some c.unwrap-number.ensures c.new.ensures.number c.unwrap.ensures
