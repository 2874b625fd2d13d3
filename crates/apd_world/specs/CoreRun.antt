-- How a core goes on: what happened is kept, given and settled, each in order (own).
use Rattle.std.specs.Prelude.{◌≡◌, ◌+◌, List, [], ◌++◌, length}
use Rattle.apd_world.specs.Words.{AreDecided, AreFit, CoreState, Happening, Out, Recipient, front_of, held_for, last_of, numbered_outs, outs_run, queue_of, ready_for, run, up_to}

-- these happened, so that the entries that are not settled are the verdicts on them
abbrev pub AreUnsettled : List Happening → CoreState → Type 0
AreUnsettled hs s = AreDecided s.confs s.settled hs s.unsettled

-- and their outs to a recipient stand behind those of settled entries
abbrev pub AreHeldFor : Recipient → List Happening → CoreState → Type 0
AreHeldFor r hs s =
    queue_of s.confs s.held r
    ≡ up_to s.number (queue_of s.confs s.held r) ++ numbered_outs r s.confs s.number s.settled hs

-- Of what was not settled, and then of what happened, a front was settled: what is settled now is the state after it, and the
-- rest is not settled. What a recipient was given, and then what is settled for it and not given, is what was settled for it and
-- not given before, and then the outs of that front: so no out leaves before its entry is settled.
pub record Settles (hs happened : List Happening) (given : Recipient → List Out) (old new : CoreState) : Type 0 where
  pub settled : List Happening
  pub left : List Happening
  pub split : hs ++ happened ≡ settled ++ left
  pub state : new.settled ≡ run old.settled old.confs settled
  pub number : new.number ≡ old.number + length settled
  pub decided : AreUnsettled left new
  pub held : (r : Recipient) → AreHeldFor r hs old → AreHeldFor r left new
  pub released : (r : Recipient) → AreHeldFor r hs old
      → given r ++ ready_for r new ≡ ready_for r old ++ outs_run r old.settled old.confs settled

-- The state after all entries goes on by what happened. For each recipient, what it was given, and then what is held for it, is
-- what was held for it before, and then the outs of what happened.
pub record Goes (happened : List Happening) (given : Recipient → List Out) (old new : CoreState) : Type 0 where
  pub confs : new.confs ≡ old.confs
  pub fit : AreFit (front_of old) old.confs happened
  pub front : front_of new ≡ run (front_of old) old.confs happened
  pub outs : (r : Recipient)
      → given r ++ held_for r new ≡ held_for r old ++ outs_run r (front_of old) old.confs happened
  pub last : last_of new ≡ last_of old + length happened
  pub settles : (hs : List Happening) → AreUnsettled hs old → Settles hs happened given old new

-- nothing happens, nothing is given, and no station is heard
pub record GoesQuietly (old new : CoreState) : Type 0 where
  pub goes : Goes [] (λ r. []) old new
  pub heard : new.heard ≡ old.heard
