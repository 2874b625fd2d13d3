-- The theorem, in the words of one who sees a world from outside: what happened, what was said, what a stop leaves.
use Rattle.std.specs.Prelude.{◌≡◌, ◌+◌, ◌≤◌, ℕ, List, [], ◌++◌, length, take}
use Rattle.std.specs.List.{AllByRecursion}
use Rattle.apd_world.specs.Words.{Answer, AreFit, Conf, Happening, LastHeard, Out, Recipient, Shows, Sound, State, outs_run, run, text}

-- What is known from outside since some moment: the configurations; the state then, the last entry's number, and the
-- outs that each recipient was owed; what happened since, in order, how many of these, from the front, are durable, and
-- when each station was heard last; and what was said: the outs that each recipient was given, and answers to queries.
pub record History : Type 0 where
  pub confs : List Conf
  pub first : State
  pub before : ℕ
  pub owed : Recipient → List Out
  pub happened : List Happening
  pub durable : ℕ
  pub heard : LastHeard
  pub given : Recipient → List Out
  pub read : List Answer

-- at the very start: nothing has happened, nothing is owed, and nothing was said
abbrev pub blank : List Conf → State → LastHeard → History
blank confs table heard = record {
  confs = confs;
  first = table;
  before = 0;
  owed = λ r. [];
  happened = [];
  durable = 0;
  heard = heard;
  given = λ r. [];
  read = [];
}

-- the state after the first so many
abbrev pub after : History → ℕ → State
after h count = run h.first h.confs (take count h.happened)

-- an answer gives the state after some of what is durable, and the number of the last entry of these
pub record SpeaksOf (h : History) (answer : Answer) : Type 0 where
  pub count : ℕ
  pub durable : count ≤ h.durable
  pub number : answer.number ≡ h.before + count
  pub is : answer.text ≡ text (after h count) h.confs answer.query

-- All that happened could happen, from a sound state on; and what was said, in order, is of what is durable alone.
pub record IsHistory (h : History) : Type 0 where
  pub sound : Sound h.first
  pub fit : AreFit h.first h.confs h.happened
  pub durable : h.durable ≤ length h.happened
  pub given : (r : Recipient) → (rest : List Out)
      × (h.owed r ++ outs_run r h.first h.confs (take h.durable h.happened) ≡ h.given r ++ rest)
  pub read : AllByRecursion (SpeaksOf h) h.read

-- A history goes on: behind what stood there this happened, was given and was read, and no fewer are durable.
pub record GoesOn (happened : List Happening) (heard : LastHeard) (given : Recipient → List Out) (read : List Answer)
    (old new : History) : Type 0 where
  pub only : new ≡ record old {
    happened = old.happened ++ happened;
    heard = heard;
    given = λ r. old.given r ++ given r;
    read = old.read ++ read;
    durable = new.durable;
  }
  pub durable : old.durable ≤ new.durable

-- THE THEOREM: a stop while one history becomes another leaves the state after some of what happened, from the front;
-- and all that was durable of the one, so all that had been said by then, is among it.
pub record Keeps (old new : History) (image : List ℕ) : Type 0 where
  pub front : ℕ
  pub all_durable : old.durable ≤ front
  pub within : front ≤ length new.happened
  pub shows : Shows image (after new front)
