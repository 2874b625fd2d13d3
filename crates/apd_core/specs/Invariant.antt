-- What every core is.
use Rattle.std.specs.Prelude.{◌≡◌, ℕ, ◌+◌, ◌^◌, ◌≤◌, ◌<◌, List, [], ◌∷◌, ◌++◌, length, map, IsSome}
use Rattle.std.specs.FinMap as maps
use Rattle.apd_base.specs.declared.limits.TheConstants.{MAX_KEPT}
use Rattle.apd_base.specs.State.{State}
use Rattle.apd_conf.specs.Confs.{AreConfs}
use Rattle.apd_conf.specs.declared.conf.Conf.{Conf}
use Rattle.apd_event.specs.Happening.{Happening}
use Rattle.apd_mlme.specs.declared.decision.Recipient.{Recipient}
use Rattle.apd_mlme.specs.Outs.{outs_to}
use Rattle.apd_mlme.specs.rules.{verdict, IsFit}
use Rattle.apd_record.specs.declared.change.Change.{Change}
use Rattle.apd_table.specs.Sound.{Sound}
use Rattle.apd_core.specs.Core.{CoreState, front_of, last_of, kept_count}
use Rattle.apd_core.specs.Heard.{AreMomentsOf}
use Rattle.apd_core.specs.Held.{Queue, AreHeld, queue_of, up_to, outs_of}

-- each entry has the changes of the verdict on what happened, in the state before it, where that was fit
abbrev pub AreDecided : List Conf → State → List Happening → List (List Change) → Type 0
AreDecided confs s [] [] = Unit {0}
AreDecided confs s (h ∷ hs) (changes ∷ entries) = IsFit s confs h × (changes ≡ (verdict s confs h).changes)
    × AreDecided confs (verdict s confs h).state hs entries
AreDecided confs s [] (changes ∷ entries) = ⊥
AreDecided confs s (h ∷ hs) [] = ⊥

-- the outs to a recipient of what happened, with the numbers of their entries, counted from the one after this
abbrev pub numbered_outs : Recipient → List Conf → ℕ → State → List Happening → Queue
numbered_outs r confs number s [] = []
numbered_outs r confs number s (h ∷ hs) =
    map (λ out. (number + 1, out)) (outs_to r (verdict s confs h).outs)
    ++ numbered_outs r confs (number + 1) (verdict s confs h).state hs

-- What happened, so that the entries that are not settled are the verdicts on it, one after another from the settled
-- state on: their changes, and for each recipient its outs, behind those of settled entries.
pub record Unsettled (s : CoreState) : Type 0 where
  pub happened : List Happening
  pub decided : AreDecided s.confs s.settled happened s.unsettled
  pub outs : (r : Recipient)
      → queue_of s.confs s.held r
      ≡ up_to s.number (queue_of s.confs s.held r) ++ numbered_outs r s.confs s.number s.settled happened

pub record IsCore (s : CoreState) : Type 0 where
  pub confs : AreConfs s.confs
  pub sound : Sound s.settled
  pub unsettled : Unsettled s
  -- a batch in flight is a front of the unsettled entries
  pub in_flight : s.flight ≤ length s.unsettled
  pub numbers : last_of s < 2 ^ 64
  -- exactly the rows of the state after all entries have moments
  pub moments : AreMomentsOf (front_of s) s.heard
  pub queues : length s.held.queues ≡ length s.confs + 1
  -- an entry is kept exactly where it is not settled, or an out of it is held
  pub held : AreHeld s.held
  pub kept_unsettled : (k : ℕ) → s.number < k → k ≤ last_of s → IsSome (maps.get s.held.left k)
  pub kept_settled : (k : ℕ) → IsSome (maps.get s.held.left k) → k ≤ s.number → 0 < outs_of k s.held.queues
  pub kept_given : (k : ℕ) → IsSome (maps.get s.held.left k) → k ≤ last_of s
  pub few : kept_count s ≤ MAX_KEPT
  -- an out was given only of a settled entry
  pub given : s.held.given ≤ s.number
