-- Association identifiers go round (own; IEEE Std 802.11-2016, 9.4.1.8): what a BSSID gives, and what was on a row of it
-- before it gives the same again.
use Rattle.std.specs.Prelude.{◌≡◌, ℕ, List, ◌++◌, None, Some}
use Rattle.apd_base.specs.declared.address.Addr.{Addr}
use Rattle.apd_base.specs.declared.address.Bssid.{Bssid}
use Rattle.apd_base.specs.State.{State, aid_at}
use Rattle.apd_conf.specs.declared.conf.Conf.{Conf}
use Rattle.apd_table.specs.LeastFree.{IsNextFree, IsTaken, last_given}
use Rattle.apd_event.specs.Happening.{Happening}
use Rattle.apd_mlme.specs.Run.{run}

-- between two states the BSSID gave the identifier: a station that had none has it
abbrev pub IsGiven : State → State → Bssid → ℕ → Type 0
IsGiven old new b i = (a : Addr) × (aid_at old b a ≡ None) × (aid_at new b a ≡ Some i)

-- an event gives the next identifier, which is the one given last from then on; where it gives none, that stays
pub record AreGivenInTurn (old new : State) (b : Bssid) : Type 0 where
  pub next : (i : ℕ) → IsGiven old new b i → IsNextFree old b i
  pub last : (i : ℕ) → IsGiven old new b i → last_given new b ≡ i
  pub stays : ((i : ℕ) → ¬ (IsGiven old new b i)) → last_given new b ≡ last_given old b

-- it was on a row of the BSSID at some moment of a run: in its first state, or after some of what happened
abbrev pub WasTaken : State → List Conf → List Happening → Bssid → ℕ → Type 0
WasTaken s confs hs b j =
    (before after : List Happening) × (hs ≡ before ++ after) × IsTaken (run s confs before) b j
