-- Moments that are laid down before the rows of a table change, and tidied afterwards (own).
use Rattle.std.specs.Prelude.{◌≡◌, Bool, true, cond, List, [], ◌∷◌, Option, None, IsSome, ◌⊎◌}
use Rattle.std.specs.FinMap as maps
use Rattle.apd_base.specs.declared.address.Addr.{Addr}
use Rattle.apd_base.specs.declared.address.Bssid.{Bssid}
use Rattle.apd_base.specs.declared.moment.Moment.{Moment}
use Rattle.apd_record.specs.declared.change.Change.{Change}
use Rattle.apd_core.specs.for_proofs.ChangedRows.{puts_row}
use Rattle.apd_core.specs.Heard.{LastHeard}

-- rows of a BSSID are given a moment, one after another
abbrev pub heard_at : Moment → Bssid → List Addr → LastHeard → LastHeard
heard_at m b [] heard = heard
heard_at m b (a ∷ addrs) heard = heard_at m b addrs (maps.insert heard (b, a) m)

-- each row has the moment that it had, or had none and is put
abbrev pub AreLaidDown : List Change → LastHeard → LastHeard → Type 0
AreLaidDown changes old new =
    (k : Bssid × Addr) → (maps.get new k ≡ maps.get old k) ⊎ ((puts_row changes k ≡ true) × (maps.get old k ≡ None))

-- each row that is put has a moment, which another one may be written over
abbrev pub HaveRoomFor : List Change → LastHeard → Type 0
HaveRoomFor changes heard = (k : Bssid × Addr) → puts_row changes k ≡ true → IsSome (maps.get heard k)

-- a row that is put or dropped, and is not there, has no moment
abbrev pub moment_left : Bool → Bool → Option Moment → Option Moment
moment_left is_touched is_there moment = cond is_there moment (cond is_touched None moment)
