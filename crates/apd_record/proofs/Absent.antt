-- Which bytes begin with no record of a tag: those behind which the fields of the tag do not stand.
use Rattle.std.proofs.Common.{◌≡◌, ℕ, ◌<◌, List, ◌∷◌, ◌++◌, length, Option, Some, None, sym, ap, ◌∙◌, append_assoc, arith}
use Rattle.std.specs.Prelude.{IfNone}
use Rattle.std.specs.Int.{to_le_bytes, w16}
use Rattle.std.proofs.lemmas.List.{length-append}
use Rattle.apd_base.specs.Addr.{IsAddr}
use Rattle.apd_base.specs.Mode.{mode_number}
use Rattle.apd_base.specs.State.{which_number}
use Rattle.apd_base.specs.declared.address.Addr.{Addr}
use Rattle.apd_base.specs.declared.address.Bssid.{Bssid}
use Rattle.apd_base.specs.declared.station.Policy.{Policy as BssPolicy}
use Rattle.apd_base.specs.declared.station.Station.{Station}
use Rattle.apd_base.specs.declared.station.StationNumber.{StationNumber}
use Rattle.apd_base.specs.declared.station.Which.{Which}
use Rattle.apd_record.specs.declared.change.Change.{Change}
use Rattle.apd_record.specs.declared.change.Change.TheVariants.{Put, Drop, ListAdd, ListDel, ListClear, Policy, Cursor}
use Rattle.apd_record.specs.Ranges.{IsStation, IsChange}
use Rattle.apd_record.specs.Record.{station_bytes, record_of}
use Rattle.apd_record.proofs.Fronts.{same_front}
use Rattle.apd_record.proofs.Parts.{tag_of, body_of, parts_behind}

-- no record with this tag and this address begins so
abbrev pub NoRecord : ℕ → Bssid → List ℕ → Type 0
NoRecord tag b bytes = (x : Change) (rest : List ℕ) → IsChange x → tag ∷ b.0.0 ++ bytes ≡ record_of x ++ rest → ⊥

-- what a `?` passes on where there is none
pub passed_on : {X : Type 0} (found : Option X) (tag n : ℕ) (b : Bssid) (bytes : List ℕ) → tag ≡ n → NoRecord n b bytes → IfNone found (NoRecord tag b bytes)
passed_on None tag n b bytes e none = λ x rest is h. none x rest is (ap (λ (t : ℕ). t ∷ b.0.0 ++ bytes) (sym e) ∙ h)
passed_on (Some y) tag n b bytes e none = tt

by_body : (tag : ℕ) (b : Bssid) (bytes : List ℕ) → length b.0.0 ≡ 6 → ((x : Change) (rest : List ℕ) → IsChange x → tag ≡ tag_of x → bytes ≡ body_of x ++ rest → ⊥) → NoRecord tag b bytes
by_body tag b bytes six none x rest is e =
    let parts = parts_behind tag b bytes x rest six is e in
    none x rest is parts.0 parts.2

-- ---- an address at the front

no_address : (bytes : List ℕ) → length bytes < 6 → (a : Addr) (r : List ℕ) → length a.0 ≡ 6 → bytes ≡ a.0 ++ r → ⊥
no_address bytes short a r six e = omega (arith, ap length e, length-append a.0 r)

-- ---- by tag

put_body : (bytes : List ℕ) → ((a : Addr) (station : Station) (r : List ℕ) → length a.0 ≡ 6 → IsStation station → bytes ≡ a.0 ++ (station_bytes station ++ r) → ⊥)
    → (x : Change) (rest : List ℕ) → IsChange x → 1 ≡ tag_of x → bytes ≡ body_of x ++ rest → ⊥
put_body bytes none (Put b a station) rest is t e = none a station rest is.1.0 is.2 (e ∙ append_assoc a.0 (station_bytes station) rest)
put_body bytes none x rest is t e = absurd (omega arith)

drop_body : (bytes : List ℕ) → ((a : Addr) (r : List ℕ) → length a.0 ≡ 6 → bytes ≡ a.0 ++ r → ⊥)
    → (x : Change) (rest : List ℕ) → IsChange x → 2 ≡ tag_of x → bytes ≡ body_of x ++ rest → ⊥
drop_body bytes none (Drop b a) rest is t e = none a rest is.1.0 e
drop_body bytes none x rest is t e = absurd (omega arith)

abbrev NoRow : List ℕ → Type 0
NoRow bytes = (w : Which) (a : Addr) (r : List ℕ) → length a.0 ≡ 6 → bytes ≡ which_number w ∷ (a.0 ++ r) → ⊥

add_body : (bytes : List ℕ) → NoRow bytes → (x : Change) (rest : List ℕ) → IsChange x → 3 ≡ tag_of x → bytes ≡ body_of x ++ rest → ⊥
add_body bytes none (ListAdd b w a) rest is t e = none w a rest is.1.0 e
add_body bytes none x rest is t e = absurd (omega arith)

del_body : (bytes : List ℕ) → NoRow bytes → (x : Change) (rest : List ℕ) → IsChange x → 4 ≡ tag_of x → bytes ≡ body_of x ++ rest → ⊥
del_body bytes none (ListDel b w a) rest is t e = none w a rest is.1.0 e
del_body bytes none x rest is t e = absurd (omega arith)

clear_body : (bytes : List ℕ) → ((w : Which) (r : List ℕ) → bytes ≡ which_number w ∷ r → ⊥)
    → (x : Change) (rest : List ℕ) → IsChange x → 5 ≡ tag_of x → bytes ≡ body_of x ++ rest → ⊥
clear_body bytes none (ListClear b w) rest is t e = none w rest e
clear_body bytes none x rest is t e = absurd (omega arith)

policy_body : (bytes : List ℕ) → ((policy : BssPolicy) (r : List ℕ) → bytes ≡ mode_number policy.mode ∷ to_le_bytes w16 policy.max.number ++ r → ⊥)
    → (x : Change) (rest : List ℕ) → IsChange x → 6 ≡ tag_of x → bytes ≡ body_of x ++ rest → ⊥
policy_body bytes none (Policy b policy) rest is t e = none policy rest e
policy_body bytes none x rest is t e = absurd (omega arith)

cursor_body : (bytes : List ℕ) → ((last : StationNumber) (r : List ℕ) → bytes ≡ to_le_bytes w16 last.number ++ r → ⊥)
    → (x : Change) (rest : List ℕ) → IsChange x → 7 ≡ tag_of x → bytes ≡ body_of x ++ rest → ⊥
cursor_body bytes none (Cursor b last) rest is t e = none last rest e
cursor_body bytes none x rest is t e = absurd (omega arith)

-- ---- the fields that are not there

pub put_without_address : (b : Bssid) (bytes : List ℕ) → length b.0.0 ≡ 6 → length bytes < 6 → NoRecord 1 b bytes
put_without_address b bytes six short = by_body 1 b bytes six (put_body bytes (λ a station r is st e. no_address bytes short a (station_bytes station ++ r) is e))

pub put_without_station : (b : Bssid) (bytes : List ℕ) (a : Addr) (rest : List ℕ) → length b.0.0 ≡ 6 → IsAddr a → bytes ≡ a.0 ++ rest
    → ((station : Station) (r : List ℕ) → IsStation station → rest ≡ station_bytes station ++ r → ⊥) → NoRecord 1 b bytes
put_without_station b bytes a rest six range front none =
    by_body 1 b bytes six (put_body bytes (λ d station r is st e. none station r st (same_front a.0 d.0 rest (station_bytes station ++ r) (range.0 ∙ sym is) (sym front ∙ e)).1))

pub drop_without_address : (b : Bssid) (bytes : List ℕ) → length b.0.0 ≡ 6 → length bytes < 6 → NoRecord 2 b bytes
drop_without_address b bytes six short = by_body 2 b bytes six (drop_body bytes (no_address bytes short))

row_without_which : (bytes : List ℕ) → ((w : Which) (r : List ℕ) → bytes ≡ which_number w ∷ r → ⊥) → NoRow bytes
row_without_which bytes none w a r is e = none w (a.0 ++ r) e

row_without_address : (bytes : List ℕ) (v : Which) (rest : List ℕ) → bytes ≡ which_number v ∷ rest → length rest < 6 → NoRow bytes
row_without_address bytes v rest front short w a r is e =
    let behind : rest ≡ a.0 ++ r = cc in no_address rest short a r is behind

pub add_without_which : (b : Bssid) (bytes : List ℕ) → length b.0.0 ≡ 6 → ((w : Which) (r : List ℕ) → bytes ≡ which_number w ∷ r → ⊥) → NoRecord 3 b bytes
add_without_which b bytes six none = by_body 3 b bytes six (add_body bytes (row_without_which bytes none))

pub add_without_address : (b : Bssid) (bytes : List ℕ) (v : Which) (rest : List ℕ) → length b.0.0 ≡ 6 → bytes ≡ which_number v ∷ rest → length rest < 6 → NoRecord 3 b bytes
add_without_address b bytes v rest six front short = by_body 3 b bytes six (add_body bytes (row_without_address bytes v rest front short))

pub del_without_which : (b : Bssid) (bytes : List ℕ) → length b.0.0 ≡ 6 → ((w : Which) (r : List ℕ) → bytes ≡ which_number w ∷ r → ⊥) → NoRecord 4 b bytes
del_without_which b bytes six none = by_body 4 b bytes six (del_body bytes (row_without_which bytes none))

pub del_without_address : (b : Bssid) (bytes : List ℕ) (v : Which) (rest : List ℕ) → length b.0.0 ≡ 6 → bytes ≡ which_number v ∷ rest → length rest < 6 → NoRecord 4 b bytes
del_without_address b bytes v rest six front short = by_body 4 b bytes six (del_body bytes (row_without_address bytes v rest front short))

pub clear_without_which : (b : Bssid) (bytes : List ℕ) → length b.0.0 ≡ 6 → ((w : Which) (r : List ℕ) → bytes ≡ which_number w ∷ r → ⊥) → NoRecord 5 b bytes
clear_without_which b bytes six none = by_body 5 b bytes six (clear_body bytes none)

pub policy_without_fields : (b : Bssid) (bytes : List ℕ) → length b.0.0 ≡ 6
    → ((policy : BssPolicy) (r : List ℕ) → bytes ≡ mode_number policy.mode ∷ to_le_bytes w16 policy.max.number ++ r → ⊥) → NoRecord 6 b bytes
policy_without_fields b bytes six none = by_body 6 b bytes six (policy_body bytes none)

pub cursor_without_number : (b : Bssid) (bytes : List ℕ) → length b.0.0 ≡ 6 → ((last : StationNumber) (r : List ℕ) → bytes ≡ to_le_bytes w16 last.number ++ r → ⊥) → NoRecord 7 b bytes
cursor_without_number b bytes six none = by_body 7 b bytes six (cursor_body bytes none)
