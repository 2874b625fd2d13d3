-- The parts of a record: its tag, the address of a radio, and the other fields.
use Rattle.std.proofs.Common.{◌≡◌, ℕ, List, [], ◌∷◌, ◌++◌, length, refl, sym, ap, ◌∙◌, append_assoc}
use Rattle.std.specs.Int.{to_le_bytes, w16}
use Rattle.apd_base.specs.Mode.{mode_number}
use Rattle.apd_base.specs.State.{which_number}
use Rattle.apd_base.specs.declared.address.Bssid.{Bssid}
use Rattle.apd_record.specs.declared.change.Change.{Change}
use Rattle.apd_record.specs.declared.change.Change.TheVariants.{Put, Drop, ListAdd, ListDel, ListClear, Policy, Cursor}
use Rattle.apd_record.specs.Ranges.{IsBssid, IsChange}
use Rattle.apd_record.specs.Record.{station_bytes, record_of}
use Rattle.apd_record.proofs.Fronts.{same_front}

abbrev pub tag_of : Change → ℕ
tag_of (Put b a station) = 1
tag_of (Drop b a) = 2
tag_of (ListAdd b w a) = 3
tag_of (ListDel b w a) = 4
tag_of (ListClear b w) = 5
tag_of (Policy b policy) = 6
tag_of (Cursor b last) = 7

abbrev pub bssid_of : Change → Bssid
bssid_of (Put b a station) = b
bssid_of (Drop b a) = b
bssid_of (ListAdd b w a) = b
bssid_of (ListDel b w a) = b
bssid_of (ListClear b w) = b
bssid_of (Policy b policy) = b
bssid_of (Cursor b last) = b

abbrev pub body_of : Change → List ℕ
body_of (Put b a station) = a.0 ++ station_bytes station
body_of (Drop b a) = a.0
body_of (ListAdd b w a) = which_number w ∷ a.0
body_of (ListDel b w a) = which_number w ∷ a.0
body_of (ListClear b w) = which_number w ∷ []
body_of (Policy b policy) = mode_number policy.mode ∷ to_le_bytes w16 policy.max.number
body_of (Cursor b last) = to_le_bytes w16 last.number

pub record_parts : (x : Change) → record_of x ≡ tag_of x ∷ (bssid_of x).0.0 ++ body_of x
record_parts (Put b a station) = ap (λ bytes. 1 ∷ bytes) (append_assoc b.0.0 a.0 (station_bytes station))
record_parts (Drop b a) = refl
record_parts (ListAdd b w a) = refl
record_parts (ListDel b w a) = refl
record_parts (ListClear b w) = refl
record_parts (Policy b policy) = refl
record_parts (Cursor b last) = refl

pub bssid_range : (x : Change) → IsChange x → IsBssid (bssid_of x)
bssid_range (Put b a station) h = h.0
bssid_range (Drop b a) h = h.0
bssid_range (ListAdd b w a) h = h.0
bssid_range (ListDel b w a) h = h.0
bssid_range (ListClear b w) h = h
bssid_range (Policy b policy) h = h
bssid_range (Cursor b last) h = h

-- what bytes that begin with a record begin with
pub parts_behind : (tag : ℕ) (b : Bssid) (bytes : List ℕ) (x : Change) (rest : List ℕ) → length b.0.0 ≡ 6 → IsChange x → tag ∷ b.0.0 ++ bytes ≡ record_of x ++ rest
    → (tag ≡ tag_of x) × (b ≡ bssid_of x) × (bytes ≡ body_of x ++ rest)
parts_behind tag b bytes x rest six is e =
    let whole : tag ∷ (b.0.0 ++ bytes) ≡ tag_of x ∷ ((bssid_of x).0.0 ++ (body_of x ++ rest)) = e ∙ ap (λ r. r ++ rest) (record_parts x) ∙ ap (λ r. tag_of x ∷ r) (append_assoc (bssid_of x).0.0 (body_of x) rest) in
    let first : tag ≡ tag_of x = cc in
    let behind : b.0.0 ++ bytes ≡ (bssid_of x).0.0 ++ (body_of x ++ rest) = cc in
    let both = same_front b.0.0 (bssid_of x).0.0 bytes (body_of x ++ rest) (six ∙ sym (bssid_range x is).0) behind in
    (first, ap (λ bytes. record { 0 = record { 0 = bytes } }) both.0, both.1)
