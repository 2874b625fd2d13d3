-- What is kept of a BSSID beside its station rows: their number, and their identifiers as bits (own).
use Rattle.std.specs.Prelude.{◌≡◌, ℕ, ◌+◌, ◌-◌, ◌*◌, ◌/◌, ◌%◌, ◌^◌, ◌<◌, ◌≤◌, Bool, true, false, List, length, replicate, Option, Some, None, refl, slice_index, slice_set, bit_and, bit_or}
use Rattle.std.specs.Coded.{Coded, code_by, coded×, coded_ℕ, coded_list}
use Rattle.std.specs.FinMap as map
use Rattle.std.specs.FinMap.{FinMap}
use Rattle.std.specs.Int.{bit_not, w64}
use Rattle.std.specs.Option.{is_some}
use Rattle.apd_base.specs.Addr.{bssid_cmp}
use Rattle.apd_base.specs.declared.address.Bssid.{Bssid}
use Rattle.apd_base.specs.declared.station.Station.{Station}
use Rattle.apd_base.specs.State.{State, aid_of, count}
use Rattle.apd_table.specs.Words.{has_bit, AreWords}
use Rattle.apd_table.specs.declared.members.Members.{Members}

abbrev pub coded_members : Coded Members
coded_members =
    code_by (ℕ × List ℕ) (coded× coded_ℕ (coded_list coded_ℕ)) (λ x. (x.count, x.words))
    (λ p. record { count = p.0; words = p.1 }) (λ _. refl)

-- they are those of the BSSID
pub record IsMembers (s : State) (b : Bssid) (x : Members) : Type 0 where
  pub count : x.count ≡ count s b
  pub many : length x.words ≡ 32
  pub words : AreWords s b x.words

-- each BSSID has its own
abbrev pub AreMembers : State → FinMap bssid_cmp Members → Type 0
AreMembers s members = (b : Bssid) (x : Members) → map.get members b ≡ Some x → IsMembers s b x

abbrev pub no_members : Members
no_members = record { count = 0; words = replicate 32 0 }

-- ---- what the change of a row makes of them

-- whether the place of an identifier is set
abbrev pub is_set : List ℕ → ℕ → Bool
is_set words i = has_bit words (i / 64) (i % 64)

abbrev pub with_place : ℕ → List ℕ → List ℕ
with_place i words = slice_set words (i / 64) (bit_or (slice_index words (i / 64)) (1 * 2 ^ (i % 64) % 2 ^ 64))

abbrev pub without_place : ℕ → List ℕ → List ℕ
without_place i words =
    slice_set words (i / 64) (bit_and (slice_index words (i / 64)) (bit_not w64 (1 * 2 ^ (i % 64) % 2 ^ 64)))

-- the same of the identifier that a row may have
abbrev pub with_aid : Option ℕ → List ℕ → List ℕ
with_aid None words = words
with_aid (Some i) words = with_place i words

abbrev pub without_aid : Option ℕ → List ℕ → List ℕ
without_aid None words = words
without_aid (Some i) words = without_place i words

-- the number of rows, where a station had one or not, and has one or not
abbrev pub count_after : Bool → Bool → ℕ → ℕ
count_after false false n = n
count_after false true n = n + 1
count_after true false n = n - 1
count_after true true n = n

-- where a station's row was the one and is the other
abbrev pub members_after : Option Station → Option Station → Members → Members
members_after old new x =
    record {
      count = count_after (is_some old) (is_some new) x.count;
      words = with_aid (aid_of new) (without_aid (aid_of old) x.words);
    }

-- the same at a BSSID
abbrev pub put_after : Option Station → Option Station → Bssid → FinMap bssid_cmp Members → Option Members
    → FinMap bssid_cmp Members
put_after old new b members None = members
put_after old new b members (Some x) = map.insert members b (members_after old new x)

abbrev pub after_row : Option Station → Option Station → Bssid → FinMap bssid_cmp Members → FinMap bssid_cmp Members
after_row old new b members = put_after old new b members (map.get members b)

-- the places of a word above a place are set
abbrev pub AreSet : List ℕ → ℕ → ℕ → Type 0
AreSet words last w = (j : ℕ) → last < j → 64 * w ≤ j → j < 64 * w + 64 → is_set words j ≡ true

-- the first place of a word above a place that is not
pub record IsFirstClear (words : List ℕ) (last w i : ℕ) : Type 0 where
  pub low : last < i
  pub from : 64 * w ≤ i
  pub below : i < 64 * w + 64
  pub clear : is_set words i ≡ false
  pub before : (j : ℕ) → last < j → 64 * w ≤ j → j < i → is_set words j ≡ true
