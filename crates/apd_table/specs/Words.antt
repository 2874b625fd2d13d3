-- The association identifiers of a BSSID as the bits of 32 words of 64 (own).
use Rattle.std.specs.Prelude.{ℕ, ◌+◌, ◌*◌, ◌<◌, ◌==◌, ◌↔◌, Bool, List, IsTrue, slice_index}
use Rattle.std.specs.Int.{bit_at}
use Rattle.apd_base.specs.declared.address.Bssid.{Bssid}
use Rattle.apd_base.specs.State.{State}
use Rattle.apd_table.specs.LeastFree.{IsTaken}

-- whether bit i of word w is set
abbrev pub has_bit : List ℕ → ℕ → ℕ → Bool
has_bit words w i = bit_at (slice_index words w) i == 1

-- bit i of word w is set exactly where a station of the BSSID has the identifier 64 w + i
abbrev pub AreWords : State → Bssid → List ℕ → Type 0
AreWords s b words = (w i : ℕ) → w < 32 → i < 64 → IsTrue (has_bit words w i) ↔ IsTaken s b (64 * w + i)
