-- Little-endian numbers: std's `to_le_bytes` and `from_le_bytes`, at a place in a list of bytes.
use Rattle.std.specs.Prelude.{ℕ, ◌+◌, ◌<◌, List, [], ◌∷◌, slice_index}
use Rattle.std.specs.Int.{from_le_bytes, w16}

-- the number whose two bytes stand at a place and right behind it
abbrev pub u16_at : List ℕ → ℕ → ℕ
u16_at bytes place = from_le_bytes w16 (slice_index bytes place ∷ slice_index bytes (place + 1) ∷ [])

abbrev pub AreBytes : List ℕ → Type 0
AreBytes bytes = (i : ℕ) → slice_index bytes i < 256
