-- How devices count their failures (own): up to 2^64 - 1, where a count stays.
use Rattle.std.specs.Prelude.{ℕ, ◌+◌, ◌<◌, ◌^◌}

-- the count went up; one at its greatest number stays there, and is taken as risen
abbrev pub HasRisen : ℕ → ℕ → Type 0
HasRisen before now = before + 1 < 2 ^ 64 → before < now
