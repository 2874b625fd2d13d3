-- The status of a response: that of the first reason to refuse that holds, in the order in which they are looked for
-- (own).
use Rattle.std.specs.Prelude.{Bool, true, false, List, [], ◌∷◌, if◌then◌else◌}
use Rattle.apd_frame.specs.declared.codes.Status.{Status}
use Rattle.apd_frame.specs.declared.codes.Status.TheVariants.{Success, RefusedReasonUnspecified, NotSupportedAuthAlgorithm, TransactionSequenceError, DeniedNoMoreStas, DeniedListenIntervalTooLarge}

-- the status of the first line that holds, or success
abbrev pub first_status : List (Bool × Status) → Status
first_status [] = Success
first_status (line ∷ lines) = if line.0 then line.1 else first_status lines

abbrev pub is_success : Status → Bool
is_success Success = true
is_success RefusedReasonUnspecified = false
is_success NotSupportedAuthAlgorithm = false
is_success TransactionSequenceError = false
is_success DeniedNoMoreStas = false
is_success DeniedListenIntervalTooLarge = false
