-- Recordings: lists of lines, one for each call (own format).
use Rattle.std.specs.Prelude.{◌≡◌, ℕ, ◌+◌, Bool, true, false, List, [], ◌∷◌, ◌++◌, length, flat_map, Option}
use Rattle.std.specs.Io.KnownBytes.{Appends}
use Rattle.apd_base.specs.Text.{lines, with_newline}
use Rattle.apd_radio.specs.declared.call.Call.{Call}
use Rattle.apd_radio.specs.declared.call.Call.TheVariants.{Received, Installed, Removed, Sent, Down}
use Rattle.apd_radio.specs.declared.replaying.ReplayFault.{ReplayFault}
use Rattle.apd_radio.specs.declared.replaying.ReplayFault.TheVariants.{BadLine, NoMemory}
use Rattle.apd_radio.specs.Calls.{IsLineOf, line_of}

-- what is written for the calls
abbrev pub recording_of : List Call → List ℕ
recording_of calls = flat_map (λ call. with_newline (line_of call)) calls

-- each line stands for the call at its place
abbrev pub AreLinesOf : List Call → List (List ℕ) → Type 0
AreLinesOf [] [] = Unit {0}
AreLinesOf [] (line ∷ lines) = ⊥
AreLinesOf (call ∷ calls) [] = ⊥
AreLinesOf (call ∷ calls) (line ∷ lines) = IsLineOf call line × AreLinesOf calls lines

-- the frame that a call received
abbrev pub frames_in : Call → List (List ℕ)
frames_in (Received frame) = frame ∷ []
frames_in (Installed addr aid) = []
frames_in (Removed addr) = []
frames_in (Sent frame) = []
frames_in Down = []

abbrev pub frames_of : List Call → List (List ℕ)
frames_of calls = flat_map frames_in calls

-- the text is a recording in which these frames were received
abbrev pub Replays : List ℕ → List (List ℕ) → Type 0
Replays text frames = (calls : List Call) × AreLinesOf calls (lines text) × (frames ≡ frames_of calls)

-- the lines in front of line n, counted from 1, stand for calls, and line n stands for none
pub record IsFirstBad (lines : List (List ℕ)) (n : ℕ) : Type 0 where
  pub front : List (List ℕ)
  pub bad : List ℕ
  pub behind : List (List ℕ)
  pub all : lines ≡ front ++ bad ∷ behind
  pub number : n ≡ length front + 1
  pub calls : List Call
  pub good : AreLinesOf calls front
  pub none : (call : Call) → IsLineOf call bad → ⊥

-- what becomes of a recording, of which is known whether it ended and what its writer holds, when a
-- call is to be written: an ended one stays as it is, and any other gets the line or ends
abbrev pub Records : Bool → Option (List ℕ) → Call → Bool → Option (List ℕ) → Type 0
Records true old call is_ended new = (is_ended ≡ true) × (new ≡ old)
Records false old call true new = Unit {0}
Records false old call false new = Appends old new (with_newline (line_of call))

-- what becomes of a recording when calls are to be written, one after the other
abbrev pub RecordsAll : Bool → Option (List ℕ) → List Call → Bool → Option (List ℕ) → Type 0
RecordsAll ended old [] is_ended new = (is_ended ≡ ended) × (new ≡ old)
RecordsAll ended old (call ∷ calls) is_ended new =
    (between : Bool) × (held : Option (List ℕ)) × Records ended old call between held
    × RecordsAll between held calls is_ended new

-- a text of these lines is refused for this
abbrev pub IsFault : ReplayFault → List (List ℕ) → Type 0
IsFault (BadLine n) lines = IsFirstBad lines n
IsFault NoMemory lines = Unit {0}
