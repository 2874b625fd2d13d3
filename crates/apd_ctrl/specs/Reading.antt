-- How a command is read: the same as the grammar's relation, as a function.
use Rattle.std.specs.Prelude.{ℕ, ◌-◌, ◌==◌, nat_lt, nat_eq, List, [], ◌∷◌, length, take, drop, codes, Option, Some, None, Result, Ok, Err, if◌then◌else◌}
use Rattle.std.specs.List.{starts_with, ends_with}
use Rattle.std.specs.Option.{option_map}
use Rattle.std.specs.Str.{bytes_eq}
use Rattle.apd_base.specs.declared.limits.TheConstants.{MAX_COMMAND}
use Rattle.apd_base.specs.declared.address.Addr.{Addr}
use Rattle.apd_base.specs.declared.station.Which.{Which}
use Rattle.apd_base.specs.Addr.{address_of}
use Rattle.apd_base.specs.Text.{decimal_number, is_blank}
use Rattle.apd_base.specs.declared.address.TheConstants.{TEXT_LENGTH}
use Rattle.apd_frame.specs.declared.codes.Reason.{Reason}
use Rattle.apd_event.specs.declared.event.Edit.TheVariants.{Add, Remove, Clear}
use Rattle.apd_ctrl.specs.declared.command.Command.{Command}
use Rattle.apd_ctrl.specs.declared.command.Command.TheVariants as c
use Rattle.apd_ctrl.specs.declared.parser.Refusal.{Refusal}
use Rattle.apd_ctrl.specs.declared.parser.Refusal.TheVariants.{Unknown, Fail}
use Rattle.apd_ctrl.specs.declared.word.Word.{Word}
use Rattle.apd_ctrl.specs.declared.word.Word.TheVariants as w
use Rattle.apd_ctrl.specs.Words.{word_of}

-- bytes less one newline at their end
abbrev pub line_of : List ℕ → List ℕ
line_of bytes = if ends_with nat_eq bytes (codes "\n") then take (length bytes - 1) bytes else bytes

-- what stands before the first blank
unfoldable pub word : List ℕ → List ℕ
word [] = []
word (b ∷ bs) = if is_blank b then [] else b ∷ word bs

-- what stands behind the first blank, where there is one
unfoldable pub behind : List ℕ → Option (List ℕ)
behind [] = None
behind (b ∷ bs) = if is_blank b then Some bs else behind bs

-- the name of an interface in front, where there is one, and the rest
abbrev pub name_and_rest : List ℕ → List ℕ → Option (List ℕ) → Option (List ℕ) × List ℕ
name_and_rest line name None = (None, line)
name_and_rest line name (Some rest) = (Some name, rest)

abbrev pub split_prefix : List ℕ → Option (List ℕ) × List ℕ
split_prefix line =
    if starts_with nat_eq line (codes "IFNAME=")
    then name_and_rest line (word (drop 7 line)) (behind (drop 7 line)) else (None, line)

-- the number of a reason: 1 to 5 decimal digits that write a number from 0 to 65535
abbrev pub reason_number : List ℕ → Option ℕ
reason_number text = decimal_number 5 65535 text

abbrev pub as_reason : ℕ → Reason
as_reason n = record { 0 = n }

-- the reason that is given, and 2 where none is
abbrev pub reason_given : List ℕ → Option Reason
reason_given text =
    if starts_with nat_eq text (codes " reason=") then option_map as_reason (reason_number (drop 8 text)) else None

abbrev pub reason_of : List ℕ → Option Reason
reason_of text = if length text == 0 then Some (as_reason 2) else reason_given text

-- both, if both are there
abbrev pub pair_of : {A B : Type 0} → Option A → Option B → Option (A × B)
pair_of (Some a) (Some b) = Some (a, b)
pair_of (Some a) None = None
pair_of None b = None

abbrev pub dismissal_of : List ℕ → Option (Addr × Reason)
dismissal_of text =
    if nat_lt (length text) TEXT_LENGTH then None else pair_of (address_of (take TEXT_LENGTH text))
    (reason_of (drop TEXT_LENGTH text))

abbrev pub list_with : Which → List ℕ → Option (List ℕ) → Option Command
list_with which verb None =
    if bytes_eq verb (codes "SHOW") then Some (c.Show which) else
    (if bytes_eq verb (codes "CLEAR") then Some (c.ListEdit which Clear) else None)
list_with which verb (Some text) =
    if bytes_eq verb (codes "ADD_MAC") then option_map (λ a. c.ListEdit which (Add a)) (address_of text)
    else (if bytes_eq verb (codes "DEL_MAC") then option_map (λ a. c.ListEdit which (Remove a))
    (address_of text) else None)

abbrev pub list_command : Which → List ℕ → Option Command
list_command which text = list_with which (word text) (behind text)

-- the command of a first word and what stands behind the blank after it
abbrev pub command_with : Word → Option (List ℕ) → Option Command
command_with w.Ping None = Some c.Ping
command_with w.Status None = Some c.Status
command_with w.StaFirst None = Some c.StaFirst
command_with (w.Sta) None = None
command_with (w.StaNext) None = None
command_with (w.Deauthenticate) None = None
command_with (w.Disassociate) None = None
command_with (w.List which) None = None
command_with w.Ping (Some text) = None
command_with w.Status (Some text) = None
command_with w.StaFirst (Some text) = None
command_with w.Sta (Some text) = option_map c.Sta (address_of text)
command_with w.StaNext (Some text) = option_map c.StaNext (address_of text)
command_with w.Deauthenticate (Some text) = option_map (λ d. c.Deauthenticate d.0 d.1) (dismissal_of text)
command_with w.Disassociate (Some text) = option_map (λ d. c.Disassociate d.0 d.1) (dismissal_of text)
command_with (w.List which) (Some text) = list_command which text

-- an unknown word; else what it says, if it says anything
abbrev pub value_or_fail : {A : Type 0} → Option A → Result A Refusal
value_or_fail None = Err Fail
value_or_fail (Some command) = Ok command

abbrev pub command_after : Option Word → Option (List ℕ) → Result Command Refusal
command_after None rest = Err Unknown
command_after (Some first) rest = value_or_fail (command_with first rest)

abbrev pub command_of : List ℕ → Result Command Refusal
command_of text = command_after (word_of (word text)) (behind text)

abbrev pub at_interface : Option (List ℕ) → Result Command Refusal → Result (Option (List ℕ) × Command) Refusal
at_interface name (Ok command) = Ok (name, command)
at_interface name (Err why) = Err why

abbrev pub read_line : List ℕ → Result (Option (List ℕ) × Command) Refusal
read_line line = at_interface (split_prefix line).0 (command_of (split_prefix line).1)

abbrev pub line_outcome : List ℕ → Result (Option (List ℕ) × Command) Refusal
line_outcome line = if nat_lt MAX_COMMAND (length line) then Err Fail else read_line line

abbrev pub outcome : List ℕ → Result (Option (List ℕ) × Command) Refusal
outcome bytes = line_outcome (line_of bytes)
