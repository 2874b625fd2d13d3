-- Which bytes are which command: the table of commands, as a relation between bytes and what they say.
use Rattle.std.specs.Prelude.{◌≡◌, ◌≢◌, ℕ, ◌<◌, ◌≤◌, ◌⊎◌, List, [], ◌∷◌, ◌++◌, length, codes, Option, Some, None, Result, Ok, Err}
use Rattle.std.specs.List.{AllByRecursion}
use Rattle.std.specs.Option.{option_copied}
use Rattle.apd_base.specs.Addr.{address_of}
use Rattle.apd_base.specs.Text.{blank, decimal_number}
use Rattle.apd_base.specs.declared.limits.TheConstants.{MAX_COMMAND}
use Rattle.apd_base.specs.declared.address.Addr.{Addr}
use Rattle.apd_base.specs.declared.station.Which.{Which}
use Rattle.apd_base.specs.declared.station.Which.TheVariants.{Accept, Deny}
use Rattle.apd_frame.specs.declared.codes.Reason.{Reason}
use Rattle.apd_event.specs.declared.event.Edit.{Edit}
use Rattle.apd_event.specs.declared.event.Edit.TheVariants.{Add, Remove, Clear}
use Rattle.apd_ctrl.specs.declared.command.Command.{Command}
use Rattle.apd_ctrl.specs.declared.command.Command.TheVariants as c
use Rattle.apd_ctrl.specs.declared.parser.Parsed.{Parsed}
use Rattle.apd_ctrl.specs.declared.parser.Parsed.TheVariants as p
use Rattle.apd_ctrl.specs.declared.parser.Refusal.{Refusal}
use Rattle.apd_ctrl.specs.declared.parser.Refusal.TheVariants.{Unknown, Fail}
use Rattle.apd_ctrl.specs.declared.word.Word.{Word}
use Rattle.apd_ctrl.specs.Words.{spelling}

-- some words, and behind them what P says
abbrev pub Then : List ℕ → (List ℕ → Type 0) → List ℕ → Type 0
Then front P text = (rest : List ℕ) × (text ≡ front ++ rest) × P rest

abbrev pub IsAddress : Addr → List ℕ → Type 0
IsAddress a text = address_of text ≡ Some a

-- 1 to 5 decimal digits that write a number from 0 to 65535
abbrev pub IsReasonNumber : ℕ → List ℕ → Type 0
IsReasonNumber n text = decimal_number 5 65535 text ≡ Some n

-- behind an address: nothing for the reason 2, or ' reason=' and the number
abbrev pub IsReason : Reason → List ℕ → Type 0
IsReason reason text = ((text ≡ []) × (reason.0 ≡ 2)) ⊎ Then (codes " reason=") (IsReasonNumber reason.0) text

-- an address, and a reason
abbrev pub IsDismissal : Addr → Reason → List ℕ → Type 0
IsDismissal to reason text = (address : List ℕ) × IsAddress to address × Then address (IsReason reason) text

abbrev pub IsEdit : Edit → List ℕ → Type 0
IsEdit (Add a) text = Then (codes "ADD_MAC ") (IsAddress a) text
IsEdit (Remove a) text = Then (codes "DEL_MAC ") (IsAddress a) text
IsEdit Clear text = text ≡ codes "CLEAR"

abbrev pub list_word : Which → List ℕ
list_word Accept = codes "ACCEPT_ACL "
list_word Deny = codes "DENY_ACL "

-- bytes say a command: the lines of the table
abbrev pub Says : List ℕ → Command → Type 0
Says text c.Ping = text ≡ codes "PING"
Says text c.Status = text ≡ codes "STATUS"
Says text (c.Sta a) = Then (codes "STA ") (IsAddress a) text
Says text c.StaFirst = text ≡ codes "STA-FIRST"
Says text (c.StaNext a) = Then (codes "STA-NEXT ") (IsAddress a) text
Says text (c.Deauthenticate to reason) = Then (codes "DEAUTHENTICATE ") (IsDismissal to reason) text
Says text (c.Disassociate to reason) = Then (codes "DISASSOCIATE ") (IsDismissal to reason) text
Says text (c.ListEdit which edit) = Then (list_word which) (IsEdit edit) text
Says text (c.Show which) = Then (list_word which) (λ rest. rest ≡ codes "SHOW") text

-- a blank and what stands behind it, or nothing
abbrev pub after_blank : Option (List ℕ) → List ℕ
after_blank None = []
after_blank (Some rest) = blank ∷ rest

-- the first word is a listed one
abbrev pub IsListed : List ℕ → Type 0
IsListed text = (word : Word) × (rest : Option (List ℕ)) × (text ≡ spelling word ++ after_blank rest)

abbrev pub HasNoBlank : List ℕ → Type 0
HasNoBlank name = AllByRecursion (λ b. b ≢ blank) name

-- 'IFNAME=', a name and a blank stand in front of the rest
abbrev pub IsPrefixed : List ℕ → List ℕ → List ℕ → Type 0
IsPrefixed line name rest = HasNoBlank name × (line ≡ codes "IFNAME=" ++ name ++ blank ∷ rest)

-- a line names an interface or none, and the rest is the command
abbrev pub IsSplit : List ℕ → Option (List ℕ) → List ℕ → Type 0
IsSplit line (Some name) text = IsPrefixed line name text
IsSplit line None text = (text ≡ line) × ((name rest : List ℕ) → ¬ (IsPrefixed line name rest))

-- bytes are a line and a newline; or the line alone, and no newline ends it
abbrev pub IsLine : List ℕ → List ℕ → Type 0
IsLine bytes line = (bytes ≡ line ++ codes "\n") ⊎ ((bytes ≡ line) × ((front : List ℕ) → line ≢ front ++ codes "\n"))

-- the word is unknown; or it is known, and no line of the table is said
abbrev pub IsRefused : List ℕ → Refusal → Type 0
IsRefused text Unknown = ¬ (IsListed text)
IsRefused text Fail = IsListed text × ((command : Command) → ¬ (Says text command))

-- what a line of at most 4,096 bytes is
abbrev pub IsReadAs : List ℕ → Result (Option (List ℕ) × Command) Refusal → Type 0
IsReadAs line (Ok read) = (text : List ℕ) × IsSplit line read.0 text × Says text read.1
IsReadAs line (Err why) = (name : Option (List ℕ)) × (text : List ℕ) × IsSplit line name text × IsRefused text why

-- what a line is: one that is too long fails whatever it says
abbrev pub IsLineOutcome : List ℕ → Result (Option (List ℕ) × Command) Refusal → Type 0
IsLineOutcome line outcome =
    ((length line ≤ MAX_COMMAND) × IsReadAs line outcome) ⊎ ((MAX_COMMAND < length line) × (outcome ≡ Err Fail))

-- what bytes are as a command: what their line is
abbrev pub IsOutcome : List ℕ → Result (Option (List ℕ) × Command) Refusal → Type 0
IsOutcome bytes outcome = (line : List ℕ) × IsLine bytes line × IsLineOutcome line outcome

-- an answer of the parser, with its name written out: a definition can't make a slice
abbrev pub outcome_of : Parsed → Result (Option (List ℕ) × Command) Refusal
outcome_of p.Unknown = Err Unknown
outcome_of p.Fail = Err Fail
outcome_of (p.Command interface command) = Ok (option_copied interface, command)

-- the reply to what is refused
abbrev pub text_of_refusal : Refusal → List ℕ
text_of_refusal Unknown = codes "UNKNOWN COMMAND\n"
text_of_refusal Fail = codes "FAIL\n"

-- the reply to what is no command
abbrev pub refusal_text : Result (Option (List ℕ) × Command) Refusal → Option (List ℕ)
refusal_text (Ok read) = None
refusal_text (Err why) = Some (text_of_refusal why)
