-- The lines of a script, and what each says (own format).
use Rattle.std.specs.Prelude.{◌≡◌, ℕ, ◌<◌, ◌⊎◌, not, List, [], ◌++◌, length, drop, filter, codes, None, Some, Ok, Option, IfSome}
use Rattle.std.specs.List.{AllByRecursion, before_first}
use Rattle.std.specs.Io.BufRead.{take_through, DropsThrough}
use Rattle.hex.specs.Hex.{decode_of}
use Rattle.apd_base.specs.Text.{decimal_number, is_blank, newline}
use Rattle.apd_base.specs.declared.moment.Moment.{Moment}
use Rattle.apd_conf.specs.declared.conf.Conf.{Conf}
use Rattle.apd_conf.specs.Confs.{conf_named}
use Rattle.apd_ctrl.specs.Grammar.{Then}
use Rattle.apd_script.specs.declared.script.line.Line.{Line}
use Rattle.apd_script.specs.declared.script.line.Line.TheVariants as line

-- the bytes up to a newline, and with it, are read of what is left, or all of it
pub record IsLineRead (left next : Option (List ℕ)) (bytes : List ℕ) : Type 0 where
  pub taken : IfSome left (λ text. bytes ≡ take_through newline text)
  pub dropped : DropsThrough left next newline

-- 1 to 20 decimal digits that write a number below 2^64
abbrev pub IsMoment : Moment → List ℕ → Type 0
IsMoment m text = decimal_number 20 18446744073709551615 text ≡ Some m.0

abbrev pub without_blanks : List ℕ → List ℕ
without_blanks text = filter (λ b. not (is_blank b)) text

-- the name of an interface, up to the first blank, and then hexadecimal digits of either case, two for each byte of a
-- frame, with any blanks among them
abbrev pub IsReception : List ℕ → List ℕ → List ℕ → Type 0
IsReception interface frame text =
    (interface ≡ before_first is_blank text) × (decode_of (without_blanks (drop (length interface) text)) ≡ Ok frame)

-- what a line may say
pub data Said : Type 0 where
  Empty : Said
  -- at this interface this frame was received
  Received : List ℕ → List ℕ → Said
  Tick : Moment → Said
  Command : List ℕ → Said
  Take : Said
  Call : Said
  Publish : Said
  Hand : Said
  Flush : Said
  Stop : Said

-- a text says it
abbrev pub Says : List ℕ → Said → Type 0
Says text Empty = text ≡ []
Says text (Received interface frame) = Then (codes "rx ") (IsReception interface frame) text
Says text (Tick m) = Then (codes "tick ") (IsMoment m) text
Says text (Command command) = ((text ≡ codes "cmd") × (command ≡ [])) ⊎ (text ≡ codes "cmd " ++ command)
Says text Take = text ≡ codes "take"
Says text Call = text ≡ codes "call"
Says text Publish = text ≡ codes "publish"
Says text Hand = text ≡ codes "hand"
Says text Flush = text ≡ codes "flush"
Says text Stop = text ≡ codes "stop"

abbrev pub saying_of : Line → Said
saying_of line.Empty = Empty
saying_of (line.Received interface frame) = Received interface.now frame
saying_of (line.Tick m) = Tick m
saying_of (line.Command command) = Command command.now
saying_of line.Take = Take
saying_of line.Call = Call
saying_of line.Publish = Publish
saying_of line.Hand = Hand
saying_of line.Flush = Flush
saying_of line.Stop = Stop

-- none of these lines is a stop
abbrev pub HaveNoStop : List (List ℕ) → Type 0
HaveNoStop texts = AllByRecursion (λ text. Says text Stop → ⊥) texts

-- a line of one word, or of none
abbrev pub IsWord : Said → Type 0
IsWord (Received interface frame) = ⊥
IsWord (Tick m) = ⊥
IsWord (Command command) = ⊥
IsWord what = Unit {0}

-- what can't be carried out: it is about an interface that is not configured, or a stop for which too few radios are left
abbrev pub IsNotPossible : List Conf → ℕ → Said → Type 0
IsNotPossible confs radios (Received interface frame) = conf_named confs interface ≡ None
IsNotPossible confs radios Stop = radios < length confs
IsNotPossible confs radios what = ⊥

-- a text says nothing, or what can't be carried out
abbrev pub IsBad : List Conf → ℕ → List ℕ → Type 0
IsBad confs radios text = (what : Said) → Says text what → IsNotPossible confs radios what
