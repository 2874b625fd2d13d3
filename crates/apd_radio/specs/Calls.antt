-- The calls of a radio that succeeded, each as a line of a recording (own format).
use Rattle.std.specs.Prelude.{◌≡◌, ℕ, ◌<◌, ◌^◌, ◌⊎◌, List, [], ◌∷◌, ◌++◌, Some, Ok, codes}
use Rattle.std.specs.Fmt.{decimal}
use Rattle.hex.specs.Hex.{IsBytes, decode_of, encode_lower}
use Rattle.apd_base.specs.declared.address.Addr.{Addr}
use Rattle.apd_base.specs.Addr.{IsAddr, address_of, text_of}
use Rattle.apd_base.specs.Text.{blank, decimal_number}
use Rattle.apd_radio.specs.declared.call.Call.{Call}
use Rattle.apd_radio.specs.declared.call.Call.TheVariants.{Received, Installed, Removed, Sent, Down}

-- the word, and something of this form
abbrev pub HasForm : List ℕ → (List ℕ → Type 0) → List ℕ → Type 0
HasForm word form line = (rest : List ℕ) × (line ≡ word ++ rest) × form rest

-- a blank and hexadecimal digits of either case, two for each byte; nothing at all is the empty frame too
abbrev pub IsFrame : List ℕ → List ℕ → Type 0
IsFrame frame text =
    ((text ≡ []) × (frame ≡ [])) ⊎ ((digits : List ℕ) × (text ≡ blank ∷ digits) × (decode_of digits ≡ Ok frame))

-- one to five decimal digits that write at most 65535
abbrev pub IsIdentifier : ℕ → List ℕ → Type 0
IsIdentifier aid digits = decimal_number 5 65535 digits ≡ Some aid

-- an address, a blank and an identifier
abbrev pub IsStation : Addr → ℕ → List ℕ → Type 0
IsStation addr aid text = (first digits : List ℕ) × (text ≡ first ++ blank ∷ digits) × (address_of first ≡ Some addr)
    × IsIdentifier aid digits

-- the line, without its newline, stands for the call
abbrev pub IsLineOf : Call → List ℕ → Type 0
IsLineOf (Received frame) line = HasForm (codes "rx") (IsFrame frame) line
IsLineOf (Installed addr aid) line = HasForm (codes "install ") (IsStation addr aid) line
IsLineOf (Removed addr) line = HasForm (codes "remove ") (λ text. address_of text ≡ Some addr) line
IsLineOf (Sent frame) line = HasForm (codes "tx") (IsFrame frame) line
IsLineOf Down line = line ≡ codes "down"

-- the line that is written for a call, without its newline: digits in lower case, no digit too many
abbrev pub line_of : Call → List ℕ
line_of (Received frame) = codes "rx " ++ encode_lower frame
line_of (Installed addr aid) = codes "install " ++ text_of addr ++ blank ∷ decimal aid
line_of (Removed addr) = codes "remove " ++ text_of addr
line_of (Sent frame) = codes "tx " ++ encode_lower frame
line_of Down = codes "down"

-- the calls that there can be: of bytes, of addresses of six bytes, of identifiers of 16 bits
abbrev pub IsCall : Call → Type 0
IsCall (Received frame) = IsBytes frame
IsCall (Installed addr aid) = IsAddr addr × (aid < 2 ^ 16)
IsCall (Removed addr) = IsAddr addr
IsCall (Sent frame) = IsBytes frame
IsCall Down = Unit {0}
