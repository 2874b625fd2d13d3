-- A text says one thing as a line, or nothing.
use Rattle.std.proofs.Common.{◌≡◌, ℕ, inl, inr, List, [], ◌++◌, get_or, length, drop, Option, None, Some, Result, Ok, Err, subst, sym, ap, ◌∙◌}
use Rattle.std.specs.Prelude.{◌==◌, codes, if◌then◌else◌}
use Rattle.std.specs.List.{before_first}
use Rattle.std.proofs.lemmas.List.{append_cancel_left}
use Rattle.hex.specs.Hex.{decode_of}
use Rattle.apd_base.specs.Text.{decimal_number, is_blank}
use Rattle.apd_base.specs.declared.moment.Moment.{Moment}
use Rattle.apd_script.specs.Lines.{IsMoment, IsReception, Said, Empty, Received, Tick, Command, Take, Call, Publish, Hand, Flush, Stop, Says, without_blanks}

abbrev moment_in : Option ℕ → Moment
moment_in None = record { 0 = 0 }
moment_in (Some n) = record { 0 = n }

abbrev bytes_in : {E : Type 0} → Result (List ℕ) E → List ℕ
bytes_in (Ok bytes) = bytes
bytes_in (Err why) = []

abbrev moment_of : List ℕ → Moment
moment_of digits = moment_in (decimal_number 20 18446744073709551615 digits)

abbrev frame_behind : List ℕ → List ℕ → List ℕ
frame_behind interface text = bytes_in (decode_of (without_blanks (drop (length interface) text)))

abbrev reception_of : List ℕ → Said
reception_of text = Received (before_first is_blank text) (frame_behind (before_first is_blank text) text)

-- what a text says by its third byte, which differs from line to line
abbrev by_third : ℕ → List ℕ → Said
by_third third text =
    if third == 32 then reception_of (drop 3 text) else
    if third == 99 then Tick (moment_of (drop 5 text)) else
    if third == 100 then Command (drop 4 text) else
    if third == 107 then Take else
    if third == 108 then Call else
    if third == 98 then Publish else
    if third == 110 then Hand else
    if third == 117 then Flush else
    if third == 111 then Stop else Empty

abbrev meant : List ℕ → Said
meant text = by_third (get_or text 2 0) text

-- what a text says is that
says_meant : (text : List ℕ) (what : Said) → Says text what → what ≡ meant text
says_meant text Empty p = sym (ap meant p)
says_meant text (Received interface frame) (rest, p, (i, f)) =
    ap (λ bytes. Received interface (bytes_in bytes)) (sym f) ∙ ap (λ (name : List ℕ). Received name (frame_behind name rest)) i ∙ sym (ap meant p)
says_meant text (Tick m) (rest, p, f) = ap (λ (n : Option ℕ). Tick (moment_in n)) (sym f) ∙ sym (ap meant p)
says_meant text (Command command) (inl (p, q)) = ap Command q ∙ sym (ap meant p)
says_meant text (Command command) (inr p) = sym (ap meant p)
says_meant text Take p = sym (ap meant p)
says_meant text Call p = sym (ap meant p)
says_meant text Publish p = sym (ap meant p)
says_meant text Hand p = sym (ap meant p)
says_meant text Flush p = sym (ap meant p)
says_meant text Stop p = sym (ap meant p)

pub one_said : (text : List ℕ) (a b : Said) → Says text a → Says text b → a ≡ b
one_said text a b p q = says_meant text a p ∙ sym (says_meant text b q)

-- a line that begins with `tick ` says a moment or nothing
pub only_tick : (text digits : List ℕ) → text ≡ codes "tick " ++ digits → ((m : Moment) → IsMoment m digits → ⊥) → (what : Said) → Says text what → ⊥
only_tick text digits e none what p =
    let (rest, q, f) = subst (λ w. Says text w) (says_meant text what p ∙ ap meant e) p in
    none (moment_of digits) (subst (IsMoment (moment_of digits)) (append_cancel_left (codes "tick ") rest digits (sym q ∙ e)) f)

-- a line that begins with `rx ` says a reception or nothing
pub only_reception : (text behind : List ℕ) → text ≡ codes "rx " ++ behind → ((interface frame : List ℕ) → IsReception interface frame behind → ⊥) → (what : Said) → Says text what → ⊥
only_reception text behind e none what p =
    let interface = before_first is_blank behind in
    let frame = frame_behind interface behind in
    let (rest, q, f) = subst (λ w. Says text w) (says_meant text what p ∙ ap meant e) p in
    none interface frame (subst (IsReception interface frame) (append_cancel_left (codes "rx ") rest behind (sym q ∙ e)) f)
