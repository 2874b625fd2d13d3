-- A line stands for one call at most.
use Rattle.std.proofs.Common.{◌≡◌, ℕ, inl, inr, List, [], ◌∷◌, ◌++◌, Some, Result, Ok, refl, subst, sym, ap, ◌∙◌, arith}
use Rattle.std.specs.Prelude.{codes}
use Rattle.std.proofs.lemmas.List.{append_cancel_left}
use Rattle.hex.specs.Hex.{decode_of}
use Rattle.hex.specs.declared.error.FromHexError.{FromHexError}
use Rattle.apd_base.specs.declared.address.Addr.{Addr}
use Rattle.apd_base.specs.Addr.{address_of}
use Rattle.apd_base.specs.Text.{decimal_number}
use Rattle.apd_base.proofs.AddrText.{address_length}
use Rattle.apd_base.proofs.Cases.{same_some}
use Rattle.apd_radio.specs.declared.call.Call.{Call}
use Rattle.apd_radio.specs.declared.call.Call.TheVariants.{Received, Installed, Removed, Sent, Down}
use Rattle.apd_radio.specs.Calls.{IsFrame, IsStation, IsLineOf}
use Rattle.apd_radio.specs.Recordings.{AreLinesOf}
use Rattle.apd_radio.proofs.Parts.{first_is, digits_are}
use Rattle.apd_radio.proofs.Words.{first, second}

no_digits : (text digits : List ℕ) → text ≡ [] → text ≡ 32 ∷ digits → ⊥
no_digits text digits e f = let h : [] ≡ 32 ∷ digits = sym e ∙ f in cc

same_digits : (text a b : List ℕ) → text ≡ 32 ∷ a → text ≡ 32 ∷ b → a ≡ b
same_digits text a b e f = let h : 32 ∷ a ≡ 32 ∷ b = sym e ∙ f in cc

same_ok : (a b : List ℕ) → ◌≡◌ {A = Result (List ℕ) FromHexError} (Ok a) (Ok b) → a ≡ b
same_ok a b e = cc

frame_once : (text a b : List ℕ) → IsFrame a text → IsFrame b text → a ≡ b
frame_once text a b (inl (e, f)) (inl (g, h)) = f ∙ sym h
frame_once text a b (inl (e, f)) (inr (d, g, h)) = absurd (no_digits text d e g)
frame_once text a b (inr (d, g, h)) (inl (e, f)) = absurd (no_digits text d e g)
frame_once text a b (inr (d, g, h)) (inr (e, i, j)) = same_ok a b (sym h ∙ ap decode_of (same_digits text d e g i) ∙ j)

text_once : (text : List ℕ) (a b : Addr) → address_of text ≡ Some a → address_of text ≡ Some b → a ≡ b
text_once text a b p q = same_some a b (sym p ∙ q)

station_once : (text : List ℕ) (a b : Addr) (m n : ℕ) → IsStation a m text → IsStation b n text → (a ≡ b) × (m ≡ n)
station_once text a b m n (s, d, e, p, i) (t, f, g, q, j) =
    let same : s ≡ t = sym (first_is text s d e (address_length s a p)) ∙ first_is text t f g (address_length t b q) in
    let digits : d ≡ f = sym (digits_are text s d e (address_length s a p)) ∙ digits_are text t f g (address_length t b q) in
    (text_once t a b (ap address_of (sym same) ∙ p) q, same_some m n (sym i ∙ ap (decimal_number 5 65535) digits ∙ j))

pub call_once : (line : List ℕ) (a b : Call) → IsLineOf a line → IsLineOf b line → a ≡ b
call_once line (Received frame) (Received frame') (r, p, f) (s, q, g) = ap Received (frame_once s frame frame' (subst (IsFrame frame) (append_cancel_left (codes "rx") r s (sym p ∙ q)) f) g)
call_once line (Received frame) (Installed addr' aid') (r, p, f) (s, q, g) = let n = first (codes "rx" ++ r) (codes "install " ++ s) line p q in absurd (omega arith)
call_once line (Received frame) (Removed addr') (r, p, f) (s, q, g) = let n = second (codes "rx" ++ r) (codes "remove " ++ s) line p q in absurd (omega arith)
call_once line (Received frame) (Sent frame') (r, p, f) (s, q, g) = let n = first (codes "rx" ++ r) (codes "tx" ++ s) line p q in absurd (omega arith)
call_once line (Received frame) Down (r, p, f) q = let n = first (codes "rx" ++ r) (codes "down") line p q in absurd (omega arith)
call_once line (Installed addr aid) (Received frame') (r, p, f) (s, q, g) = let n = first (codes "install " ++ r) (codes "rx" ++ s) line p q in absurd (omega arith)
call_once line (Installed addr aid) (Installed addr' aid') (r, p, f) (s, q, g) = let h = station_once s addr addr' aid aid' (subst (IsStation addr aid) (append_cancel_left (codes "install ") r s (sym p ∙ q)) f) g in (λ i. Installed (h.0 i) (h.1 i))
call_once line (Installed addr aid) (Removed addr') (r, p, f) (s, q, g) = let n = first (codes "install " ++ r) (codes "remove " ++ s) line p q in absurd (omega arith)
call_once line (Installed addr aid) (Sent frame') (r, p, f) (s, q, g) = let n = first (codes "install " ++ r) (codes "tx" ++ s) line p q in absurd (omega arith)
call_once line (Installed addr aid) Down (r, p, f) q = let n = first (codes "install " ++ r) (codes "down") line p q in absurd (omega arith)
call_once line (Removed addr) (Received frame') (r, p, f) (s, q, g) = let n = second (codes "remove " ++ r) (codes "rx" ++ s) line p q in absurd (omega arith)
call_once line (Removed addr) (Installed addr' aid') (r, p, f) (s, q, g) = let n = first (codes "remove " ++ r) (codes "install " ++ s) line p q in absurd (omega arith)
call_once line (Removed addr) (Removed addr') (r, p, f) (s, q, g) = ap Removed (text_once s addr addr' (ap address_of (sym (append_cancel_left (codes "remove ") r s (sym p ∙ q))) ∙ f) g)
call_once line (Removed addr) (Sent frame') (r, p, f) (s, q, g) = let n = first (codes "remove " ++ r) (codes "tx" ++ s) line p q in absurd (omega arith)
call_once line (Removed addr) Down (r, p, f) q = let n = first (codes "remove " ++ r) (codes "down") line p q in absurd (omega arith)
call_once line (Sent frame) (Received frame') (r, p, f) (s, q, g) = let n = first (codes "tx" ++ r) (codes "rx" ++ s) line p q in absurd (omega arith)
call_once line (Sent frame) (Installed addr' aid') (r, p, f) (s, q, g) = let n = first (codes "tx" ++ r) (codes "install " ++ s) line p q in absurd (omega arith)
call_once line (Sent frame) (Removed addr') (r, p, f) (s, q, g) = let n = first (codes "tx" ++ r) (codes "remove " ++ s) line p q in absurd (omega arith)
call_once line (Sent frame) (Sent frame') (r, p, f) (s, q, g) = ap Sent (frame_once s frame frame' (subst (IsFrame frame) (append_cancel_left (codes "tx") r s (sym p ∙ q)) f) g)
call_once line (Sent frame) Down (r, p, f) q = let n = first (codes "tx" ++ r) (codes "down") line p q in absurd (omega arith)
call_once line Down (Received frame') p (s, q, g) = let n = first (codes "down") (codes "rx" ++ s) line p q in absurd (omega arith)
call_once line Down (Installed addr' aid') p (s, q, g) = let n = first (codes "down") (codes "install " ++ s) line p q in absurd (omega arith)
call_once line Down (Removed addr') p (s, q, g) = let n = first (codes "down") (codes "remove " ++ s) line p q in absurd (omega arith)
call_once line Down (Sent frame') p (s, q, g) = let n = first (codes "down") (codes "tx" ++ s) line p q in absurd (omega arith)
call_once line Down Down p q = refl

-- and so do lines
pub calls_once : (lines : List (List ℕ)) (a b : List Call) → AreLinesOf a lines → AreLinesOf b lines → a ≡ b
calls_once [] [] [] p q = refl
calls_once [] (x ∷ a) b p q = absurd p
calls_once [] [] (y ∷ b) p q = absurd q
calls_once (line ∷ lines) [] b p q = absurd p
calls_once (line ∷ lines) (x ∷ a) [] p q = absurd q
calls_once (line ∷ lines) (x ∷ a) (y ∷ b) p q = (λ i. call_once line x y p.0 q.0 i ∷ calls_once lines a b p.1 q.1 i)
