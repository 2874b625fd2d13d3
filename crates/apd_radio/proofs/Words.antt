-- A line that begins with a word stands for the calls of that word alone.
use Rattle.std.proofs.Common.{◌≡◌, ℕ, List, ◌++◌, get_or, subst, sym, ap, ◌∙◌, arith}
use Rattle.std.specs.Prelude.{codes}
use Rattle.std.proofs.lemmas.List.{append_cancel_left}
use Rattle.apd_base.specs.declared.address.Addr.{Addr}
use Rattle.apd_radio.specs.declared.call.Call.{Call}
use Rattle.apd_radio.specs.declared.call.Call.TheVariants.{Received, Installed, Removed, Sent, Down}
use Rattle.apd_radio.specs.Calls.{IsFrame, IsStation, IsLineOf}

-- the first bytes of equal lines are equal, and the second ones
pub first : (a b line : List ℕ) → line ≡ a → line ≡ b → get_or a 0 0 ≡ get_or b 0 0
first a b line e f = ap (λ xs. get_or xs 0 0) (sym e ∙ f)

pub second : (a b line : List ℕ) → line ≡ a → line ≡ b → get_or a 1 0 ≡ get_or b 1 0
second a b line e f = ap (λ xs. get_or xs 1 0) (sym e ∙ f)

pub only_received : (line text : List ℕ) → line ≡ codes "rx" ++ text → ((frame : List ℕ) → IsFrame frame text → ⊥) → (call : Call) → IsLineOf call line → ⊥
only_received line text e none (Received frame) (rest, p, f) = none frame (subst (IsFrame frame) (append_cancel_left (codes "rx") rest text (sym p ∙ e)) f)
only_received line text e none (Installed addr aid) (rest, p, f) = let n = first (codes "rx" ++ text) (codes "install " ++ rest) line e p in absurd (omega arith)
only_received line text e none (Removed addr) (rest, p, f) = let n = second (codes "rx" ++ text) (codes "remove " ++ rest) line e p in absurd (omega arith)
only_received line text e none (Sent frame) (rest, p, f) = let n = first (codes "rx" ++ text) (codes "tx" ++ rest) line e p in absurd (omega arith)
only_received line text e none Down p = let n = first (codes "rx" ++ text) (codes "down") line e p in absurd (omega arith)

pub only_sent : (line text : List ℕ) → line ≡ codes "tx" ++ text → ((frame : List ℕ) → IsFrame frame text → ⊥) → (call : Call) → IsLineOf call line → ⊥
only_sent line text e none (Sent frame) (rest, p, f) = none frame (subst (IsFrame frame) (append_cancel_left (codes "tx") rest text (sym p ∙ e)) f)
only_sent line text e none (Installed addr aid) (rest, p, f) = let n = first (codes "tx" ++ text) (codes "install " ++ rest) line e p in absurd (omega arith)
only_sent line text e none (Removed addr) (rest, p, f) = let n = first (codes "tx" ++ text) (codes "remove " ++ rest) line e p in absurd (omega arith)
only_sent line text e none (Received frame) (rest, p, f) = let n = first (codes "tx" ++ text) (codes "rx" ++ rest) line e p in absurd (omega arith)
only_sent line text e none Down p = let n = first (codes "tx" ++ text) (codes "down") line e p in absurd (omega arith)

pub only_installed : (line text : List ℕ) → line ≡ codes "install " ++ text → ((addr : Addr) (aid : ℕ) → IsStation addr aid text → ⊥) → (call : Call) → IsLineOf call line → ⊥
only_installed line text e none (Installed addr aid) (rest, p, f) = none addr aid (subst (IsStation addr aid) (append_cancel_left (codes "install ") rest text (sym p ∙ e)) f)
only_installed line text e none (Sent frame) (rest, p, f) = let n = first (codes "install " ++ text) (codes "tx" ++ rest) line e p in absurd (omega arith)
only_installed line text e none (Removed addr) (rest, p, f) = let n = first (codes "install " ++ text) (codes "remove " ++ rest) line e p in absurd (omega arith)
only_installed line text e none (Received frame) (rest, p, f) = let n = first (codes "install " ++ text) (codes "rx" ++ rest) line e p in absurd (omega arith)
only_installed line text e none Down p = let n = first (codes "install " ++ text) (codes "down") line e p in absurd (omega arith)
