-- How far a recording has been read.
use Rattle.std.proofs.Common.{◌≡◌, ℕ, ◌+◌, List, [], ◌∷◌, ◌++◌, length, sym, ap, ◌∙◌, arith}
use Rattle.apd_radio.specs.declared.call.Call.{Call}
use Rattle.apd_radio.specs.Calls.{IsLineOf}
use Rattle.apd_base.specs.Text.{lines}
use Rattle.apd_radio.specs.Recordings.{AreLinesOf, frames_of, frames_in}
use Rattle.std.proofs.lemmas.List.{append_assoc, length-append, flat_map_more}

-- the lines in front of the rest stand for calls, in which these frames were received
pub record IsRead (text rest : List ℕ) (line : ℕ) (frames : List (List ℕ)) : Type 0 where
  pub front : List (List ℕ)
  pub calls : List Call
  pub good : AreLinesOf calls front
  pub all : lines text ≡ front ++ lines rest
  pub number : line ≡ length front
  pub received : frames ≡ frames_of calls

AreLinesOf-append : (calls more : List Call) (front rest : List (List ℕ)) → AreLinesOf calls front → AreLinesOf more rest → AreLinesOf (calls ++ more) (front ++ rest)
AreLinesOf-append [] more [] rest g h = h
AreLinesOf-append [] more (line ∷ front) rest g h = absurd g
AreLinesOf-append (call ∷ calls) more [] rest g h = absurd g
AreLinesOf-append (call ∷ calls) more (line ∷ front) rest g h = (g.0, AreLinesOf-append calls more front rest g.1 h)

one_more : (calls : List Call) (call : Call) → frames_of calls ++ frames_in call ≡ frames_of (calls ++ call ∷ [])
one_more calls call = flat_map_more frames_in [] calls call

-- one line more
pub reads_on : (text rest : List ℕ) (line : ℕ) (frames : List (List ℕ)) → IsRead text rest line frames → (first after : List ℕ) → lines rest ≡ first ∷ lines after
    → (call : Call) → IsLineOf call first → (new : List (List ℕ)) → new ≡ frames ++ frames_in call → IsRead text after (line + 1) new
reads_on text rest line frames r first after e call form new n = record {
  front = r.front ++ first ∷ [];
  calls = r.calls ++ call ∷ [];
  good = AreLinesOf-append r.calls (call ∷ []) r.front (first ∷ []) r.good (form, tt);
  all = r.all ∙ ap (λ ls. r.front ++ ls) e ∙ sym (append_assoc r.front (first ∷ []) (lines after));
  number = omega (arith, length-append r.front (first ∷ []), r.number);
  received = n ∙ ap (λ fs. fs ++ frames_in call) r.received ∙ one_more r.calls call;
}
