-- What bytes are is what the parser answers.
use Rattle.std.proofs.Common.{◌≡◌, ℕ, ◌-◌, true, false, cond, ◌++◌, List, ◌∷◌, length, Option, Some, None, Result, Ok, Err, inl, inr, refl, sym, ap, ◌∙◌, take, drop, length-append, arith}
use Rattle.std.specs.Prelude.{codes, nat_eq, nat_lt}
use Rattle.std.specs.List.{starts_with, ends_with}
use Rattle.std.proofs.lemmas.Bool.{lt-ltb, le-ltb, ltb-true, ltb-false}
use Rattle.std.proofs.lemmas.Bool.Decides.{Decides-eqb}
use Rattle.std.proofs.lemmas.Slice.Eq.{ends_is}
use Rattle.std.proofs.Math.Seq.{take-append_seam}
use Rattle.apd_base.specs.declared.limits.TheConstants.{MAX_COMMAND}
use Rattle.apd_ctrl.specs.declared.command.Command.{Command}
use Rattle.apd_ctrl.specs.declared.parser.Refusal.{Refusal}
use Rattle.apd_ctrl.specs.declared.parser.Refusal.TheVariants.{Fail}
use Rattle.apd_ctrl.specs.Grammar.{after_blank, IsLine, IsPrefixed, IsSplit, IsReadAs, IsLineOutcome, IsOutcome}
use Rattle.apd_ctrl.specs.Reading.{line_of, word, behind, name_and_rest, split_prefix, command_of, at_interface, read_line, line_outcome, outcome}
use Rattle.apd_ctrl.proofs.WordLemmas.{text_is, word_free, word_joined, behind_joined}
use Rattle.apd_ctrl.proofs.ArgumentLemmas.{split_front}
use Rattle.apd_ctrl.proofs.CommandLemmas.{says-reads, reads-says, refused-so, refusal-reads}

-- a line with a prefix
prefixed-splits : (line name text : List ℕ) → IsPrefixed line name text → split_prefix line ≡ (Some name, text)
prefixed-splits line name text h =
    ap split_prefix h.1
    ∙ (λ i. name_and_rest (codes "IFNAME=" ++ name ++ 32 ∷ text) (word_joined name (Some text) h.0 i) (behind_joined name (Some text) h.0 i))

-- what the front and a blank behind it make a prefix
blank_makes : (line rest : List ℕ) → starts_with nat_eq line (codes "IFNAME=") ≡ true → behind (drop 7 line) ≡ Some rest → IsPrefixed line (word (drop 7 line)) rest
blank_makes line rest front is =
    (word_free (drop 7 line), split_front (codes "IFNAME=") line front ∙ ap (λ t. codes "IFNAME=" ++ t) (text_is (drop 7 line) ∙ ap (λ o. word (drop 7 line) ++ after_blank o) is))

unsplit : (line name text : List ℕ) → IsPrefixed line name text → ¬ (split_prefix line ≡ (None, line))
unsplit line name text h e =
    let some : Some name ≡ None = ap (λ p. p.0) (sym (prefixed-splits line name text h) ∙ e) in
    cc

-- a line is split as it is read
splits : (line : List ℕ) → IsSplit line (split_prefix line).0 (split_prefix line).1
splits line =
    elim (starts_with nat_eq line (codes "IFNAME=")) as (λ b. starts_with nat_eq line (codes "IFNAME=") ≡ b
    → IsSplit line (cond b (name_and_rest line (word (drop 7 line)) (behind (drop 7 line))) (None, line)).0 (cond b (name_and_rest line (word (drop 7 line)) (behind (drop 7 line))) (None, line)).1) [
      | true ↦ λ front. elim (behind (drop 7 line)) as (λ o. behind (drop 7 line) ≡ o → IsSplit line (name_and_rest line (word (drop 7 line)) o).0 (name_and_rest line (word (drop 7 line)) o).1) [
        | None ↦ λ none. (refl, λ name rest h. unsplit line name rest h (λ i. cond (front i) (name_and_rest line (word (drop 7 line)) (none i)) (None, line)))
        | Some rest ↦ λ is. blank_makes line rest front is
      ] refl
      | false ↦ λ other. (refl, λ name rest h. unsplit line name rest h (λ i. cond (other i) (name_and_rest line (word (drop 7 line)) (behind (drop 7 line))) (None, line)))
    ] refl

-- and in no other way
split-reads : (line : List ℕ) (name : Option (List ℕ)) (text : List ℕ) → IsSplit line name text → split_prefix line ≡ (name, text)
split-reads line (Some name) text h = prefixed-splits line name text h
split-reads line None text h = go (split_prefix line) (splits line) refl
  where
    go : (p : Option (List ℕ) × List ℕ) → IsSplit line p.0 p.1 → split_prefix line ≡ p → split_prefix line ≡ (None, text)
    go (Some name, rest) s e = absurd (h.1 name rest s)
    go (None, rest) s e = e ∙ ap (λ t. (None, t)) (s.0 ∙ sym h.0)

-- what a line is read as
read-reads : (line : List ℕ) (x : Result (Option (List ℕ) × Command) Refusal) → IsReadAs line x → x ≡ read_line line
read-reads line (Ok read) h =
    let split = split-reads line read.0 h.0 h.1 in
    sym ((λ i. at_interface (split i).0 (command_of (split i).1)) ∙ ap (at_interface read.0) (says-reads h.0 read.1 h.2))
read-reads line (Err why) h =
    let split = split-reads line h.0 h.1 h.2 in
    sym ((λ i. at_interface (split i).0 (command_of (split i).1)) ∙ ap (at_interface h.0) (refusal-reads h.1 why h.3))

reads-read : (line : List ℕ) → IsReadAs line (read_line line)
reads-read line = go (command_of (split_prefix line).1) refl
  where
    go : (r : Result Command Refusal) → command_of (split_prefix line).1 ≡ r → IsReadAs line (at_interface (split_prefix line).0 r)
    go (Ok command) e = ((split_prefix line).1, splits line, reads-says (split_prefix line).1 command e)
    go (Err why) e = ((split_prefix line).0, (split_prefix line).1, splits line, refused-so (split_prefix line).1 why e)

-- the line of bytes is the one that there is
line_there : (bytes : List ℕ) → IsLine bytes (line_of bytes)
line_there bytes =
    let ends = ends_is Decides-eqb bytes (codes "\n") (ends_with nat_eq bytes (codes "\n")) refl in
    elim (ends_with nat_eq bytes (codes "\n")) as (λ t. ends_with nat_eq bytes (codes "\n") ≡ t → IsLine bytes (cond t (take (length bytes - 1) bytes) bytes)) [
      | true ↦ λ t. inl (ends.0 t)
      | false ↦ λ t. inr (refl, λ front e. let yes = ends.1 front e in cc)
    ] refl

line_only : (bytes line : List ℕ) → IsLine bytes line → line ≡ line_of bytes
line_only bytes line (inl is) =
    let yes = (ends_is Decides-eqb bytes (codes "\n") _ refl).1 line is in
    let long : length line ≡ length bytes - 1 = omega (arith, ap length is, length-append line (codes "\n")) in
    sym (ap (λ t. cond t (take (length bytes - 1) bytes) bytes) yes ∙ ap (λ n. take n bytes) (sym long) ∙ ap (take (length line)) is ∙ take-append_seam line (codes "\n"))
line_only bytes line (inr is) = sym is.0 ∙ elim (line_there bytes) [ inl more ↦ absurd (is.1 (line_of bytes) (sym is.0 ∙ more)) | inr same ↦ same.0 ]

-- what a line is
line_reads : (line : List ℕ) (x : Result (Option (List ℕ) × Command) Refusal) → IsLineOutcome line x → x ≡ line_outcome line
line_reads line x (inl h) = read-reads line x h.1 ∙ sym (ap (λ b. cond b (Err Fail) (read_line line)) (le-ltb MAX_COMMAND (length line) h.0))
line_reads line x (inr h) = h.1 ∙ sym (ap (λ b. cond b (Err Fail) (read_line line)) (lt-ltb MAX_COMMAND (length line) h.0))

reads_line : (line : List ℕ) → IsLineOutcome line (line_outcome line)
reads_line line =
    elim (nat_lt MAX_COMMAND (length line)) as (λ b. nat_lt MAX_COMMAND (length line) ≡ b → IsLineOutcome line (cond b (Err Fail) (read_line line))) [
      | true ↦ λ long. inr (ltb-true MAX_COMMAND (length line) long, refl)
      | false ↦ λ short. inl (ltb-false MAX_COMMAND (length line) short, reads-read line)
    ] refl

-- the outcome of bytes is the one that holds
pub only : (bytes : List ℕ) (x : Result (Option (List ℕ) × Command) Refusal) → IsOutcome bytes x → x ≡ outcome bytes
only bytes x h = line_reads h.0 x h.2 ∙ ap line_outcome (line_only bytes h.0 h.1)

pub there : (bytes : List ℕ) → IsOutcome bytes (outcome bytes)
there bytes = (line_of bytes, line_there bytes, reads_line (line_of bytes))
