-- What is read of the bytes behind the prefix is what the grammar says.
use Rattle.std.proofs.Common.{◌≡◌, ℕ, true, ◌++◌, List, Option, Some, None, Result, Ok, Err, refl, sym, ap, subst, ◌∙◌}
use Rattle.std.specs.Prelude.{codes, not}
use Rattle.std.specs.List.{list_all}
use Rattle.std.specs.Option.{option_map}
use Rattle.std.specs.Str.{bytes_eq}
use Rattle.std.proofs.lemmas.Option.{same_Some}
use Rattle.std.proofs.lemmas.Slice.Eq.{bytes_eq-Decides}
use Rattle.apd_base.specs.declared.address.Addr.{Addr}
use Rattle.apd_base.specs.declared.station.Which.TheVariants.{Accept, Deny}
use Rattle.apd_base.specs.Addr.{address_of}
use Rattle.apd_base.specs.Text.{is_blank}
use Rattle.apd_frame.specs.declared.codes.Reason.{Reason}
use Rattle.apd_frame.proofs.FirstReason.{found_passes}
use Rattle.apd_ctrl.specs.declared.command.Command.{Command}
use Rattle.apd_ctrl.specs.declared.command.Command.TheVariants as c
use Rattle.apd_ctrl.specs.declared.parser.Refusal.{Refusal}
use Rattle.apd_ctrl.specs.declared.parser.Refusal.TheVariants.{Unknown, Fail}
use Rattle.apd_ctrl.specs.declared.word.Word.{Word}
use Rattle.apd_ctrl.specs.declared.word.Word.TheVariants as w
use Rattle.apd_ctrl.specs.Words.{spelling, words, word_of, word_among}
use Rattle.apd_ctrl.specs.Grammar.{after_blank, IsListed, IsRefused, Says}
use Rattle.apd_ctrl.specs.Reading.{word, behind, dismissal_of, command_with, value_or_fail, command_after, command_of}
use Rattle.apd_ctrl.proofs.WordLemmas.{text_is, word_joined, behind_joined, free_from}
use Rattle.apd_ctrl.proofs.ArgumentLemmas.{mapped, dismissal-reads, dismissal-says, edit-reads, show-reads, list-says}

-- a word that is found is spelled so, and each is found by its spelling
known_spelled : (text : List ℕ) (k : Word) → word_of text ≡ Some k → text ≡ spelling k
unfolding word_of word_among
known_spelled text k e = (bytes_eq-Decides text (spelling k)).0 (found_passes (λ word. bytes_eq text (spelling word)) words k e)

spelled_known : (k : Word) → word_of (spelling k) ≡ Some k
unfolding word_of word_among
spelled_known w.Ping = refl
spelled_known w.Status = refl
spelled_known w.Sta = refl
spelled_known w.StaFirst = refl
spelled_known w.StaNext = refl
spelled_known w.Deauthenticate = refl
spelled_known w.Disassociate = refl
spelled_known (w.List Accept) = refl
spelled_known (w.List Deny) = refl

spelled_free : (k : Word) → list_all (λ b. not (is_blank b)) (spelling k) ≡ true
spelled_free w.Ping = refl
spelled_free w.Status = refl
spelled_free w.Sta = refl
spelled_free w.StaFirst = refl
spelled_free w.StaNext = refl
spelled_free w.Deauthenticate = refl
spelled_free w.Disassociate = refl
spelled_free (w.List Accept) = refl
spelled_free (w.List Deny) = refl

-- a listed word in front is the word that is read, with what stands behind it
module _ (k : Word) (rest : Option (List ℕ)) (text : List ℕ) (is : text ≡ spelling k ++ after_blank rest) where
  first_known : word_of (word text) ≡ Some k
  first_known = ap (λ t. word_of (word t)) is ∙ ap word_of (word_joined (spelling k) rest (free_from (spelling k) (spelled_free k))) ∙ spelled_known k

  rest_known : behind text ≡ rest
  rest_known = ap behind is ∙ behind_joined (spelling k) rest (free_from (spelling k) (spelled_free k))

  read_with : command_of text ≡ value_or_fail (command_with k rest)
  read_with = (λ i. command_after (first_known i) (rest_known i))

-- what is said is read
pub says-reads : (text : List ℕ) (command : Command) → Says text command → command_of text ≡ Ok command
says-reads text c.Ping h = read_with w.Ping None text h
says-reads text c.Status h = read_with w.Status None text h
says-reads text (c.Sta a) h = read_with w.Sta (Some h.0) text h.1 ∙ ap (λ o. value_or_fail (option_map c.Sta o)) h.2
says-reads text c.StaFirst h = read_with w.StaFirst None text h
says-reads text (c.StaNext a) h = read_with w.StaNext (Some h.0) text h.1 ∙ ap (λ o. value_or_fail (option_map c.StaNext o)) h.2
says-reads text (c.Deauthenticate to reason) h =
    read_with w.Deauthenticate (Some h.0) text h.1 ∙ ap (λ o. value_or_fail (option_map (λ d. c.Deauthenticate d.0 d.1) o)) (dismissal-reads to reason h.0 h.2)
says-reads text (c.Disassociate to reason) h =
    read_with w.Disassociate (Some h.0) text h.1 ∙ ap (λ o. value_or_fail (option_map (λ d. c.Disassociate d.0 d.1) o)) (dismissal-reads to reason h.0 h.2)
says-reads text (c.ListEdit Accept edit) h = read_with (w.List Accept) (Some h.0) text h.1 ∙ ap value_or_fail (edit-reads Accept edit h.0 h.2)
says-reads text (c.ListEdit Deny edit) h = read_with (w.List Deny) (Some h.0) text h.1 ∙ ap value_or_fail (edit-reads Deny edit h.0 h.2)
says-reads text (c.Show Accept) h = read_with (w.List Accept) (Some h.0) text h.1 ∙ ap value_or_fail (show-reads Accept h.0 h.2)
says-reads text (c.Show Deny) h = read_with (w.List Deny) (Some h.0) text h.1 ∙ ap value_or_fail (show-reads Deny h.0 h.2)

-- what follows a word says it
with-says : (k : Word) (rest : Option (List ℕ)) (command : Command) → command_with k rest ≡ Some command → Says (spelling k ++ after_blank rest) command
with-says w.Ping None command e = subst (Says (codes "PING")) (same_Some c.Ping command e) refl
with-says w.Status None command e = subst (Says (codes "STATUS")) (same_Some c.Status command e) refl
with-says w.StaFirst None command e = subst (Says (codes "STA-FIRST")) (same_Some c.StaFirst command e) refl
with-says w.Sta None command e = cc
with-says w.StaNext None command e = cc
with-says w.Deauthenticate None command e = cc
with-says w.Disassociate None command e = cc
with-says (w.List which) None command e = cc
with-says w.Ping (Some text) command e = cc
with-says w.Status (Some text) command e = cc
with-says w.StaFirst (Some text) command e = cc
with-says w.Sta (Some text) command e = let read = mapped c.Sta (address_of text) command e in subst (Says (codes "STA " ++ text)) read.2 (text, refl, read.1)
with-says w.StaNext (Some text) command e = let read = mapped c.StaNext (address_of text) command e in subst (Says (codes "STA-NEXT " ++ text)) read.2 (text, refl, read.1)
with-says w.Deauthenticate (Some text) command e =
    let read = mapped (λ (d : Addr × Reason). c.Deauthenticate d.0 d.1) (dismissal_of text) command e in
    subst (Says (codes "DEAUTHENTICATE " ++ text)) read.2 (text, refl, dismissal-says (read.0).0 (read.0).1 text read.1)
with-says w.Disassociate (Some text) command e =
    let read = mapped (λ (d : Addr × Reason). c.Disassociate d.0 d.1) (dismissal_of text) command e in
    subst (Says (codes "DISASSOCIATE " ++ text)) read.2 (text, refl, dismissal-says (read.0).0 (read.0).1 text read.1)
with-says (w.List Accept) (Some text) command e = list-says Accept text command e
with-says (w.List Deny) (Some text) command e = list-says Deny text command e

-- what is told
value_or_fail-ok : (o : Option Command) (command : Command) → value_or_fail o ≡ Ok command → o ≡ Some command
value_or_fail-ok None command e = cc
value_or_fail-ok (Some x) command e = cc

value_or_fail-fail : (o : Option Command) (why : Refusal) → value_or_fail o ≡ Err why → why ≡ Fail
value_or_fail-fail None why e = cc
value_or_fail-fail (Some x) why e = cc

-- what a text is, by its first word
known_text : (text : List ℕ) (k : Word) → word_of (word text) ≡ Some k → text ≡ spelling k ++ after_blank (behind text)
known_text text k e = text_is text ∙ ap (λ t. t ++ after_blank (behind text)) (known_spelled (word text) k e)

-- what is read is said
pub reads-says : (text : List ℕ) (command : Command) → command_of text ≡ Ok command → Says text command
reads-says text command e =
    elim (word_of (word text)) as (λ o. word_of (word text) ≡ o → command_after o (behind text) ≡ Ok command → Says text command) [
      | None ↦ λ is e. cc
      | Some k ↦ λ is e. subst (λ t. Says t command) (sym (known_text text k is)) (with-says k (behind text) command (value_or_fail-ok (command_with k (behind text)) command e))
    ] refl e

-- and what is refused is refused for that
listed_known : (text : List ℕ) → IsListed text → (k : Word) × (word_of (word text) ≡ Some k)
listed_known text h = (h.0, first_known h.0 h.1 text h.2)

not_ok : (text : List ℕ) (why : Refusal) → command_of text ≡ Err why → (command : Command) → ¬ (Says text command)
not_ok text why e command h = let ok : command_of text ≡ Ok command = says-reads text command h in cc

pub refused-so : (text : List ℕ) (why : Refusal) → command_of text ≡ Err why → IsRefused text why
refused-so text Unknown e = λ h.
    let known = listed_known text h in
    let after : value_or_fail (command_with known.0 (behind text)) ≡ Err Unknown = sym (ap (λ o. command_after o (behind text)) known.1) ∙ e in
    let fail : Unknown ≡ Fail = value_or_fail-fail (command_with known.0 (behind text)) Unknown after in
    cc
refused-so text Fail e =
    elim (word_of (word text)) as (λ o. word_of (word text) ≡ o → command_after o (behind text) ≡ Err Fail → IsRefused text Fail) [
      | None ↦ λ is e. cc
      | Some k ↦ λ is e'. ((k, behind text, known_text text k is), not_ok text Fail e)
    ] refl e

-- the other way round
pub refusal-reads : (text : List ℕ) (why : Refusal) → IsRefused text why → command_of text ≡ Err why
refusal-reads text why h = go (command_of text) refl why h
  where
    go : (r : Result Command Refusal) → command_of text ≡ r → (why : Refusal) → IsRefused text why → command_of text ≡ Err why
    go (Ok command) e Unknown h =
        absurd (elim (word_of (word text)) as (λ o. word_of (word text) ≡ o → command_after o (behind text) ≡ Ok command → ⊥) [
          | None ↦ λ is e. cc
          | Some k ↦ λ is e. h (k, behind text, known_text text k is)
        ] refl e)
    go (Ok command) e Fail h = absurd (h.1 command (reads-says text command e))
    go (Err Unknown) e Unknown h = e
    go (Err Unknown) e Fail h = absurd (refused-so text Unknown e h.0)
    go (Err Fail) e Unknown h = absurd (h (refused-so text Fail e).0)
    go (Err Fail) e Fail h = e
