-- One reply after another.
use Rattle.std.proofs.Common.{◌≡◌, ℕ, List, [], ◌∷◌, ◌++◌, Option, Some, None, Result, Ok, Err, inl, inr, ⊎_elim, refl, sym, ap, subst, ◌∙◌, append_assoc}
use Rattle.std.specs.Prelude.{IfOk, OnErr, OnOk}
use Rattle.std.proofs.lemmas.List.{append-nil}
use Rattle.apd_core.specs.Core.{CoreState, answer_to_query, ready_for}
use Rattle.apd_core.specs.Invariant.{IsCore}
use Rattle.apd_core.specs.declared.query_answer.Answer.{Answer}
use Rattle.apd_ctrl.specs.declared.command.Query.{Query}
use Rattle.apd_mlme.specs.declared.decision.Out.{Out}
use Rattle.apd_mlme.specs.declared.decision.Out.TheVariants.{Frame, Install, Remove, Text}
use Rattle.apd_mlme.specs.declared.decision.Recipient.{Recipient}
use Rattle.apd_mlme.specs.declared.decision.Recipient.TheVariants.{Control}
use Rattle.apd_control_port.specs.Replied.{Reply, and_replies}
use Rattle.apd_desk.specs.Replying.{AreMade, AreReadyInSomeCore, AreReplied, AreSettled, AreSomeOf, HasReplied, IsAnswerOfSomeCore, IsAtOnce, IsEither}

-- ---- such replies, time after time
module _ (Such : List Reply → Type 0) where
  pub nothing : (old new : Option (List Reply)) → new ≡ old → HasReplied Such old new
  nothing old new same = record { times = []; made = same }

  pub once : (replies : List Reply) (old new : Option (List Reply)) → Such replies → new ≡ and_replies old replies → HasReplied Such old new
  once replies old new such is = record { times = replies ∷ []; made = (old, refl, such, is) }

  -- a port took it, or lost it
  pub sent : {A E : Type 0} (answer : Result A E) (reply : Reply) (old new : Option (List Reply))
      → OnOk answer (new ≡ and_replies old (reply ∷ [])) → OnErr answer (new ≡ old) → Such (reply ∷ []) → HasReplied Such old new
  sent (Ok done) reply old new taken lost such = once (reply ∷ []) old new such taken
  sent (Err fault) reply old new taken lost such = nothing old new lost

  made_on : (before times : List (List Reply)) (x y z : Option (List Reply)) → AreMade Such before x y → AreMade Such times y z
      → AreMade Such (times ++ before) x z
  made_on before [] x y z first next = subst (λ w. AreMade Such before x w) (sym next) first
  made_on before (replies ∷ times) x y z first (mid, rest, such, is) = (mid, made_on before times x y mid first rest, such, is)

  pub replied_on : (x y z : Option (List Reply)) → HasReplied Such x y → HasReplied Such y z → HasReplied Such x z
  replied_on x y z first next = record { times = next.times ++ first.times; made = made_on first.times next.times x y z first.made next.made }

module _ (Such Also : List Reply → Type 0) (so : (replies : List Reply) → Such replies → Also replies) where
  made_as : (times : List (List Reply)) (old new : Option (List Reply)) → AreMade Such times old new → AreMade Also times old new
  made_as [] old new same = same
  made_as (replies ∷ times) old new (mid, rest, such, is) = (mid, made_as times old mid rest, so replies such, is)

  pub replied_as : (old new : Option (List Reply)) → HasReplied Such old new → HasReplied Also old new
  replied_as old new h = record { times = h.times; made = made_as h.times old new h.made }

pub at_once_on : (x y z : Option (List Reply)) → HasReplied IsEither x y → HasReplied IsAtOnce y z → HasReplied IsEither x z
at_once_on x y z first next = replied_on IsEither x y z first (replied_as IsAtOnce IsEither (λ replies such. inl such) y z next)

pub settled_on : (x y z : Option (List Reply)) → HasReplied IsEither x y → HasReplied AreSettled y z → HasReplied IsEither x z
settled_on x y z first next = replied_on IsEither x y z first (replied_as AreSettled IsEither (λ replies such. inr such) y z next)

-- ---- the replies among outs
passed_on : (outs more : List Out) (p q : List Reply) → AreSomeOf p outs → AreSomeOf q more → AreSomeOf (p ++ q) (outs ++ more)
passed_on [] more p q none some = subst (λ (z : List Reply). AreSomeOf (z ++ q) more) (sym none) some
passed_on (Text tag text ∷ outs) more p q some next =
    ⊎_elim (λ left. inl (passed_on outs more p q left next))
    (λ taken. inr (taken.0 ++ q, ap (λ (z : List Reply). z ++ q) taken.1, passed_on outs more taken.0 q taken.2 next)) some
passed_on (Install addr aid ∷ outs) more p q some next = passed_on outs more p q some next
passed_on (Remove addr ∷ outs) more p q some next = passed_on outs more p q some next
passed_on (Frame frame ∷ outs) more p q some next = passed_on outs more p q some next

none_of : (out : Out) → AreSomeOf [] (out ∷ [])
none_of (Text tag text) = inl refl
none_of (Install addr aid) = refl
none_of (Remove addr) = refl
none_of (Frame frame) = refl

replies_on : (old : Option (List Reply)) (p q : List Reply) → and_replies (and_replies old p) q ≡ and_replies old (p ++ q)
replies_on None p q = refl
replies_on (Some before) p q = ap Some (append_assoc before p q)

and_none : (old : Option (List Reply)) → and_replies old [] ≡ old
and_none None = refl
and_none (Some before) = ap Some (append-nil before)

pub none_yet : (old : Option (List Reply)) → AreReplied [] old old
none_yet old = ([], refl, sym (and_none old))

pub replied_next : {A E : Type 0} (answer : Result A E) (tag : ℕ) (said text : List ℕ) (x y : Option (List Reply)) → said ≡ text
    → OnOk answer (y ≡ and_replies x ((tag, said) ∷ [])) → OnErr answer (y ≡ x) → AreReplied (Text tag text ∷ []) x y
replied_next (Ok done) tag said text x y same taken lost =
    ((tag, text) ∷ [], inr ([], refl, refl), taken ∙ ap (λ (t : List ℕ). and_replies x ((tag, t) ∷ [])) same)
replied_next (Err fault) tag said text x y same taken lost = ([], inl refl, lost ∙ sym (and_none x))

-- an out that is no reply, or is passed over
pub not_replied : (out : Out) (x : Option (List Reply)) → AreReplied (out ∷ []) x x
not_replied out x = ([], none_of out, sym (and_none x))

-- the next out
pub and_next : (outs : List Out) (out : Out) (x y z : Option (List Reply)) → AreReplied outs x y → AreReplied (out ∷ []) y z
    → AreReplied (outs ++ out ∷ []) x z
and_next outs out x y z (p, some, is) (q, next, then) =
    (p ++ q, passed_on outs (out ∷ []) p q some next, then ∙ ap (λ w. and_replies w q) is ∙ replies_on x p q)

-- what was ready, and is settled so
pub settled : (outs : List Out) (x y : Option (List Reply)) → AreReadyInSomeCore Control outs → AreReplied outs x y → HasReplied AreSettled x y
settled outs x y ready (replies, some, is) = once AreSettled replies x y (outs, ready, some) is

-- ---- what a shared core tells
pub told : {E : Type 0} (answer : Result Answer E) (core : CoreState) (query : Query) → IfOk answer (λ is. is ≡ answer_to_query core query)
    → IfOk answer IsAnswerOfSomeCore
told (Ok answer) core query is = (core, is ∙ ap (answer_to_query core) (sym (ap (λ (a : Answer). a.query) is)))
told (Err fault) core query is = tt

pub collected : {V E : Type 0} (answer : Result V E) (items : V → List Out) (to : Recipient) (core : CoreState) → IsCore core
    → IfOk answer (λ v. items v ≡ ready_for to core) → IfOk answer (λ v. AreReadyInSomeCore to (items v))
collected (Ok v) items to core sound is = (core, sound, is)
collected (Err short) items to core sound is = tt
