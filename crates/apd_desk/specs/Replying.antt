-- What the worker of a control port replied (own).
use Rattle.std.specs.Prelude.{◌≡◌, ◌⊎◌, ℕ, List, [], ◌∷◌, codes, Option}
use Rattle.apd_core.specs.Core.{CoreState, answer_to_query, ready_for}
use Rattle.apd_core.specs.Invariant.{IsCore}
use Rattle.apd_core.specs.declared.query_answer.Answer.{Answer}
use Rattle.apd_ctrl.specs.declared.parser.Refusal.{Refusal}
use Rattle.apd_ctrl.specs.declared.parser.Refusal.TheVariants.{Unknown, Fail}
use Rattle.apd_mlme.specs.declared.decision.Out.{Out}
use Rattle.apd_mlme.specs.declared.decision.Out.TheVariants.{Frame, Install, Remove, Text}
use Rattle.apd_mlme.specs.declared.decision.Recipient.{Recipient}
use Rattle.apd_mlme.specs.declared.decision.Recipient.TheVariants.{Control}
use Rattle.apd_control_port.specs.Replied.{Reply, and_replies}

-- the reply to what is refused
abbrev pub text_of : Refusal → List ℕ
text_of Unknown = codes "UNKNOWN COMMAND\n"
text_of Fail = codes "FAIL\n"

-- there was a core that gave this answer to this query: from its table of settled entries
abbrev pub IsAnswerOfSomeCore : Answer → Type 0
IsAnswerOfSomeCore answer = (core : CoreState) × (answer ≡ answer_to_query core answer.query)

-- there was a core of which these were the outs that waited for a recipient, their entries settled
abbrev pub AreReadyInSomeCore : Recipient → List Out → Type 0
AreReadyInSomeCore to outs = (core : CoreState) × IsCore core × (outs ≡ ready_for to core)

-- some of the texts among these outs, in order, each once under its tag: the port lost the others
abbrev pub AreSomeOf : List Reply → List Out → Type 0
AreSomeOf replies [] = replies ≡ []
AreSomeOf replies (Text tag text ∷ outs) =
    AreSomeOf replies outs ⊎ ((rest : List Reply) × (replies ≡ (tag, text) ∷ rest) × AreSomeOf rest outs)
AreSomeOf replies (Install addr aid ∷ outs) = AreSomeOf replies outs
AreSomeOf replies (Remove addr ∷ outs) = AreSomeOf replies outs
AreSomeOf replies (Frame frame ∷ outs) = AreSomeOf replies outs

-- what is replied to a command at once: that it is refused, or the answer to a query
abbrev pub IsAtOnce : List Reply → Type 0
IsAtOnce replies =
    ((tag : ℕ) × (why : Refusal) × (replies ≡ (tag, text_of why) ∷ []))
    ⊎ ((tag : ℕ) × (answer : Answer) × IsAnswerOfSomeCore answer × (replies ≡ (tag, answer.text) ∷ []))

-- what is replied to orders: what was ready for control, so of settled entries alone
abbrev pub AreSettled : List Reply → Type 0
AreSettled replies = (outs : List Out) × AreReadyInSomeCore Control outs × AreSomeOf replies outs

abbrev pub IsEither : List Reply → Type 0
IsEither replies = IsAtOnce replies ⊎ AreSettled replies

-- replies were made time after time, the last time first, each time such ones
abbrev pub AreMade : (List Reply → Type 0) → List (List Reply) → Option (List Reply) → Option (List Reply) → Type 0
AreMade Such [] old new = new ≡ old
AreMade Such (replies ∷ before) old new =
    (mid : Option (List Reply)) × AreMade Such before old mid × Such replies × (new ≡ and_replies mid replies)

-- what was replied between: such replies and nothing else
pub record HasReplied (Such : List Reply → Type 0) (old new : Option (List Reply)) : Type 0 where
  pub times : List (List Reply)
  pub made : AreMade Such times old new

-- some of the texts among outs were replied
abbrev pub AreReplied : List Out → Option (List Reply) → Option (List Reply) → Type 0
AreReplied outs old new = (replies : List Reply) × AreSomeOf replies outs × (new ≡ and_replies old replies)
