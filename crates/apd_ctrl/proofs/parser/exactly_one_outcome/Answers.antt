use Rattle.std.proofs.Common.{ℕ, List, Option, Result, sym, subst}
use Rattle.apd_ctrl.specs.declared.command.Command.{Command}
use Rattle.apd_ctrl.specs.declared.parser.Refusal.{Refusal}
use Rattle.apd_ctrl.specs.Grammar.{IsOutcome}
use Rattle.apd_ctrl.proofs.OutcomeLemmas.{only, there}
use Rattle.apd_ctrl.proofs.parser.exactly_one_outcome.Goals as goal

pub returns : goal.returns
returns c = λ bytes x. (only bytes x, λ e. let P : Result (Option (List ℕ) × Command) Refusal → Type 0 = λ y. IsOutcome bytes y in subst P (sym e) (there bytes))
