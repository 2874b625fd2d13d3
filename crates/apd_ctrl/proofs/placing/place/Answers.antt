use Rattle.std.proofs.Common.{◌≡◌, ℕ, List, Option, Some, None, Result, Ok, refl, subst, sym, ap}
use Rattle.apd_ctrl.specs.declared.command.Command.{Command}
use Rattle.apd_ctrl.specs.declared.parser.Refusal.{Refusal}
use Rattle.apd_ctrl.specs.Grammar.{IsOutcome}
use Rattle.apd_ctrl.specs.Reading.{outcome}
use Rattle.apd_ctrl.proofs.OutcomeLemmas.{there}
use Rattle.apd_ctrl.proofs.placing.place.Goals as goal

-- what bytes are as a command is so by the table
is_so : (bytes : List ℕ) (x : Result (Option (List ℕ) × Command) Refusal) → x ≡ outcome bytes → IsOutcome bytes x
is_so bytes x same = let P : Result (Option (List ℕ) × Command) Refusal → Type 0 = λ y. IsOutcome bytes y in subst P (sym same) (there bytes)

pub returns-in-Unknown : goal.returns-in-Unknown
returns-in-Unknown g c = record { outcome = _; is = is_so c.args.bytes.now _ c.in-Unknown.ensures; becomes = refl }

pub returns-in-Fail : goal.returns-in-Fail
returns-in-Fail g c = record { outcome = _; is = is_so c.args.bytes.now _ c.in-Fail.ensures; becomes = refl }

pub returns-in-Some : goal.returns-in-Some
returns-in-Some g c = record {
  outcome = _;
  is = is_so c.args.bytes.now _ c.in-Command.ensures;
  becomes = (Some (c.in-Some.bssid, c.in-Some.up), c.in-Some.ensures, ap (λ p. Ok p) c.at.ensures);
}

pub returns-in-None : goal.returns-in-None
returns-in-None g c = record { outcome = _; is = is_so c.args.bytes.now _ c.in-Command.ensures; becomes = (None, c.in-None.ensures, refl) }
