use Rattle.std.proofs.Common.{[], ◌∷◌, ◌++◌, ◌∙◌, ap, inl, inr, refl}
use Rattle.apd_world.proofs.RunLemmas.{handing_beside, holds_replies, none_gone, none_made, one_answered, one_gone, one_made}
use Rattle.apd_world.proofs.world.World.answer.Goals as goal

pub returns-then-is_err-clause-err : goal.returns-then-is_err-clause-err
returns-then-is_err-clause-err g c = λ hands. none_gone g.D.Disk.model g.R.Radio.model c.args.self.now (none_made g.D.Disk.model g.R.Radio.model c.args.self.now c.stops.ensures)

pub returns-in-NoMemory-clause-err : goal.returns-in-NoMemory-clause-err
returns-in-NoMemory-clause-err g c = λ hands.
    one_gone g.D.Disk.model g.R.Radio.model c.args.step.now c.step.result c.args.self.now c.step.new.self (handing_beside c.args.step.now hands) c.step.ensures.step c.step.ensures.made c.step.ensures.stops

pub returns-in_default-clause-ok : goal.returns-in_default-clause-ok
returns-in_default-clause-ok g c = λ hands is.
    one_answered g.D.Disk.model g.R.Radio.model c.args.step.now c.step.result c.args.to c.args.answers.now.items c.push_reserved.new.self.items c.args.self.now c.step.new.self hands is c.step.ensures.step c.step.ensures.made c.step.ensures.stops
    c.in_default.not-NoMemory (c.push_reserved.ensures.items ∙ ap (λ xs. xs ++ (c.args.to, c.step.result) ∷ []) c.reserve.ensures.items)

pub returns-in_default-clause-replies : goal.returns-in_default-clause-replies
returns-in_default-clause-replies g c = λ for_radio. holds_replies g.R.Radio.model c.args.step.now c.step.result c.args.self.now c.step.new.self for_radio c.step.ensures.step

pub returns-then-is_err-clause-cut : goal.returns-then-is_err-clause-cut
returns-then-is_err-clause-cut g c = λ hands. record { steps = []; tolds = []; are = inl refl; made = none_made g.D.Disk.model g.R.Radio.model c.args.self.now c.stops.ensures }

pub returns-in-NoMemory-clause-cut : goal.returns-in-NoMemory-clause-cut
returns-in-NoMemory-clause-cut g c = λ hands. record {
  steps = c.args.step.now ∷ [];
  tolds = c.step.result ∷ [];
  are = inr refl;
  made = one_made g.D.Disk.model g.R.Radio.model c.args.step.now c.step.result c.args.self.now c.step.new.self c.step.ensures.step c.step.ensures.made c.step.ensures.stops;
}
