use Rattle.std.proofs.Common.{ℕ, [], ◌∷◌, Result, Some, refl, subst, sym}
use Rattle.std.specs.declared.alloc.AllocError.{AllocError}
use Rattle.apd_steps.specs.Serving.{Hand}
use Rattle.apd_steps.proofs.ServingLemmas.{serve_none}
use Rattle.apd_desk.specs.Serving.{NotesHands}
use Rattle.apd_desk.proofs.Serving.{handed}
use Rattle.apd_desk.proofs.receiving.Parts.collect.Goals as goal

pub returns-then-waiting_count-gt0 : goal.returns-then-waiting_count-gt0
returns-then-waiting_count-gt0 g c = (serve_none g.R.Radio.model g.R.Radio.frames g.A.Asks.made _ _ _, refl)

pub returns-in-Ok : goal.returns-in-Ok
returns-in-Ok g c = (
  handed g.R.Radio.model g.R.Radio.frames g.A.Asks.made c.hand_to.result _ _ _ _ _ c.hand_to.ensures,
  subst (λ (told : Result ℕ AllocError). NotesHands (Hand told ∷ []) c.args.seen.settled c.args.self.now.collected (Some c.args.seen.settled))
      (sym c.in-Ok.is) refl,
)

pub returns-in-Err : goal.returns-in-Err
returns-in-Err g c = (
  handed g.R.Radio.model g.R.Radio.frames g.A.Asks.made c.hand_to.result _ _ _ _ _ c.hand_to.ensures,
  subst (λ (told : Result ℕ AllocError). NotesHands (Hand told ∷ []) c.args.seen.settled c.args.self.now.collected c.args.self.now.collected)
      (sym c.in-Err.is) refl,
)
