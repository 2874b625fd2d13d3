-- What happened by steps, by what they told, and what was given.
use Rattle.std.specs.Prelude.{List, [], ◌∷◌, ◌++◌, Result, Ok, if◌then◌else◌}
use Rattle.apd_world.specs.Words.{Accept, Accepted, Conf, Hand, Handed, Happening, LastHeard, Moment, Out, QuietReason, Reception, Recipient, State, Step, Told, happening_of, heard_by, is_same, run, verdict}
use Rattle.apd_core.specs.Heard.{heard_by_changes}
use Rattle.apd_world.specs.declared.step.Reception.TheVariants.{Quiet, Entry}

-- what a request enters by its answer
abbrev pub reception_happenings : Reception → Result Happening QuietReason → List Happening
reception_happenings (Entry number) (Ok h) = h ∷ []
reception_happenings answer asked = []

-- what a step enters; what happens by a tick is read off the moments at which stations were heard
abbrev pub step_happenings : List Conf → LastHeard → Step → Told → List Happening
step_happenings confs heard (Accept i m) (Accepted answer) = reception_happenings answer (happening_of confs heard m i)
step_happenings confs heard step told = []

-- the moments after a request by its answer, in the state before it
abbrev pub heard_as : List Conf → State → Moment → Reception → Result Happening QuietReason → LastHeard → LastHeard
heard_as confs s m (Entry number) (Ok h) heard = heard_by m h (heard_by_changes m (verdict s confs h).changes heard)
heard_as confs s m (Quiet reason) (Ok h) heard = heard_by m h heard
heard_as confs s m answer asked heard = heard

abbrev pub heard_after : List Conf → State → LastHeard → Step → Told → LastHeard
heard_after confs s heard (Accept i m) (Accepted answer) =
    heard_as confs s m answer (happening_of confs heard m i) heard
heard_after confs s heard step told = heard

-- what happened so far, the state after it, and the moments
pub record Account : Type 0 where
  pub happened : List Happening
  pub state : State
  pub heard : LastHeard

abbrev pub one_more : List Conf → Step → Told → Account → Account
one_more confs step told a =
    let es = step_happenings confs a.heard step told in
    record {
      happened = a.happened ++ es;
      state = run a.state confs es;
      heard = heard_after confs a.state a.heard step told;
    }

-- the same by steps, one after another
abbrev pub account : List Conf → List Step → List Told → Account → Account
account confs (step ∷ steps) (told ∷ tolds) a = account confs steps tolds (one_more confs step told a)
account confs steps tolds a = a

-- what a recipient is given by a step
abbrev pub handed_outs : Recipient → Step → Told → List Out
handed_outs r (Hand q) (Handed outs) = if is_same r q then outs else []
handed_outs r step told = []
