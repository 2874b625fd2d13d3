-- Happenings, one after the other.
use Rattle.std.specs.Prelude.{List, [], ◌∷◌, ◌++◌}
use Rattle.apd_base.specs.State.{State}
use Rattle.apd_conf.specs.declared.conf.Conf.{Conf}
use Rattle.apd_event.specs.Happening.{Happening}
use Rattle.apd_mlme.specs.declared.decision.Recipient.{Recipient}
use Rattle.apd_mlme.specs.declared.decision.Out.{Out}
use Rattle.apd_mlme.specs.Outs.{outs_to}
use Rattle.apd_mlme.specs.rules.{verdict, IsFit}

-- the state after them
abbrev pub run : State → List Conf → List Happening → State
run s confs [] = s
run s confs (h ∷ hs) = run (verdict s confs h).state confs hs

-- all their outs to a recipient, in order
abbrev pub outs_run : Recipient → State → List Conf → List Happening → List Out
outs_run r s confs [] = []
outs_run r s confs (h ∷ hs) =
    outs_to r (verdict s confs h).outs ++ outs_run r (verdict s confs h).state confs hs

-- each is fit in the state before it
abbrev pub AreFit : State → List Conf → List Happening → Type 0
AreFit s confs [] = Unit {0}
AreFit s confs (h ∷ hs) = IsFit s confs h × AreFit (verdict s confs h).state confs hs
