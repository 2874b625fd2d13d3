-- A radio by who drives it: whoever is heard last, or one that is named (own).
use Rattle.apd_radio.specs.Model.{RadioModel}
use Rattle.apd_site.specs.declared.driven.DrivenBy.{DrivenBy}
use Rattle.apd_site.specs.declared.driven.DrivenBy.TheVariants.{Anyone, Named}

-- what one function says of the one kind, and another of the other
abbrev pub by_driver : {A B X : Type 0} → (A → X) → (B → X) → DrivenBy A B → X
by_driver f g (Anyone radio) = f radio
by_driver f g (Named radio) = g radio

-- it means what the radio inside means
abbrev pub of_driven : {A B : Type 0} → RadioModel A → RadioModel B → RadioModel (DrivenBy A B)
of_driven anyone named = record {
  stations = by_driver anyone.stations named.stations;
  faults = by_driver anyone.faults named.faults;
  sent = by_driver anyone.sent named.sent;
}
