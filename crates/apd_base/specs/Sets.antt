-- Finite sets: finite maps with nothing at each key, so that the laws of maps serve both.
use Rattle.std.specs.Prelude.{Bool}
use Rattle.std.specs.declared.cmp.Ordering.{Ordering}
use Rattle.std.specs.FinMap as map
use Rattle.std.specs.FinMap.{FinMap}
use Rattle.std.specs.FinSet.{code}
use Rattle.std.specs.Coded.{Coded}

abbrev pub SetOf : {K : Type 0} → (K → K → Ordering) → Type 0
SetOf R = FinMap R (Unit {0})

abbrev pub contains : {K : Type 0} {R : K → K → Ordering} → SetOf R → K → Bool
contains s k = map.contains_key s k

abbrev pub coded_set : {K : Type 0} {R : K → K → Ordering} → Coded K → Coded (SetOf R)
coded_set k = code k
