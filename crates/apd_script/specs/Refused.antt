-- What a step of a batch tells of the store.
use Rattle.std.specs.Prelude.{Option, None, Some, Err}
use Rattle.apd_store.specs.declared.fault.StoreFault.{StoreFault}
use Rattle.apd_world.specs.declared.step.Told.{Told}
use Rattle.apd_world.specs.declared.step.Told.TheVariants.{Called, Loaded}

-- why the store refused the step, if it did
abbrev pub refusal_of : Told → Option StoreFault
refusal_of (Loaded (Err why)) = Some why
refusal_of (Called (Err why)) = Some why
refusal_of told = None
