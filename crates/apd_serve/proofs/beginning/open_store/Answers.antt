use Rattle.std.proofs.Common.{ap}
use Rattle.apd_site.specs.StoreDisk.{StoreDisk}
use Rattle.apd_serve.proofs.beginning.open_store.Goals as goal

pub returns-in-Ok : goal.returns-in-Ok
returns-in-Ok g c = record {
  file = c.knowing-disk.result;
  knows = ap (λ (d : StoreDisk). d.known) c.knowing-disk.ensures;
  recovered = c.in-Ok.ensures.found;
}
