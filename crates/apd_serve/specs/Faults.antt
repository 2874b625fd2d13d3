-- The fault of a run that comes of another one (own).
use Rattle.apd_site.specs.declared.site.SiteFault.{SiteFault}
use Rattle.apd_site.specs.declared.site.SiteFault.TheVariants.{Open as NoFile, Socket as NoPort, NoMemory as NoRoom}
use Rattle.apd_serve.specs.declared.running.RunFault.{RunFault}
use Rattle.apd_serve.specs.declared.running.RunFault.TheVariants.{NoMemory, Open, Socket}

-- the same fault, of a run whose site was not had
abbrev pub of_site : SiteFault → RunFault
of_site (NoFile fault) = Open fault
of_site (NoPort fault) = Socket fault
of_site NoRoom = NoMemory
