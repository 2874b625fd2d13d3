use Rattle.apd_maintenance.proofs.Printing.{not_printed, was_read}
use Rattle.apd_maintenance.proofs.checking.check_device.Goals as goal

pub returns-in-Ok-print_table-clause-printed : goal.returns-in-Ok-print_table-clause-printed
returns-in-Ok-print_table-clause-printed g c = record {
  table = c.in-Ok.found.1;
  read = was_read g.D.Disk.model c.args.device c.into_device-device.result c.in-Ok.found.0 c.in-Ok.found.1 c.into_device-device.ensures c.in-Ok.ensures.found;
  printed = c.in-Ok-print_table.ensures.printed;
}

pub returns-clause-refused : goal.returns-clause-refused
returns-clause-refused g c =
    not_printed g.D.Disk.model c.args.device c.into_device-device.result c.in-Ok.found.1 c.in-Err-print_table.fault c.in-Err-print_table.ensures.only
    (was_read g.D.Disk.model c.args.device c.into_device-device.result c.in-Ok.found.0 c.in-Ok.found.1 c.into_device-device.ensures c.in-Ok.ensures.found)
