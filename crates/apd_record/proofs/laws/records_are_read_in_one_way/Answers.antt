use Rattle.apd_record.proofs.Unique.{records_once}
use Rattle.apd_record.proofs.laws.records_are_read_in_one_way.Goals as goal

pub returns : goal.returns
returns c = records_once
