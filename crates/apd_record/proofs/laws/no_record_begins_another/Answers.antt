use Rattle.apd_record.proofs.Unique.{record_once}
use Rattle.apd_record.proofs.laws.no_record_begins_another.Goals as goal

pub returns : goal.returns
returns c = record_once
