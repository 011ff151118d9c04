use Rattle.mufom_records.proofs.RecordLaws.{one_record}
use Rattle.mufom_records.proofs.laws.whole_records_at_one_place_are_one.Goals as goal

pub returns : goal.returns
returns c = one_record
