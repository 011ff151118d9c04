use Rattle.mufom_records.proofs.RecordLaws.{record_at-stable}
use Rattle.mufom_records.proofs.laws.longer_inputs_answer_the_same.Goals as goal

pub returns : goal.returns
returns c = record_at-stable
