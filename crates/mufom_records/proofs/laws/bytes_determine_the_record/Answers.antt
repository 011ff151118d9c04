use Rattle.mufom_records.proofs.SameBytes.{one_by_bytes}
use Rattle.mufom_records.proofs.laws.bytes_determine_the_record.Goals as goal

pub returns : goal.returns
returns c = one_by_bytes
