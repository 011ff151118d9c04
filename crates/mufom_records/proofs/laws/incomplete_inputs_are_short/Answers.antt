use Rattle.mufom_records.proofs.ShortLaws.{unended-short}
use Rattle.mufom_records.proofs.laws.incomplete_inputs_are_short.Goals as goal

pub returns : goal.returns
returns c = unended-short
