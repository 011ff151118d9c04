use Rattle.mufom_build.proofs.Heads.{source_read}
use Rattle.mufom_build.proofs.read_debug.read_source.Goals as goal

pub returns : goal.returns
returns c = record { reads = source_read c.read_numbers.ensures.reads }
