use Rattle.mufom_build.proofs.Payloads.{environment_read}
use Rattle.mufom_build.proofs.read_sections.read_environment.Goals as goal

pub returns : goal.returns
returns c = record { reads = λ s. environment_read s c.words.ensures.reads c.in_ok-hex.ensures.reads }
