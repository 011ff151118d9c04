use Rattle.mufom_build.proofs.Payloads.{extension_read}
use Rattle.mufom_build.proofs.read_sections.read_extension.Goals as goal

pub returns : goal.returns
returns c = record { reads = λ s. extension_read s c.words.ensures.reads c.in_ok-hex.ensures.reads }
