use Rattle.mufom_build.proofs.Heads.{global_read}
use Rattle.mufom_build.proofs.read_debug.read_global.Goals as goal

pub returns : goal.returns
returns c = record { reads = global_read c.in_ok-stack.ensures.reads }
