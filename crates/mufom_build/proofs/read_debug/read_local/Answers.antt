use Rattle.mufom_build.proofs.Heads.{local_read}
use Rattle.mufom_build.proofs.read_debug.read_local.Goals as goal

pub returns : goal.returns
returns c = record { reads = local_read c.in_ok-stack.ensures.reads }
