use Rattle.mufom_build.proofs.Heads.{scope_read}
use Rattle.mufom_build.proofs.read_debug.read_scope.Goals as goal

pub returns : goal.returns
returns c = record {
  reads = scope_read c.words.ensures.reads c.number-stack.ensures.reads c.words-2.ensures.reads c.number-type_index.ensures.reads
      c.words-3.ensures.reads c.in_ok-offset.ensures.reads;
}
