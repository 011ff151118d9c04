use Rattle.mufom_build.proofs.Payloads.{block_read}
use Rattle.mufom_build.proofs.read_debug.read_block.Goals as goal

pub returns : goal.returns
returns c = record {
  reads = λ s same. block_read s same c.check_depth.ensures.reads c.words.ensures.reads c.numeral-kind.ensures.reads c.words-2.ensures.reads
      c.in_ok-name.ensures.reads c.in_ok-head.ensures.reads;
}
