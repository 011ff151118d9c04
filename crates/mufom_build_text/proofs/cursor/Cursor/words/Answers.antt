use Rattle.std.proofs.Common.{refl}
use Rattle.mufom_build_text.proofs.Loosely.{no_words, words_more, whole_words, words_shorter}
use Rattle.mufom_build_text.proofs.cursor.Cursor.words.Goals as goal

pub loop-byte-init : goal.loop-byte-init
loop-byte-init c = no_words _

pub loop-byte-preserved : goal.loop-byte-preserved
loop-byte-preserved c = words_more c.args.text.now c.loop-byte.byte-index _ c.loop-byte-test.true refl c.loop-byte.invariant
    c.word_byte.ensures.reads

pub returns : goal.returns
returns c = let read = whole_words c.args.text.now c.loop-byte.byte-index c.loop-byte-test.false c.loop-byte.invariant in record {
  reads = read;
  within = read.moves.within;
  shorter = words_shorter c.args.text.now read;
}
