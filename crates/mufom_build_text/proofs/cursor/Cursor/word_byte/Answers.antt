use Rattle.mufom_build_text.proofs.Loosely.{gap_word, byte_word}
use Rattle.mufom_build_text.proofs.cursor.Cursor.word_byte.Goals as goal

pub returns-then-wanted-eq32 : goal.returns-then-wanted-eq32
returns-then-wanted-eq32 c = record { reads = gap_word c.args.wanted c.if-wanted-eq32.true c.gap.ensures.reads }

pub returns-else-wanted-eq32 : goal.returns-else-wanted-eq32
returns-else-wanted-eq32 c = record { reads = byte_word c.args.wanted c.if-wanted-eq32.false c.byte.ensures.reads }
