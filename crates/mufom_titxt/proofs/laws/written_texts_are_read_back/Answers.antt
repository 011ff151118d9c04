use Rattle.mufom_titxt.specs.Written.{txt_text}
use Rattle.mufom_titxt.proofs.BackLaws.{written_is_read, text_is_single}
use Rattle.mufom_titxt.proofs.laws.written_texts_are_read_back.Goals as goal

pub returns-clause-accepted : goal.returns-clause-accepted
returns-clause-accepted c width runs h = written_is_read width runs h

pub returns-clause-single : goal.returns-clause-single
returns-clause-single c width runs other h k = text_is_single (txt_text runs) width runs other (written_is_read width runs h) k
