use Rattle.mufom_headline.proofs.ReadBack.{written-files-are-read-back}
use Rattle.mufom_headline.proofs.laws.written_files_are_read_back.Goals as goal

pub returns : goal.returns
returns c = written-files-are-read-back
