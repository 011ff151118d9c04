use Rattle.mufom_archive.proofs.WrittenLaws.{read_back}
use Rattle.mufom_archive.proofs.laws.written_archives_are_read.Goals as goal

pub returns : goal.returns
returns c = read_back
