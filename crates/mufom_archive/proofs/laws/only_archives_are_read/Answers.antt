use Rattle.mufom_archive.proofs.OnlyLaws.{only_archives}
use Rattle.mufom_archive.proofs.laws.only_archives_are_read.Goals as goal

pub returns : goal.returns
returns c = only_archives
