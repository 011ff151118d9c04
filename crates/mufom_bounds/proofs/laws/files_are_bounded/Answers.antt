use Rattle.mufom_bounds.proofs.BoundedFiles.{file-bounded}
use Rattle.mufom_bounds.proofs.laws.files_are_bounded.Goals as goal

pub returns : goal.returns
returns c = file-bounded
