use Rattle.mufom_text.proofs.FewMarks.{few_marks}
use Rattle.mufom_build.proofs.PrintedLines.{listing_builds}
use Rattle.mufom_build.proofs.laws.listings_build.Goals as goal

pub returns : goal.returns
returns c = λ m made valid. listing_builds m made valid (few_marks m valid)
