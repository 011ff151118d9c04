use Rattle.mufom_headline.proofs.Later.{same-works-end-the-same}
use Rattle.mufom_headline.proofs.laws.same_works_end_the_same.Goals as goal

pub returns : goal.returns
returns c = same-works-end-the-same
