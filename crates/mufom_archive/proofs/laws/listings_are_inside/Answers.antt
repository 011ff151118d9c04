use Rattle.mufom_archive.proofs.InsideLaws.{inside}
use Rattle.mufom_archive.proofs.laws.listings_are_inside.Goals as goal

pub returns : goal.returns
returns c = inside
