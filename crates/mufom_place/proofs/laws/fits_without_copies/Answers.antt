use Rattle.mufom_place.proofs.CopyLaws as laws
use Rattle.mufom_place.proofs.laws.fits_without_copies.Goals as goal

pub returns : goal.returns
returns c = laws.fits_without_copies
