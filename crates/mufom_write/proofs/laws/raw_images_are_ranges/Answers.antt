use Rattle.mufom_write.proofs.RawLaws.{raw-images-are-ranges}
use Rattle.mufom_write.proofs.laws.raw_images_are_ranges.Goals as goal

pub returns : goal.returns
returns c = raw-images-are-ranges
