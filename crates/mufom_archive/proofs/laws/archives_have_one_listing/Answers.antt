use Rattle.mufom_archive.proofs.ListingLaws.{one_listing}
use Rattle.mufom_archive.proofs.laws.archives_have_one_listing.Goals as goal

pub returns : goal.returns
returns c = one_listing
