use Rattle.mufom_archive.proofs.ListingLaws.{each_listing}
use Rattle.mufom_archive.proofs.laws.archives_have_a_listing.Goals as goal

pub returns : goal.returns
returns c = each_listing
