use Rattle.std.proofs.Common.{sym}
use Rattle.mufom_archive.specs.Listings.{lacks_name}
use Rattle.mufom_archive.proofs.ListingLaws.{none_passes}
use Rattle.mufom_archive.proofs.listing.count_named.Goals as goal

pub returns-in-None : goal.returns-in-None
returns-in-None c = none_passes (lacks_name c.args.size) c.args.entries.now (sym c.in-None.ensures)
