use Rattle.std.proofs.Common.{sym}
use Rattle.mufom_archive.specs.Listings.{is_refused}
use Rattle.mufom_archive.proofs.ListingLaws.{none_passes}
use Rattle.mufom_archive.proofs.listing.count_sound.Goals as goal

pub returns-in-None-clause-count : goal.returns-in-None-clause-count
returns-in-None-clause-count c = none_passes (is_refused c.args.names.now c.args.size) c.args.entries.now (sym c.in-None.ensures)
