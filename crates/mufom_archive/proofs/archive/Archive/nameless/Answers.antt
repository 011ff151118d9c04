use Rattle.std.proofs.Common.{◌∙◌, ap}
use Rattle.mufom_archive.specs.Listings.{first_nameless}
use Rattle.mufom_archive.proofs.ListingLaws.{nameless_known}
use Rattle.mufom_archive.proofs.archive.Archive.nameless.Goals as goal

pub returns : goal.returns
returns c = λ stream k.
    c.first_nameless.ensures ∙ ap (λ es. first_nameless es c.room_for_names.result) c.entries.ensures
    ∙ nameless_known stream _ _ _ _ _ _ k c.room_for_names.result (c.room_for_names.ensures stream k)
