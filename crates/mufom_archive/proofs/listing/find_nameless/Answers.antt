use Rattle.std.proofs.Common.{◌∙◌, sym, ap}
use Rattle.std.specs.List.{slice_get}
use Rattle.std.proofs.lemmas.List.Folds.{find_at}
use Rattle.mufom_archive.specs.Listings.{lacks_name}
use Rattle.mufom_archive.proofs.listing.find_nameless.Goals as goal

pub returns : goal.returns
returns c =
    c.entry_at.ensures ∙ ap (slice_get c.args.entries.now) c.count_named.ensures
    ∙ sym (find_at (lacks_name c.args.size) c.args.entries.now)
