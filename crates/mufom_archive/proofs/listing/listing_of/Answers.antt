use Rattle.std.proofs.Common.{◌≡◌, ◌∙◌, sym, ap}
use Rattle.std.specs.List.{position_or_len, slice_get}
use Rattle.std.proofs.lemmas.List.Folds.{find_at}
use Rattle.mufom_archive.specs.Listings.{first_error, is_refused}
use Rattle.mufom_archive.proofs.listing.listing_of.Goals as goal

pub returns-clause-error : goal.returns-clause-error
returns-clause-error c =
    let counted : c.count_sound-count.result ≡ position_or_len (is_refused c.args.names.items c.args.size) c.args.entries
    = c.count_sound-count.ensures.count ∙ λ i. position_or_len (is_refused (c.deref.ensures.value i) c.args.size) (c.as_slice.ensures i) in
    c.first_error-error.ensures
    ∙ ap (first_error c.args.size c.args.next) (c.get.ensures ∙ ap (slice_get c.args.entries) counted
    ∙ sym (find_at (is_refused c.args.names.items c.args.size) c.args.entries))
