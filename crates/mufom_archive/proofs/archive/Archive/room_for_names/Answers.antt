use Rattle.std.proofs.Common.{sym, ◌∙◌}
use Rattle.mufom_archive.proofs.ListingLaws.{room_without}
use Rattle.mufom_archive.proofs.archive.Archive.room_for_names.Goals as goal

pub returns-in-None : goal.returns-in-None
returns-in-None c = λ stream k.
    room_without stream _ _ _ _ _ _ k c.in-None.is c.bad_header.result (c.bad_header.ensures stream k) _ (sym c.is_some.ensures ∙ c.if-is_some.true)

pub returns-in-None-2 : goal.returns-in-None-2
returns-in-None-2 c = λ stream k.
    room_without stream _ _ _ _ _ _ k c.in-None.is c.bad_header.result (c.bad_header.ensures stream k) _ (sym c.is_some.ensures ∙ c.if-is_some.false)
