use Rattle.mufom_place.proofs.CopyLaws as laws
use Rattle.mufom_place.proofs.laws.copies_move_nothing.Goals as goal

pub returns : goal.returns
returns c = laws.copies_move_nothing
