use Rattle.mufom_build.specs.Lines.{listing_lines}
use Rattle.mufom_build.proofs.Shapes.{loose_lines}
use Rattle.mufom_build.proofs.OneModule.{one_listing}
use Rattle.mufom_build.proofs.laws.texts_list_one_module.Goals as goal

pub returns-clause-loosely : goal.returns-clause-loosely
returns-clause-loosely c = one_listing

pub returns-clause-exactly : goal.returns-clause-exactly
returns-clause-exactly c = λ text m n p q. one_listing text m n (loose_lines (listing_lines m) text p.listed)
    (loose_lines (listing_lines n) text q.listed)
