use Rattle.mufom_titxt.proofs.ReadLaws.{have-module, have-text}
use Rattle.mufom_titxt.proofs.laws.runs_of_texts_have_modules.Goals as goal

pub returns-clause-modules : goal.returns-clause-modules
returns-clause-modules c text width runs short h = have-module text width runs h short

pub returns-clause-texts : goal.returns-clause-texts
returns-clause-texts c text width runs narrow h = have-text text width runs h narrow
