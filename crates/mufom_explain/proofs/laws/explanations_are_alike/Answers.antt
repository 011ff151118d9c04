use Rattle.mufom_explain.proofs.AlikeLaws.{explained-alike}
use Rattle.mufom_explain.proofs.laws.explanations_are_alike.Goals as goal

pub returns : goal.returns
returns c e ms leaves same r = explained-alike e ms leaves same r
