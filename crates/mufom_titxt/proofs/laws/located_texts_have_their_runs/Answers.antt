use Rattle.mufom_titxt.proofs.LocatedLaws.{located_runs}
use Rattle.mufom_titxt.proofs.laws.located_texts_have_their_runs.Goals as goal

pub returns : goal.returns
returns c maus runs r h l = located_runs maus runs r h l
