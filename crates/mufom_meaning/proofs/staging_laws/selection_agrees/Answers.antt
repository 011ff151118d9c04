use Rattle.mufom_meaning.proofs.staging.Selected.{selection_agrees}
use Rattle.mufom_meaning.proofs.staging_laws.selection_agrees.Goals as goal

pub returns : goal.returns
returns c = selection_agrees
