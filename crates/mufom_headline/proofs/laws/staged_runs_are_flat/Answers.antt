use Rattle.mufom_headline.proofs.Staged.{staged-runs-are-flat}
use Rattle.mufom_headline.proofs.laws.staged_runs_are_flat.Goals as goal

pub returns : goal.returns
returns c = staged-runs-are-flat
