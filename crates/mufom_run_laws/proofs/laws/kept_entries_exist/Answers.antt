use Rattle.mufom_run_laws.proofs.Marks.{kept-entries-exist}
use Rattle.mufom_run_laws.proofs.laws.kept_entries_exist.Goals as goal

pub returns : goal.returns
returns c = kept-entries-exist
