use Rattle.mufom_run_laws.proofs.MadeLaws.{linked-files-stand}
use Rattle.mufom_run_laws.proofs.laws.linked_files_stand.Goals as goal

pub returns : goal.returns
returns c = linked-files-stand
