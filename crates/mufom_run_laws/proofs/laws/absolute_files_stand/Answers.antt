use Rattle.mufom_run_laws.proofs.MadeLaws.{absolute-files-stand}
use Rattle.mufom_run_laws.proofs.laws.absolute_files_stand.Goals as goal

pub returns : goal.returns
returns c = absolute-files-stand
