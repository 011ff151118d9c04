use Rattle.mufom_module.proofs.OneModule.{one_module}
use Rattle.mufom_module.proofs.laws.a_file_is_one_module.Goals as goal

pub returns : goal.returns
returns c = one_module
