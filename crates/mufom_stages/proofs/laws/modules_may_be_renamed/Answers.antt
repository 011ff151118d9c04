use Rattle.mufom_stages.proofs.Renamed.{modules-may-be-renamed}
use Rattle.mufom_stages.proofs.laws.modules_may_be_renamed.Goals as goal

pub returns : goal.returns
returns c = modules-may-be-renamed
