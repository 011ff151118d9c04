use Rattle.mufom_members.proofs.OneVerdict.{one_verdict}
use Rattle.mufom_members.proofs.laws.files_have_one_verdict.Goals as goal

pub returns : goal.returns
returns c = one_verdict
