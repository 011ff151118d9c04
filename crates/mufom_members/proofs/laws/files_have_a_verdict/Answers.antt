use Rattle.mufom_members.proofs.EachVerdict.{each_verdict}
use Rattle.mufom_members.proofs.laws.files_have_a_verdict.Goals as goal

pub returns : goal.returns
returns c = each_verdict
