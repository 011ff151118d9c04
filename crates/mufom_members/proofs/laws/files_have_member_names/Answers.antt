use Rattle.mufom_members.proofs.FileNames.{have_member_names}
use Rattle.mufom_members.proofs.laws.files_have_member_names.Goals as goal

pub returns : goal.returns
returns c = have_member_names
