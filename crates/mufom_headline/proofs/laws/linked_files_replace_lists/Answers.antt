use Rattle.mufom_headline.proofs.Later.{linked-files-replace-lists}
use Rattle.mufom_headline.proofs.laws.linked_files_replace_lists.Goals as goal

pub returns : goal.returns
returns c = linked-files-replace-lists
