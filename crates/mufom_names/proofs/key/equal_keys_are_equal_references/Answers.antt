use Rattle.mufom_names.proofs.KeyLaws.{keys-tell}
use Rattle.mufom_names.proofs.key.equal_keys_are_equal_references.Goals as goal

pub returns : goal.returns
returns c = keys-tell
