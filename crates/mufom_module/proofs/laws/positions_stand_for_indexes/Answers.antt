use Rattle.mufom_module.proofs.SpelledLaws.{IsIndexed-positioned}
use Rattle.mufom_module.proofs.laws.positions_stand_for_indexes.Goals as goal

pub returns : goal.returns
returns c = IsIndexed-positioned
