use Rattle.mufom_expr.proofs.ValueLaws.{value_at-renamed}
use Rattle.mufom_expr.proofs.laws.renaming_composes_with_value.Goals as goal

pub returns : goal.returns
returns c = value_at-renamed
