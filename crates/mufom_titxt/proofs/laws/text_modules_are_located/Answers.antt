use Rattle.mufom_titxt.proofs.NoFactLaws.{text_located}
use Rattle.mufom_titxt.proofs.laws.text_modules_are_located.Goals as goal

pub returns : goal.returns
returns c maus runs low high h = text_located maus runs h low high
