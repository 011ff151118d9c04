use Rattle.mufom_titxt.proofs.ErrorLaws.{refusal-to, refusal-from}
use Rattle.mufom_titxt.proofs.laws.errors_are_at_the_first_wrong_line.Goals as goal

pub returns-clause-wrong : goal.returns-clause-wrong
returns-clause-wrong c text width r e = refusal-to text width r e

pub returns-clause-refused : goal.returns-clause-refused
returns-clause-refused c text width r e = refusal-from text width r e
