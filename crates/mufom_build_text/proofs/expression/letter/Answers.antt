use Rattle.std.proofs.Common.{sym, ap, ◌∙◌}
use Rattle.mufom_build_text.proofs.Heads.{letter_at, letter_told}
use Rattle.mufom_build_text.proofs.expression.letter.Goals as goal

pub returns : goal.returns
returns c = λ t more goes none. letter_told t more goes none ∙ ap letter_at (sym c.rest.ensures) ∙ sym c.letter_by.ensures
