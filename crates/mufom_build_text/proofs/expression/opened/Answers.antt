use Rattle.std.proofs.Common.{sym, ap, ◌∙◌}
use Rattle.mufom_build_text.proofs.Heads.{frame_at, frame_told}
use Rattle.mufom_build_text.proofs.expression.opened.Goals as goal

pub returns-clause-tells : goal.returns-clause-tells
returns-clause-tells c = λ t more goes. sym (frame_told t more goes) ∙ ap frame_at (sym c.rest.ensures) ∙ sym c.frame_by.ensures.exact
