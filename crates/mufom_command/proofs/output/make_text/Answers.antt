use Rattle.std.proofs.Common.{List, ap, subst, sym, ◌∙◌}
use Rattle.mufom_command.proofs.WritingLaws.{located-bytes}
use Rattle.mufom_command.specs.TextLines.{HasByte}
use Rattle.mufom_meaning.specs.declared.located.LocatedParts.{LocatedParts}
use Rattle.mufom_meaning.specs.declared.located.Run.{Run}
use Rattle.mufom_text.proofs.FitLaws.{located-fits}
use Rattle.mufom_text.specs.Fitting.{FitsIn}
use Rattle.std.specs.Prelude.{All}
use Rattle.mufom_command.proofs.output.make_text.Goals as goal

pub make_text_file-requires-clause-some : goal.make_text_file-requires-clause-some
make_text_file-requires-clause-some g c =
    subst (λ (l : List Run). All HasByte l) (sym (c.as_slice.ensures ∙ ap (λ (p : LocatedParts). p.runs) c.parts.ensures.same))
    (located-bytes c.args.located.now c.parts.ensures.located)

pub make_text_file-requires-clause-within : goal.make_text_file-requires-clause-within
make_text_file-requires-clause-within g c =
    subst (λ (l : List Run). All FitsIn l) (sym (c.as_slice.ensures ∙ ap (λ (p : LocatedParts). p.runs) c.parts.ensures.same))
    (located-fits c.args.located.now c.parts.ensures.located).1
