use Rattle.std.proofs.Common.{List, ap, subst, sym, ◌∙◌}
use Rattle.mufom_meaning.specs.AddressMap.{AreApart}
use Rattle.mufom_meaning.specs.declared.located.LocatedParts.{LocatedParts}
use Rattle.mufom_meaning.specs.declared.located.Run.{Run}
use Rattle.mufom_command.proofs.WritingLaws.{located-apart}
use Rattle.mufom_command.proofs.output.make_range.Goals as goal

pub make_range_file-requires : goal.make_range_file-requires
make_range_file-requires g c =
    subst (λ (l : List Run). AreApart 0 l) (sym (c.as_slice-runs.ensures ∙ ap (λ (p : LocatedParts). p.runs) c.parts.ensures.same))
    (located-apart c.args.located.now c.parts.ensures.located)
