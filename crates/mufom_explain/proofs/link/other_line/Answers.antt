use Rattle.std.proofs.Common.{◌∙◌, [], List, ℕ, sym, subst}
use Rattle.mufom_explain.specs.Flat.{file_module}
use Rattle.mufom_explain.specs.Lines.{module_line}
use Rattle.mufom_explain.proofs.LinkLaws.{none-more, other-nowhere, other-there}
use Rattle.mufom_origins.specs.Words.{all_files}
use Rattle.mufom_explain.proofs.link.other_line.Goals as goal

pub returns-then-differs_from : goal.returns-then-differs_from
returns-then-differs_from g c =
    let flat = c.args.flat.now in let i = c.loop-position.position in let f = c.index-flat-position.result in
    let differs = sym (c.differs_from.ensures i f.place) ∙ c.if-differs_from.true in
    let same = other-there (all_files c.args.names.now) flat i f c.loop-position-test.true c.index-flat-position.is differs c.loop-position.invariant.1 in
    subst (λ (t : List ℕ). g.K.Output.takes c.args.out.now c.module_line.new.out t) (sym same)
    (g.met.K.Output.joins _ _ _ [] (module_line (all_files c.args.names.now) i (file_module f)) c.loop-position.invariant.0 c.module_line.ensures)

pub loop-position-preserved : goal.loop-position-preserved
loop-position-preserved g c =
    let flat = c.args.flat.now in let i = c.loop-position.position in let f = c.index-flat-position.result in
    let fails = sym (c.differs_from.ensures i f.place) ∙ c.if-differs_from.false in (
      c.loop-position.invariant.0,
      none-more flat i f c.loop-position-test.true c.index-flat-position.is fails c.loop-position.invariant.1,
    )

pub returns : goal.returns
returns g c =
    let flat = c.args.flat.now in
    let same = other-nowhere (all_files c.args.names.now) flat c.loop-position.position c.loop-position-test.false c.loop-position.invariant.1 in
    subst (λ (t : List ℕ). g.K.Output.takes c.args.out.now c.loop-position.out t) (sym same) c.loop-position.invariant.0
