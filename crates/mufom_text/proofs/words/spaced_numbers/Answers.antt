use Rattle.std.proofs.Common.{ℕ, List, codes, ◌++◌, refl}
use Rattle.std.specs.Fmt.{decimal}
use Rattle.mufom_text.proofs.Loops.{flat-step}
use Rattle.mufom_text.proofs.words.spaced_numbers.Goals as goal

pub loop-value-preserved : goal.loop-value-preserved
loop-value-preserved g c =
    let write : ℕ → List ℕ = λ n. codes " " ++ decimal n in
    flat-step g.K.Output.takes g.met.K.Output.joins write c.args.values.now c.loop-value.value-index 0 _ _ _ _ c.loop-value-test.true refl
    c.loop-value.invariant c.numbered.ensures
