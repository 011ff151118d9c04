use Rattle.std.proofs.Common.{◌≡◌, ℕ, suc, ◌+◌, ◌-◌, [], ◌∷◌, ◌++◌, ◌/◌, ◌%◌, sym, ◌∙◌, ap, arith, append_assoc}
use Rattle.mufom_meaning.specs.Fields.{number_bytes}
use Rattle.mufom_image_bytes.proofs.field.least_first.Goals as goal

pub loop-preserved : goal.loop-preserved
loop-preserved c =
    let left : ℕ = c.args.size - (c.loop.counter + 1) in
    let next : c.args.size - c.loop.counter ≡ suc left = omega arith in
    let length_is = c.loop.invariant.0 in
    let pushed = c.push.ensures.items in (
      omega arith,
      ap (λ items. items ++ number_bytes left (c.loop.rest / 256)) pushed
          ∙ append_assoc c.loop.bytes.items ((c.loop.rest % 256) ∷ []) (number_bytes left (c.loop.rest / 256))
          ∙ ap (λ n. c.loop.bytes.items ++ number_bytes n c.loop.rest) (sym next)
          ∙ c.loop.invariant.1,
    )
