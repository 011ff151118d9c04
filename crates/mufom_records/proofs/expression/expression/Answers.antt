use Rattle.std.proofs.Common.{◌≡◌, ◌-◌, refl, arith, Ok}
use Rattle.mufom_numbers.proofs.SpellingLaws.{are_bytes}
use Rattle.mufom_records.specs.Fields.{span_at}
use Rattle.mufom_records.specs.Reading.{expression_at}
use Rattle.mufom_records.proofs.ExpressionLaws.{expression-part}
use Rattle.mufom_records.proofs.KeptTokens.{expression-tokens}
use Rattle.mufom_records.proofs.expression.expression.Goals as goal

pub returns-clause-part : goal.returns-clause-part
returns-clause-part c =
    let fits = are_bytes c.args.input.now (λ i. omega (arith, c.type_inv.input i)) in
    let span = span_at c.args.start (c.in_ok-at.at - c.args.start) in
    let gives : expression_at c.args.input.now c.args.start ≡ Ok (span, c.in_ok-at.at) = rw (← c.in_ok-at.ensures.exact) refl in
    expression-part c.args.input.now c.args.start fits span c.in_ok-at.at gives c.requires

pub returns-clause-tokens : goal.returns-clause-tokens
returns-clause-tokens c =
    let fits = are_bytes c.args.input.now (λ i. omega (arith, c.type_inv.input i)) in
    let span = span_at c.args.start (c.in_ok-at.at - c.args.start) in
    let gives : expression_at c.args.input.now c.args.start ≡ Ok (span, c.in_ok-at.at) = rw (← c.in_ok-at.ensures.exact) refl in
    expression-tokens c.args.input.now c.args.start fits span c.in_ok-at.at gives _ c.in_ok-at.ensures.tokens
