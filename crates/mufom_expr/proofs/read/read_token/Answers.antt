use Rattle.std.proofs.Common.{◌∙◌, ap, sym, subst, arith}
use Rattle.mufom_numbers.specs.declared.taken.Taken.{Taken}
use Rattle.mufom_numbers.proofs.SpellingLaws.{are_bytes}
use Rattle.mufom_expr.specs.declared.token.Token.{Token}
use Rattle.mufom_expr.specs.TokenAt.{token_at}
use Rattle.mufom_expr.proofs.TokenLaws.{States, states, got_prefix, token_at-spelling, cut_off-more, left_out-function, left_out-letter, bad_index}
use Rattle.mufom_expr.proofs.read.read_token.Goals as goal

pub returns-clause-got : goal.returns-clause-got
returns-clause-got c =
    let fits = are_bytes c.args.input.now (λ i. omega (arith, c.type_inv.input i)) in
    let Stated : Taken Token → Type 0 = λ r. States c.args.input.now r in
    got_prefix c.args.input.now c.token.result (subst Stated (sym c.token.ensures.exact) (states c.args.input.now fits))

pub returns-clause-only : goal.returns-clause-only
returns-clause-only c = λ t text rest spells same. c.token.ensures.exact ∙ ap token_at same ∙ token_at-spelling t text rest spells

pub returns-clause-more : goal.returns-clause-more
returns-clause-more c =
    let fits = are_bytes c.args.input.now (λ i. omega (arith, c.type_inv.input i)) in
    let Stated : Taken Token → Type 0 = λ r. States c.args.input.now r in
    (λ e. subst Stated (sym c.token.ensures.exact ∙ e) (states c.args.input.now fits), λ h. c.token.ensures.exact ∙ cut_off-more c.args.input.now h)

pub returns-clause-function : goal.returns-clause-function
returns-clause-function c =
    let fits = are_bytes c.args.input.now (λ i. omega (arith, c.type_inv.input i)) in
    let Stated : Taken Token → Type 0 = λ r. States c.args.input.now r in
    (λ e. subst Stated (sym c.token.ensures.exact ∙ e) (states c.args.input.now fits), λ h. c.token.ensures.exact ∙ left_out-function c.args.input.now h)

pub returns-clause-variable : goal.returns-clause-variable
returns-clause-variable c =
    let fits = are_bytes c.args.input.now (λ i. omega (arith, c.type_inv.input i)) in
    let Stated : Taken Token → Type 0 = λ r. States c.args.input.now r in
    (λ e. subst Stated (sym c.token.ensures.exact ∙ e) (states c.args.input.now fits), λ h. c.token.ensures.exact ∙ left_out-letter c.args.input.now h)

pub returns-clause-index : goal.returns-clause-index
returns-clause-index c =
    let fits = are_bytes c.args.input.now (λ i. omega (arith, c.type_inv.input i)) in
    let Stated : Taken Token → Type 0 = λ r. States c.args.input.now r in
    (λ e. subst Stated (sym c.token.ensures.exact ∙ e) (states c.args.input.now fits), λ h. c.token.ensures.exact ∙ bad_index c.args.input.now h)
