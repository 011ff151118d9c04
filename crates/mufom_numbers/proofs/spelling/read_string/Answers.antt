use Rattle.std.proofs.Common.{arith, ap, sym, ◌∙◌}
use Rattle.mufom_numbers.specs.Spelling.{string_at}
use Rattle.mufom_numbers.proofs.StringLaws.{string_at-spelling, string_at-taken, string_at-cut_off, more-string_cut_off, string_at-bad, bad-string_at}
use Rattle.mufom_numbers.proofs.SpellingLaws.{are_bytes}
use Rattle.mufom_numbers.proofs.spelling.read_string.Goals as goal

pub returns-clause-only : goal.returns-clause-only
returns-clause-only c = λ lead text rest is e. c.string.ensures.exact ∙ ap string_at e ∙ string_at-spelling lead text rest is

pub returns-clause-got : goal.returns-clause-got
returns-clause-got c = rw c.string.ensures.exact (string_at-taken c.args.input.now (are_bytes c.args.input.now (λ i. omega (arith, c.type_inv.input i))))

pub returns-clause-more : goal.returns-clause-more
returns-clause-more c =
    let fits = are_bytes c.args.input.now (λ i. omega (arith, c.type_inv.input i)) in
    (λ e. more-string_cut_off c.args.input.now fits (sym c.string.ensures.exact ∙ e), λ h. c.string.ensures.exact ∙ string_at-cut_off h.0 c.args.input.now h.1)

pub returns-clause-bad : goal.returns-clause-bad
returns-clause-bad c =
    let fits = are_bytes c.args.input.now (λ i. omega (arith, c.type_inv.input i)) in
    (λ e. bad-string_at c.args.input.now fits (sym c.string.ensures.exact ∙ e), λ h. c.string.ensures.exact ∙ string_at-bad c.args.input.now h)
