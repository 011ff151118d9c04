use Rattle.std.proofs.Common.{arith, sym, ◌∙◌}
use Rattle.std.proofs.lemmas.List.{length-take-le}
use Rattle.mufom_text.proofs.TermLaws.{none_ends, split_known, plain_start, number_plain, variable_plain, one_end, last_known, first_known, first_start}
use Rattle.mufom_text.proofs.infix.+terms.Goals as goal

pub last_term-unreachable-requires : goal.last_term-unreachable-requires
last_term-unreachable-requires t c = none_ends c.args.tokens.now c.in_default.ensures.cases c.requires.known

pub last_term-operands_begin-requires : goal.last_term-operands_begin-requires
last_term-operands_begin-requires t c =
    let split = c.in-Some.ensures.cases in
    (omega (arith, split.1), split_known c.args.tokens.now c.in-Some.before.now c.in-Some.last.now c.in-Fun.function split.0 c.in-Fun.is c.requires.known)

pub last_term-returns-in-Number-clause-start : goal.last_term-returns-in-Number-clause-start
last_term-returns-in-Number-clause-start t c =
    plain_start c.args.tokens.now c.in-Some.before.now c.in-Some.last.now c.in-Some.ensures.cases.0
    (λ function e. number_plain c.in-Number.field-0 function (sym c.in-Number.is ∙ e))

pub last_term-returns-in-Var-clause-start : goal.last_term-returns-in-Var-clause-start
last_term-returns-in-Var-clause-start t c =
    plain_start c.args.tokens.now c.in-Some.before.now c.in-Some.last.now c.in-Some.ensures.cases.0
    (λ function e. variable_plain c.in-Var.field-0 c.in-Var.field-1 function (sym c.in-Var.is ∙ e))

pub operands_begin-last_term-last-requires : goal.operands_begin-last_term-last-requires
operands_begin-last_term-last-requires t c = (omega arith, last_known c.args.before.now c.args.function c.requires.known)

pub operands_begin-last_term-requires : goal.operands_begin-last_term-requires
operands_begin-last_term-requires t c = (
  omega (
    arith,
    c.last_term-last.ensures.within,
    length-take-le c.last_term-last.result c.args.before.now (omega (arith, c.last_term-last.ensures.within)),
  ),
  first_known c.args.before.now c.args.function c.last_term-last.result (sym c.takes_one.ensures
      ∙ c.if-takes_one.false) c.requires.known c.last_term-last.ensures.start,
)

pub operands_begin-returns-then-takes_one-clause-start : goal.operands_begin-returns-then-takes_one-clause-start
operands_begin-returns-then-takes_one-clause-start t c = λ prefix tree e.
    let it = one_end prefix tree c.args.before.now c.args.function (sym c.takes_one.ensures ∙ c.if-takes_one.true) e in
    c.last_term-last.ensures.start prefix it.a it.split

pub operands_begin-returns-else-takes_one-clause-start : goal.operands_begin-returns-else-takes_one-clause-start
operands_begin-returns-else-takes_one-clause-start t c = first_start c.args.before.now c.args.function c.last_term-last.result c.last_term.result
    (sym c.takes_one.ensures ∙ c.if-takes_one.false) c.last_term-last.ensures.start c.last_term.ensures.start
