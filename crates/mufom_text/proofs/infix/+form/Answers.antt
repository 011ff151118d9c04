use Rattle.std.proofs.Common.{List, ℕ, [], ◌∷◌, arith, subst, sym, ◌∙◌}
use Rattle.std.proofs.lemmas.List.{length-take-le}
use Rattle.mufom_text.proofs.TermLaws.{some_left, all_after, number_plain, variable_plain, number_form, variable_form, plain_whole, operand_known}
use Rattle.mufom_text.proofs.TermLaws.{operands_known, parted, over_one_form, over_two_form}
use Rattle.mufom_text.proofs.infix.+form.Goals as goal

pub infix-unreachable-requires : goal.infix-unreachable-requires
infix-unreachable-requires g t c = some_left c.args.tokens.now c.in_default.ensures.cases c.requires.known

pub infix-returns-in-Number : goal.infix-returns-in-Number
infix-returns-in-Number g t c = λ tree e.
    let one = plain_whole c.args.tokens.now c.in-Some.before.now c.in-Some.last.now c.in-Some.ensures.cases.0
    (λ function f. number_plain c.in-Number.value function (sym c.in-Number.is ∙ f)) tree e in
    let form = number_form c.in-Number.value tree (one ∙ (λ i. c.in-Number.is i ∷ [])) in
    subst (λ (text : List ℕ). g.K.Output.takes c.args.out.now c.number.new.out text) (sym form) c.number.ensures

pub infix-returns-in-Var : goal.infix-returns-in-Var
infix-returns-in-Var g t c = λ tree e.
    let one = plain_whole c.args.tokens.now c.in-Some.before.now c.in-Some.last.now c.in-Some.ensures.cases.0
    (λ function f. variable_plain c.in-Var.letter c.in-Var.place function (sym c.in-Var.is ∙ f)) tree e in
    let form = variable_form c.in-Var.letter c.in-Var.place tree (one ∙ (λ i. c.in-Var.is i ∷ [])) in
    subst (λ (text : List ℕ). g.K.Output.takes c.args.out.now c.numbered.new.out text) (sym form)
    (rw (c.as_bytes.ensures.value, c.letter_name.ensures) at c.numbered.ensures)

pub over_one-infix-requires : goal.over_one-infix-requires
over_one-infix-requires g t c κs within = (omega arith, (within, operand_known c.args.operand.now c.args.function c.requires.one c.requires.known))

pub over_one-returns : goal.over_one-returns
over_one-returns g t c = λ tree e.
    let l = g.met.K.Output in
    let form = over_one_form c.args.operand.now c.args.function tree c.requires.one e in
    subst (λ (text : List ℕ). g.K.Output.takes c.args.out.now c.put-2.new.self text) (sym form.2)
    (l.joins _ _ _ _ _ (l.joins _ _ _ _ _ (rw (c.as_bytes.ensures.value, c.infix_opening.ensures) at c.put.ensures)
    (c.infix.ensures form.0 form.1)) c.put-2.ensures)

pub over_two-last_term-second-requires : goal.over_two-last_term-second-requires
over_two-last_term-second-requires g t c = record { known = operands_known c.args.operands.now c.args.function c.requires.two c.requires.known }

pub over_two-infix-requires : goal.over_two-infix-requires
over_two-infix-requires g t c κs within =
    let both = parted c.args.operands.now c.last_term-second.result c.args.function c.requires.two c.last_term-second.ensures.start c.requires.known.0
    c.requires.known.1 in (
      omega (
        arith,
        c.last_term-second.ensures.within,
        length-take-le c.last_term-second.result c.args.operands.now
            (omega (arith, c.last_term-second.ensures.within)),
      ),
      (within, (both.a, both.first_is)),
    )

pub over_two-infix-requires-2 : goal.over_two-infix-requires-2
over_two-infix-requires-2 g t c κs within =
    let both = parted c.args.operands.now c.last_term-second.result c.args.function c.requires.two c.last_term-second.ensures.start c.requires.known.0
    c.requires.known.1 in
    (omega arith, (within, (both.b, all_after c.args.operands.now c.last_term-second.result ∙ both.second_is)))

pub over_two-returns : goal.over_two-returns
over_two-returns g t c = λ tree e.
    let l = g.met.K.Output in
    let both = parted c.args.operands.now c.last_term-second.result c.args.function c.requires.two c.last_term-second.ensures.start tree e in
    let form = over_two_form c.args.operands.now c.last_term-second.result c.args.function tree both in
    subst (λ (text : List ℕ). g.K.Output.takes c.args.out.now c.put-3.new.self text) (sym form)
    (l.joins _ _ _ _ _ (l.joins _ _ _ _ _ (l.joins _ _ _ _ _ (l.joins _ _ _ _ _
    (rw (c.as_bytes.ensures.value, c.infix_opening.ensures) at c.put.ensures) (c.infix.ensures both.a both.first_is))
    (rw (c.as_bytes-2.ensures.value, c.infix_middle.ensures) at c.put-2.ensures))
    (c.infix-2.ensures both.b (all_after c.args.operands.now c.last_term-second.result ∙ both.second_is))) c.put-3.ensures)
