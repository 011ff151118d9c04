use Rattle.std.proofs.Common.{◌∙◌, sym, ap, subst}
use Rattle.std.proofs.Common.{List}
use Rattle.std.specs.List.{AllByRecursion}
use Rattle.mufom_expr.specs.declared.token.Token.{Token}
use Rattle.mufom_expr.specs.Tree.{tokens_of, IsInRange}
use Rattle.mufom_expr.specs.Terms.{the_term, LeaveOneTerm}
use Rattle.mufom_records.proofs.PostfixLaws.{one-expression, one-token}
use Rattle.mufom_records.proofs.postfix.postfix_of.Goals as goal

pub single-requires : goal.single-requires
single-requires c =
    let tokens = c.args.tokens.now in
    subst (λ (l : List Token). LeaveOneTerm l) (one-token tokens _ c.in-len1.len_at_least c.in-len1.len_below) (one-expression tokens c.requires).one

pub of-requires-clause-one : goal.of-requires-clause-one
of-requires-clause-one c =
    subst (λ (l : List Token). LeaveOneTerm l) (sym c.in_ok-from_slice-in_default.ensures.items) (one-expression c.args.tokens.now c.requires).one

pub of-requires-clause-range : goal.of-requires-clause-range
of-requires-clause-range c =
    subst (λ (l : List Token). AllByRecursion IsInRange l) (sym c.in_ok-from_slice-in_default.ensures.items)
    (one-expression c.args.tokens.now c.requires).range

pub returns-in-len1 : goal.returns-in-len1
returns-in-len1 c =
    let tokens = c.args.tokens.now in
    let one = one-token tokens _ c.in-len1.len_at_least c.in-len1.len_below in
    (one-expression tokens c.requires).back ∙ ap (λ (l : List Token). tokens_of (the_term l)) one ∙ ap tokens_of (sym c.single.ensures)

pub returns-in_ok-from_slice-in_default : goal.returns-in_ok-from_slice-in_default
returns-in_ok-from_slice-in_default c =
    (one-expression c.args.tokens.now c.requires).back
    ∙ ap (λ (l : List Token). tokens_of (the_term l)) (sym c.in_ok-from_slice-in_default.ensures.items)
    ∙ ap tokens_of (sym c.of.ensures)
