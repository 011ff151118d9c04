use Rattle.std.proofs.Common.{◌≡◌, ◌∙◌, List, [], ◌∷◌, sym, ap, subst, true, false}
use Rattle.std.proofs.lemmas.Result.{err_from_is_err_and}
use Rattle.mufom_locating.proofs.JoinLaws.{unnamed-met, unnamed-planned}
use Rattle.mufom_locating.proofs.locating.located_parts.Goals as goal

pub returns-in_err-locate_copied-clause-refused : goal.returns-in_err-locate_copied-clause-refused
returns-in_err-locate_copied-clause-refused c =
    let none = c.is_empty.ensures.0 c.if-is_empty.true in
    let p = err_from_is_err_and c.from_residual.result c.from_residual.ensures.1 in
    rw (p.1, p.2) (unnamed-met c.args.module.now c.args.plan.now none c.in_err-locate_copied.field-0.0 c.in_err-locate_copied.ensures.refused)

pub returns-then-is_empty-clause-located : goal.returns-then-is_empty-clause-located
returns-then-is_empty-clause-located c =
    let none = c.is_empty.ensures.0 c.if-is_empty.true in
    unnamed-planned c.args.module.now c.args.plan.now none c.requires.names c.in_ok-locate_copied.field-0 c.in_ok-locate_copied.ensures.located

pub locate_named-requires-clause-some : goal.locate_named-requires-clause-some
locate_named-requires-clause-some c = λ none. (let is = sym (c.is_empty.ensures.1 none) ∙ c.if-is_empty.false in cc)
