use Rattle.std.proofs.Common.{◌∙◌, ◌≤◌, List, sym, ap, subst}
use Rattle.std.specs.Prelude.{is_some}
use Rattle.mufom_module.specs.declared.module.Parts.{Parts}
use Rattle.mufom_meaning.specs.LinkAnswer.{link_answer}
use Rattle.mufom_meaning.specs.Staging.{AreValid}
use Rattle.mufom_meaning.specs.StagingLaws.{total_weight}
use Rattle.mufom_groups.proofs.RefusedLaws.{light-within, range-found, range-passed, valid-between}
use Rattle.mufom_groups.proofs.refused.refused_range.Goals as goal

pub is_refused-requires-clause-valid : goal.is_refused-requires-clause-valid
is_refused-requires-clause-valid c = subst AreValid (sym c.modules_between.ensures) (valid-between _ _ c.args.modules.now c.requires.valid)

pub is_refused-requires-clause-light : goal.is_refused-requires-clause-light
is_refused-requires-clause-light c =
    subst (λ (l : List Parts). total_weight l ≤ _) (sym c.modules_between.ensures)
    (light-within _ _ c.args.modules.now _ c.requires.light)

pub returns-then-branch-clause-first : goal.returns-then-branch-clause-first
returns-then-branch-clause-first c = range-found c.args.modules.now c.args.ranges.now c.loop-range.range-index _ c.loop-range-test.true c.loop-range.invariant
    (ap (λ (l : List Parts). is_some (link_answer l)) (sym c.modules_between.ensures) ∙ sym c.in_ok-is_refused.ensures ∙ c.if-branch.true)

pub loop-range-preserved : goal.loop-range-preserved
loop-range-preserved c = range-passed c.args.modules.now c.args.ranges.now c.loop-range.range-index _ c.loop-range-test.true c.loop-range.invariant
    (ap (λ (l : List Parts). is_some (link_answer l)) (sym c.modules_between.ensures) ∙ sym c.in_ok-is_refused.ensures ∙ c.if-branch.false)
