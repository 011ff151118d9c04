use Rattle.std.proofs.Common.{◌≤◌, ◌-◌, ◌∙◌, ap, arith}
use Rattle.mufom_meaning.specs.LinkAnswer.{link_answer}
use Rattle.mufom_meaning.specs.StagingLaws.{total_weight}
use Rattle.mufom_make.proofs.ListLaws.{all-light, linkable}
use Rattle.mufom_make.proofs.LinkLaws.{link-found}
use Rattle.mufom_make.proofs.linking.linked_between.Goals as goal

pub linked-requires-clause-light : goal.linked-requires-clause-light
linked-requires-clause-light c =
    let some = c.requires.some in
    let few : c.args.end ≤ 65536 = c.requires.few in
    let light = all-light c.args.count (c.args.end - c.args.first) c.args.first (omega (arith, some, few)) in
    let same = ap total_weight c.in_ok-modules.ensures in
    omega (arith, some, few, light, same)

pub linked-requires-clause-linkable : goal.linked-requires-clause-linkable
linked-requires-clause-linkable c =
    let some = c.requires.some in
    let few : c.args.end ≤ 65536 = c.requires.few in
    ap link_answer c.in_ok-modules.ensures ∙ linkable c.args.count (c.args.end - c.args.first) c.args.first (omega (arith, some, few))

pub returns : goal.returns
returns c =
    let some = c.requires.some in
    let few : c.args.end ≤ 65536 = c.requires.few in
    link-found c.linked.result c.args.count (c.args.end - c.args.first) c.args.first c.in_ok-modules.modules.items (omega (arith, some, few))
    c.in_ok-modules.ensures
    c.linked.ensures.joined c.linked.ensures.named c.linked.ensures.light
