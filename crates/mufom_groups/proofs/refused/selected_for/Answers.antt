use Rattle.std.proofs.Common.{◌≡◌, Option, None, subst}
use Rattle.std.specs.Prelude.{IfSome}
use Rattle.mufom_module.specs.declared.module.Parts.{Parts}
use Rattle.mufom_meaning.specs.Joined.{IsJoined}
use Rattle.mufom_meaning.specs.LinkAnswer.{link_answer}
use Rattle.mufom_meaning.specs.StagingLaws.{a_link}
use Rattle.mufom_groups.specs.Linked.{first_name}
use Rattle.mufom_groups.proofs.WholeLink.{selected-there}
use Rattle.mufom_groups.proofs.refused.selected_for.Goals as goal

pub returns-in_ok-select-in-Some-clause-selected : goal.returns-in_ok-select-in-Some-clause-selected
returns-in_ok-select-in-Some-clause-selected c =
    let tree = c.args.tree.now in
    let (joined, fine) = subst (λ (o : Option Parts). IfSome o (λ M. IsJoined M tree (first_name tree) × (link_answer tree ≡ None))) c.in-Some.is
    c.in_ok-module.ensures.linked in (
      selected-there c.in-Some.module tree c.args.members.now _ (a_link c.in-Some.module tree (first_name tree) joined fine)
          c.in_ok-select-in-Some.ensures,
      fine,
    )
