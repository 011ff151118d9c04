use Rattle.std.proofs.Common.{List, None, ap, length, subst, sym, ◌∙◌, ◌≡◌}
use Rattle.mufom_prepare.proofs.WorkLaws.{linkable-tree}
use Rattle.mufom_groups.specs.Groups.{StopsWork}
use Rattle.mufom_groups.specs.Linked.{linked_module, members, roots}
use Rattle.mufom_groups.specs.Work.{gives}
use Rattle.mufom_meaning.specs.Selection.{IsSelected}
use Rattle.mufom_module.specs.declared.module.Parts.{Parts}
use Rattle.mufom_origins.specs.Origins.{numbered, origins_of}
use Rattle.mufom_origins.specs.Places.{with_chosen}
use Rattle.mufom_words.specs.Sound.{HasTree}
use Rattle.mufom_words.specs.Tree.{leaves, tree_of}
use Rattle.mufom_words.specs.declared.command.Mark.{Mark}
use Rattle.mufom_prepare.proofs.locating.traced_link.Goals as goal

pub link_with_members-requires-clause-tree : goal.link_with_members-requires-clause-tree
link_with_members-requires-clause-tree c =
    subst (λ (marks : List Mark). HasTree marks (length c.args.modules)) (sym c.as_slice-2.ensures)
    (linkable-tree c.args.inputs.now c.args.modules c.requires.linkable)

pub returns-in-Err-clause-refused : goal.returns-in-Err-clause-refused
returns-in-Err-clause-refused c =
    subst (λ (marks : List Mark). StopsWork (linked_module (tree_of marks) None c.args.modules) c.in-Err.refusal) c.as_slice-2.ensures
    c.in-Err.ensures.refused

pub returns-clause-ok : goal.returns-clause-ok
returns-clause-ok c =
    let linked = c.in-Ok-link_with_members.linked in let is = c.in-Ok-link_with_members.ensures in let ms = c.args.modules in
    let same = c.as_slice-2.ensures in
    record {
      links = subst (λ (marks : List Mark). linked_module (tree_of marks) None ms (gives linked.«module»)) same is.ok;
      valid = c.a_module_is_valid.ensures.valid;
      has = record {
        counted = subst (λ (marks : List Mark). linked.roots ≡ length (leaves (tree_of marks))) same is.count;
        selected = subst (λ (marks : List Mark). IsSelected (roots (tree_of marks) ms) (members (tree_of marks) ms) linked.chosen) same is.chosen;
      };
      from = c.in-Ok-selected.ensures
          ∙ (λ i. with_chosen linked.roots (c.as_slice-3.ensures i) ((c.in-Ok.ensures ∙ ap (λ (l : List Parts). origins_of (numbered l)) c.as_slice.ensures) i));
    }
