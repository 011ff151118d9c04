use Rattle.std.proofs.Common.{List, length, refl, subst, sym}
use Rattle.mufom_prepare.proofs.WorkLaws.{linkable-tree}
use Rattle.mufom_groups.specs.Groups.{StopsWork}
use Rattle.mufom_groups.specs.Linked.{linked_module}
use Rattle.mufom_groups.specs.Work.{gives}
use Rattle.mufom_words.specs.Sound.{HasTree}
use Rattle.mufom_words.specs.Tree.{tree_of}
use Rattle.mufom_words.specs.declared.command.Mark.{Mark}
use Rattle.mufom_prepare.proofs.tasks.link_file.Goals as goal

pub link_modules-requires-clause-tree : goal.link_modules-requires-clause-tree
link_modules-requires-clause-tree c =
    subst (λ (marks : List Mark). HasTree marks (length c.args.modules)) (sym c.as_slice.ensures)
    (linkable-tree c.args.inputs.now c.args.modules c.requires.linkable)

pub returns-in-Ok-clause-ok : goal.returns-in-Ok-clause-ok
returns-in-Ok-clause-ok c = record {
  «module» = c.in-Ok.module;
  links = subst (λ (marks : List Mark). linked_module (tree_of marks) c.args.name.now c.args.modules (gives c.in-Ok.module)) c.as_slice.ensures
      c.in-Ok.ensures.ok;
  held = record { valid = c.a_module_is_valid.ensures.valid; made = c.a_module_is_valid.ensures.made };
  output = refl;
  is = tt;
}

pub returns-in-Err-clause-refused : goal.returns-in-Err-clause-refused
returns-in-Err-clause-refused c =
    subst (λ (marks : List Mark). StopsWork (linked_module (tree_of marks) c.args.name.now c.args.modules) c.in-Err.refusal) c.as_slice.ensures
    c.in-Err.ensures.refused
