use Rattle.std.proofs.Common.{List, ap, length, subst, sym, ◌∙◌, ◌≡◌}
use Rattle.mufom_works.proofs.EndLaws.{if-ok-map}
use Rattle.mufom_prepare.proofs.WorkLaws.{linkable-tree}
use Rattle.mufom_works.specs.HasDetails.{IsRefusedFlat, modules_at_places}
use Rattle.mufom_explain.specs.Flat.{flat_of}
use Rattle.mufom_groups.specs.Linked.{linked}
use Rattle.mufom_groups.specs.Refused.{IsRefusedList}
use Rattle.mufom_groups.specs.Work.{stops}
use Rattle.mufom_meaning.specs.Facts.{LinkFact}
use Rattle.mufom_origins.specs.Origins.{numbered}
use Rattle.mufom_origins.specs.Places.{at_positions}
use Rattle.mufom_words.specs.Sound.{HasTree}
use Rattle.mufom_words.specs.Tree.{tree_of}
use Rattle.mufom_words.specs.declared.command.Mark.{Mark}
use Rattle.mufom_explain_modules.proofs.explain_modules.refused_list.Goals as goal

pub refused_places-requires-clause-tree : goal.refused_places-requires-clause-tree
refused_places-requires-clause-tree c =
    subst (λ (marks : List Mark). HasTree marks (length c.args.modules.now)) (sym c.as_slice.ensures)
    (linkable-tree c.args.inputs.now c.args.modules.now c.requires.linkable)

pub returns-clause-list : goal.returns-clause-list
returns-clause-list c =
    let ms = c.args.modules.now in let inputs = c.args.inputs.now in let files = c.in_ok-places.places in
    let list : (f : LinkFact) → linked (tree_of inputs.marks) ms (stops f) → IsRefusedList (tree_of inputs.marks) ms files f
    = subst (λ (marks : List Mark). (f : LinkFact) → linked (tree_of marks) ms (stops f) → IsRefusedList (tree_of marks) ms files f) c.as_slice.ensures
    c.in_ok-places.ensures.list in
    if-ok-map c.flat_modules.result (λ flat. flat_of flat.items ≡ at_positions (numbered ms) c.as_slice-2.result.now)
    (λ flat. (f : LinkFact) → linked (tree_of inputs.marks) ms (stops f) → IsRefusedFlat inputs ms f (flat_of flat.items))
    (λ flat is f ends. (files, list f ends, is ∙ ap (modules_at_places ms) c.as_slice-2.ensures)) c.flat_modules.ensures.flat
