use Rattle.std.proofs.Common.{◌≡◌, Option, subst}
use Rattle.mufom_works.proofs.EndLaws.{if-err-map, if-ok-map}
use Rattle.mufom_works.proofs.LocatingLaws.{link-names}
use Rattle.mufom_prepare.proofs.PartLaws.{part-mapped, unlocated-is}
use Rattle.mufom_prepare.specs.Locations.{AreMapped, IsKeptPart, IsObstacle, IsUnlocatedPart, LocatesPart}
use Rattle.mufom_works.specs.Roots.{Roots, roots_by, roots_with}
use Rattle.mufom_words.specs.Tree.{tree_of}
use Rattle.mufom_prepare.proofs.locating.locate_modules.Goals as goal

pub kept_part-requires-clause-names : goal.kept_part-requires-clause-names
kept_part-requires-clause-names c =
    link-names (tree_of c.args.inputs.now.marks) c.args.modules c.requires.linkable.valid c.in-Ok.link.0.«module» c.in-Ok.ensures.ok.links

pub returns-in-Ok-kept_part-clause-ok : goal.returns-in-Ok-kept_part-clause-ok
returns-in-Ok-kept_part-clause-ok c =
    let tree = tree_of c.args.inputs.now.marks in let keep = roots_by c.args.keep.now c.args.plan in let plan = c.args.plan in let ms = c.args.modules in
    let whole = c.in-Ok.link.0 in let places = c.in-Ok.link.1 in let part = c.in-Ok-kept_part.part in
    let same : roots_with c.as_slice.result.now c.as_slice-2.result.now ≡ keep = λ i. roots_with (c.as_slice.ensures i) (c.as_slice-2.ensures i) in
    if-ok-map c.locate_part.result (LocatesPart part plan) (AreMapped tree keep plan ms)
    (λ m at. part-mapped tree c.requires.linkable.sound.tree.numbered ms c.requires.linkable.valid keep plan places whole part c.in-Ok.ensures.ok
    (subst (λ (k : Option Roots). IsKeptPart k whole part) same c.in-Ok-kept_part.ensures.ok) c.in-Ok-kept_part.ensures.names c.in-Ok-kept_part.ensures.light c.requires.plan m at) c.locate_part.ensures.ok

pub returns-in-Ok-kept_part-clause-obstacle : goal.returns-in-Ok-kept_part-clause-obstacle
returns-in-Ok-kept_part-clause-obstacle c =
    let tree = tree_of c.args.inputs.now.marks in let names = c.args.keep.now in let plan = c.args.plan in let ms = c.args.modules in
    let whole = c.in-Ok.link.0 in let places = c.in-Ok.link.1 in let part = c.in-Ok-kept_part.part in
    let same : roots_with c.as_slice.result.now c.as_slice-2.result.now ≡ roots_by names plan
    = λ i. roots_with (c.as_slice.ensures i) (c.as_slice-2.ensures i) in
    if-err-map c.locate_part.result (IsUnlocatedPart part plan places) (IsObstacle tree names ms)
    (λ o is. unlocated-is tree names ms places whole part plan c.in-Ok.ensures.ok
    (subst (λ (k : Option Roots). IsKeptPart k whole part) same c.in-Ok-kept_part.ensures.ok) c.in-Ok-kept_part.ensures.names c.in-Ok-kept_part.ensures.light c.requires.plan o is)
    c.locate_part.ensures.refused
