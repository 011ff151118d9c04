use Rattle.std.proofs.Common.{◌∙◌, List, map, ap, subst, length, append-nil, arith}
use Rattle.std.specs.List.{enumerate_from}
use Rattle.mufom_expr.specs.Tree.{Tree}
use Rattle.mufom_debug.specs.declared.item.DebugItem.{DebugItem}
use Rattle.mufom_debug.specs.Marks.{marks_of, expressions_of}
use Rattle.mufom_module.specs.declared.module.Parts.{Parts}
use Rattle.mufom_place.specs.Facts.{first_some}
use Rattle.mufom_meaning.specs.Walk.{SitedTree, debug_fact}
use Rattle.mufom_image_values.specs.Evaluated.{alone, setting_of}
use Rattle.mufom_image_entries.specs.Valued.{divides, IsFirstDivision}
use Rattle.mufom_image_entries.proofs.Counts.{few-expressions}
use Rattle.mufom_image_entries.proofs.Firsts.{first-debug}
use Rattle.mufom_image_entries.proofs.debug.first_debug_division.Goals as goal

pub first_division-requires-clause-few : goal.first_division-requires-clause-few
first_division-requires-clause-few c =
    let m = c.args.valued.now.placed.now.graph.parts.now in
    let all = c.in_ok-all.ensures ∙ ap (λ (items : List DebugItem). expressions_of (marks_of items)) (c.as_slice.ensures
    ∙ ap (λ (parts : Parts). parts.debug) c.parts.ensures) in
    let few = few-expressions m c.requires.placed.graph.valid in
    omega (arith, few, ap (λ (ts : List Tree). length ts) all)

pub returns : goal.returns
returns c =
    let valued = c.args.valued.now in
    let m = valued.placed.now.graph.parts.now in
    let s = setting_of valued.placed.now in
    let trees = expressions_of (marks_of m.debug) in
    let all = c.in_ok-all.ensures ∙ ap (λ (items : List DebugItem). expressions_of (marks_of items)) (c.as_slice.ensures
    ∙ ap (λ (parts : Parts). parts.debug) c.parts.ensures) in
    let first = subst (λ (ts : List Tree). IsFirstDivision (divides valued) ts c.first_division.result) all c.first_division.ensures in
    ap (λ (xs : List SitedTree). first_some (debug_fact s) (enumerate_from 0 xs)) (append-nil (map (λ t. (alone m, t)) trees))
    ∙ first-debug s (alone m) trees c.first_division.result first
