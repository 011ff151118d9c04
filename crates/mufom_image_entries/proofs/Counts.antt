-- A module without a defect has fewer than 2^32 debug expressions, and its debug blocks are at most 32 deep.
use Rattle.std.proofs.Common.{◌<◌, ◌≤◌, ◌^◌, List, [], ◌∷◌, Option, Some, None, length, sum_by, length-append, arith}
use Rattle.std.specs.Prelude.{option_to_list}
use Rattle.std.proofs.lemmas.List.Sums.{sum_by-cons}
use Rattle.mufom_expr.specs.Tree.{Tree}
use Rattle.mufom_debug.specs.declared.item.BlockHead.TheVariants as heads
use Rattle.mufom_debug.specs.Marks.{DebugMark, block_begin, block_end, name_mark, note_mark, value_mark, marks_of, depth_of, mark_expressions, expressions_of}
use Rattle.mufom_module.specs.declared.module.Parts.{Parts}
use Rattle.mufom_module.specs.declared.module.Defect.TheVariants as kinds
use Rattle.mufom_module.specs.Defects.{IsValid}
use Rattle.mufom_module.specs.Written.{weight}
use Rattle.mufom_module.specs.Weights.{mark_weight}
use Rattle.mufom_module.proofs.WeightLaws.{weight-sum}
use Rattle.mufom_numbers.proofs.Choices.{of_not_le, of_not_lt}
use Rattle.mufom_meaning.proofs.NoDefects.{no_defect}

optional : (o : Option Tree) → length (option_to_list o) ≤ 1
optional None = omega arith
optional (Some t) = omega arith

-- a mark has at most one expression, and weighs something
one_each : (mark : DebugMark) → length (mark_expressions mark) ≤ mark_weight mark
one_each (block_begin heads.Module name) = omega arith
one_each (block_begin (heads.Global stack type_index offset) name) = omega arith
one_each (block_begin (heads.Source numbers) name) = omega arith
one_each (block_begin (heads.Local stack type_index offset) name) = omega arith
one_each (block_begin (heads.Section section_type section offset) name) = omega arith
one_each (block_end end) = let few = optional end in omega (arith, few)
one_each (name_mark name) = omega arith
one_each (note_mark name note) = omega arith
one_each (value_mark name t) = omega arith

expressions-count : (marks : List DebugMark) → length (expressions_of marks) ≤ sum_by mark_weight marks
expressions-count [] = omega arith
expressions-count (mark ∷ marks) =
    let a = length-append (mark_expressions mark) (expressions_of marks) in
    let b = one_each mark in
    let c = sum_by-cons mark_weight mark marks in
    let rest = expressions-count marks in
    omega (arith, a, b, c, rest)

pub few-expressions : (m : Parts) → IsValid m → length (expressions_of (marks_of m.debug)) < 2 ^ 32
few-expressions m valid =
    let a = of_not_le (2 ^ 32) (weight m) (no_defect m valid kinds.Weight) in
    let b = weight-sum m in
    let c = expressions-count (marks_of m.debug) in
    omega (arith, a, b, c)

pub shallow : (m : Parts) → IsValid m → depth_of (marks_of m.debug) ≤ 32
shallow m valid = of_not_lt 32 (depth_of (marks_of m.debug)) (no_defect m valid kinds.Depth)
