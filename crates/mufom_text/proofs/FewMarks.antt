-- How many debug marks a module has.
use Rattle.std.proofs.Common.{◌<◌, ◌≤◌, ◌^◌, List, [], ◌∷◌, length, arith}
use Rattle.std.proofs.lemmas.List.Sums.{sum_by-cons}
use Rattle.mufom_debug.specs.Marks.{DebugMark, block_begin, block_end, name_mark, note_mark, value_mark, marks_of}
use Rattle.mufom_module.specs.declared.module.Parts.{Parts}
use Rattle.mufom_module.specs.Defects.{IsValid}
use Rattle.mufom_module.specs.Weights.{mark_weight, marks_weight}
use Rattle.mufom_module.proofs.Valid.{weighs_less}
use Rattle.mufom_module.proofs.WeightLaws.{weight-sum}

one_weighs : (mark : DebugMark) → 1 ≤ mark_weight mark
one_weighs (block_begin head name) = omega arith
one_weighs (block_end end) = omega arith
one_weighs (name_mark name) = omega arith
one_weighs (note_mark name note) = omega arith
one_weighs (value_mark name value) = omega arith

marks_weigh : (marks : List DebugMark) → length marks ≤ marks_weight marks
marks_weigh [] = omega arith
marks_weigh (mark ∷ marks) =
    let first = one_weighs mark in
    let rest = marks_weigh marks in
    let sum = sum_by-cons mark_weight mark marks in
    omega (arith, first, rest, sum)

pub few_marks : (m : Parts) → IsValid m → length (marks_of m.debug) < 2 ^ 32
few_marks m valid =
    let less = weighs_less m valid in
    let whole = weight-sum m in
    let marks = marks_weigh (marks_of m.debug) in
    omega (arith, less, whole, marks)
