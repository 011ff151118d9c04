-- Marks of debug items, one item after another.
use Rattle.std.proofs.Common.{◌≡◌, List, [], ◌∷◌, ◌++◌, map, refl, ap, ◌∙◌, append-nil}
use Rattle.std.specs.Prelude.{Option, None, Some, option_map}
use Rattle.std.proofs.lemmas.List.{map-append}
use Rattle.mufom_expr.specs.Tree.{Tree}
use Rattle.mufom_debug.specs.declared.item.DebugItem.{DebugItem}
use Rattle.mufom_debug.specs.declared.item.BlockHead.{BlockHead}
use Rattle.mufom_debug.specs.declared.item.BlockHead.TheVariants as heads
use Rattle.mufom_debug.specs.Marks.{DebugMark, block_begin, block_end, name_mark, note_mark, value_mark, marks_of, marks_of_item, joined}
use Rattle.mufom_debug.proofs.MarksLemmas.{joined-append}
use Rattle.mufom_copies.specs.Mapped.{mapped_head, mapped_mark}

-- one more item adds its marks
pub marks-push : (items : List DebugItem) (item : DebugItem) → marks_of (items ++ item ∷ []) ≡ marks_of items ++ marks_of_item item
marks-push items item =
    ap joined (map-append marks_of_item items (item ∷ []))
    ∙ joined-append (map marks_of_item items) (marks_of_item item ∷ [])
    ∙ ap (λ marks. marks_of items ++ marks) (append-nil (marks_of_item item))

-- if each expression is replaced by itself, the marks stay the same
same_head : (head : BlockHead) → mapped_head (λ t. t) head ≡ head
same_head heads.Module = refl
same_head (heads.Global stack type_index offset) = refl
same_head (heads.Local stack type_index offset) = refl
same_head (heads.Source numbers) = refl
same_head (heads.Section section_type section offset) = refl

same_end : (end : Option Tree) → option_map (λ t. t) end ≡ end
same_end None = refl
same_end (Some t) = refl

same_mark : (mark : DebugMark) → mapped_mark (λ t. t) mark ≡ mark
same_mark (block_begin head name) = ap (λ h. block_begin h name) (same_head head)
same_mark (block_end end) = ap block_end (same_end end)
same_mark (name_mark name) = refl
same_mark (note_mark name note) = refl
same_mark (value_mark name value) = refl

pub same-marks : (marks : List DebugMark) → map (mapped_mark (λ t. t)) marks ≡ marks
same-marks [] = refl
same-marks (mark ∷ marks) = let own = same_mark mark in let rest = same-marks marks in (λ i. own i ∷ rest i)
