-- What holds for the start, the items' marks and the end of a block holds for all its marks.
use Rattle.std.proofs.Common.{[], ◌∷◌, ◌++◌, subst, sym}
use Rattle.std.specs.Prelude.{All}
use Rattle.std.proofs.lemmas.List.Elements.{All-nil, All-cons, All-append}
use Rattle.mufom_debug.specs.declared.item.DebugItem.{DebugItem, Block as block_case}
use Rattle.mufom_debug.specs.declared.item.DebugItem.TheOpen.{Block-F}
use Rattle.mufom_debug.specs.Marks.{DebugMark, block_begin, block_end, marks_of, marks_of_item}
use Rattle.mufom_debug.proofs.MarksLemmas.{marks-Block}

pub all-block : (P : DebugMark → Type 0) (b : Block-F DebugItem (Unit {0})) → P (block_begin b.head b.name) → All P (marks_of b.items)
    → P (block_end b.end) → All P (marks_of_item (block_case b))
all-block P b begins inside ends =
    let end_is = All-cons P (block_end b.end) [] ends (All-nil P) in
    let after = All-append P (marks_of b.items) (block_end b.end ∷ []) inside end_is in
    subst (All P) (sym (marks-Block b)) (All-cons P (block_begin b.head b.name) (marks_of b.items ++ block_end b.end ∷ []) begins after)
