-- Debug items that are renamed in their place, one after another.
use Rattle.std.proofs.Common.{◌≡◌, ℕ, ◌+◌, ◌<◌, List, ◌++◌, length, map, take, drop, get_or, sym, ap, ◌∙◌, arith, length-drop}
use Rattle.std.specs.Prelude.{slice_set}
use Rattle.std.proofs.lemmas.List.{take_more_set, drop-set-lt, drop_more, map-append}
use Rattle.std.proofs.lemmas.Grind.{drop_more_same}
use Rattle.mufom_copies.proofs.MarkLaws.{marks-push}
use Rattle.mufom_debug.specs.declared.item.DebugItem.{DebugItem}
use Rattle.mufom_debug.specs.Marks.{DebugMark, marks_of, marks_of_item}
use Rattle.mufom_debug.proofs.MarksLemmas.{marks_of_more}

-- the items passed have the marks that a function makes of theirs, and those to come are as they were
pub record HaveMarks (f : DebugMark → DebugMark) (before now : List DebugItem) (i : ℕ) : Type 0 where
  pub passed : marks_of (take i now) ≡ map f (marks_of (take i before))
  pub left : drop i now ≡ drop i before

module _ (f : DebugMark → DebugMark) (before now : List DebugItem) (i : ℕ) (item : DebugItem) (within : i < length now) (h : HaveMarks f before now i) where
  longer : i < length before
  longer = let e = ap length h.left in let a = length-drop i now in let b = length-drop i before in omega (arith, a, b, e, within)

  -- the item that comes next is as it was
  pub next-same : get_or now i item ≡ get_or before i item
  next-same = let left = h.left in let here = drop_more now i item within in let there = drop_more before i item longer in cc

  pub next-within : i < length before
  next-within = longer

  -- one more item is renamed
  pub marks-more : (made : DebugItem) → marks_of_item made ≡ map f (marks_of_item (get_or now i item)) → HaveMarks f before (slice_set now i made) (i + 1)
  marks-more made is = record {
    passed =
        ap marks_of (take_more_set now i made within)
        ∙ marks-push (take i now) made
        ∙ (λ j. h.passed j ++ is j)
        ∙ ap (λ (x : DebugItem). map f (marks_of (take i before)) ++ map f (marks_of_item x)) next-same
        ∙ sym (map-append f (marks_of (take i before)) (marks_of_item (get_or before i item)))
        ∙ sym (ap (map f) (marks_of_more before i item longer));
    left = drop-set-lt (i + 1) now i made (omega arith) ∙ drop_more_same now before i h.left;
  }
