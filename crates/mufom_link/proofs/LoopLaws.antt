-- Items that are changed in their place, one after another.
use Rattle.std.proofs.Common.{◌≡◌, ℕ, ◌+◌, ◌<◌, List, [], ◌∷◌, ◌++◌, length, map, take, drop, get_or, sym, ap, ◌∙◌, arith, length-drop}
use Rattle.std.specs.Prelude.{slice_set}
use Rattle.std.proofs.lemmas.List.{take_more, take_more_set, drop-set-lt, drop_more, map-append}
use Rattle.std.proofs.lemmas.Grind.{drop_more_same}

-- the items passed are changed, and those to come are as they were
pub record AreChanged {A : Type 0} (f : A → A) (before now : List A) (i : ℕ) : Type 0 where
  pub passed : take i now ≡ map f (take i before)
  pub left : drop i now ≡ drop i before

-- one more item is changed
pub changed-more : {A : Type 0} (f : A → A) (before now : List A) (i : ℕ) (item made : A) → i < length now → AreChanged f before now i
    → made ≡ f (get_or now i item) → AreChanged f before (slice_set now i made) (i + 1)
changed-more {A} f before now i item made within h is = record {
  passed =
      take_more_set now i made within
      ∙ ap (λ (xs : List A). xs ++ made ∷ []) h.passed
      ∙ ap (λ (x : A). map f (take i before) ++ x ∷ []) (is ∙ ap f same)
      ∙ sym (ap (map f) (take_more before i item longer) ∙ map-append f (take i before) (get_or before i item ∷ []));
  left = drop-set-lt (i + 1) now i made (omega arith) ∙ drop_more_same now before i h.left;
} where
  longer : i < length before
  longer = let e = ap length h.left in let a = length-drop i now in let b = length-drop i before in omega (arith, a, b, e, within)

  same : get_or now i item ≡ get_or before i item
  same = let left = h.left in let here = drop_more now i item within in let there = drop_more before i item longer in cc
