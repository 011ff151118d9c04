-- What remains of a module for names is one module.
use Rattle.std.proofs.Common.{◌≡◌, ℕ, suc, List, [], ◌∷◌, length, Bool, true, refl, sym, ap, ◌∙◌, arith}
use Rattle.mufom_module.specs.declared.module.Parts.{Parts}
use Rattle.mufom_select.specs.Choice.{is_marked}
use Rattle.mufom_prune.specs.Kept.{IsKeptFor}
use Rattle.mufom_prune.specs.Pruned.{remains, without_others}
use Rattle.mufom_prune.specs.Meaning.{PrunedIsSingle}
use Rattle.mufom_prune.proofs.Commons.{same_truth}

marks_same : (xs ys : List Bool) → length xs ≡ length ys → ((n : ℕ) → is_marked xs n ≡ true → is_marked ys n ≡ true)
    → ((n : ℕ) → is_marked ys n ≡ true → is_marked xs n ≡ true) → xs ≡ ys
marks_same [] [] sized f g = refl
marks_same [] (y ∷ ys) sized f g = absurd (omega (arith, sized))
marks_same (x ∷ xs) [] sized f g = absurd (omega (arith, sized))
marks_same (x ∷ xs) (y ∷ ys) sized f g = λ i. same_truth x y (f 0) (g 0) i ∷ marks_same xs ys (omega (arith, sized)) (λ n. f (suc n)) (λ n. g (suc n)) i

-- the entries that are kept are one set
pub kept_is_single : (m : Parts) (names staying : List (List ℕ)) (marks others : List Bool) → IsKeptFor m names staying marks → IsKeptFor m names staying others
    → marks ≡ others
kept_is_single m names staying marks others p q =
    marks_same marks others (p.sized ∙ sym q.sized) (λ n h. p.least (is_marked others) q.closed n h) (λ n h. q.least (is_marked marks) p.closed n h)

pub pruned_is_single : PrunedIsSingle
pruned_is_single M N m names staying p q =
    p.is ∙ ap (λ (marks : List Bool). without_others m (remains m marks)) (kept_is_single m names staying p.marks q.marks p.kept q.kept) ∙ sym q.is
