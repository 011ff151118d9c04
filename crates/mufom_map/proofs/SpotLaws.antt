-- What a search in a list finds among what is made of its numbered elements; and the greatest value of one public more.
use Rattle.std.proofs.Common.{◌≡◌, ℕ, zero, suc, ◌+◌, ◌<◌, ◌≤◌, List, [], ◌∷◌, ◌++◌, length, map, take, get_or, Some, None, Bool, true, false, not}
use Rattle.std.proofs.Common.{max, refl, sym, ap, ◌∙◌, arith, nat_lt, position, cond, slice_get, if◌then◌else◌}
use Rattle.std.proofs.lemmas.Bool.Decides.{nat_tests}
use Rattle.std.specs.Prelude.{filter, fold, option_map}
use Rattle.std.specs.List.{enumerate_from, find, position_or_len}
use Rattle.std.proofs.lemmas.List.{length-map, map-append, take_more}
use Rattle.std.proofs.lemmas.List.FromFn.{length-enumerate_from}
use Rattle.std.proofs.lemmas.List.Elements.{filter-append}
use Rattle.std.proofs.lemmas.List.Folds.{find_at}
use Rattle.std.proofs.lemmas.List.Sums.{fold-append}
use Rattle.std.proofs.lemmas.Option.{slice_get-map, slice_get_past}
use Rattle.mufom_meaning.proofs.Tests.{get_enumerate}
use Rattle.mufom_meaning.specs.declared.located.PublicValue.{PublicValue}
use Rattle.mufom_map.specs.Found.{element_at}
use Rattle.mufom_map.specs.Spot.{greatest}

-- ---- searches

module _ {X Y : Type 0} (make : ℕ × X → Y) (p : Y → Bool) (q : X → Bool) (same : (n : ℕ) (x : X) → p (make (n, x)) ≡ q x) where
  first-place : (n : ℕ) (xs : List X) → position_or_len p (map make (enumerate_from n xs)) ≡ position_or_len q xs
  first-place n [] = refl
  first-place n (x ∷ xs) =
      let here = same n x in let rest = first-place (n + 1) xs in λ i. cond (not (here i)) (1 + rest i) 0

  -- what is found of what is made is at the position that is found in the list
  pub found-at : (xs : List X) → element_at (map make (enumerate_from 0 xs)) (position q xs) ≡ find p (map make (enumerate_from 0 xs))
  found-at xs =
      by (nat_lt (position_or_len q xs) (length xs)) refl
      ∙ sym (find_at p (map make (enumerate_from 0 xs)) ∙ ap (slice_get (map make (enumerate_from 0 xs))) (first-place 0 xs)) where
        by : (b : Bool) → nat_lt (position_or_len q xs) (length xs) ≡ b
            → element_at (map make (enumerate_from 0 xs)) (cond b (Some (position_or_len q xs)) None)
            ≡ slice_get (map make (enumerate_from 0 xs)) (position_or_len q xs)
        by true is = refl
        by false is =
            let past : length xs ≤ position_or_len q xs = grind (arith, nat_tests, is) in
            let long = length-map (enumerate_from 0 xs) make in let own = length-enumerate_from 0 xs in
            sym (slice_get_past (map make (enumerate_from 0 xs)) (position_or_len q xs) (omega (arith, past, long, own)))

-- what is made of the element at a position
pub made-at : {X Y : Type 0} (make : ℕ × X → Y) (xs : List X) (i : ℕ) (x : X) → slice_get xs i ≡ Some x
    → slice_get (map make (enumerate_from 0 xs)) i ≡ Some (make (i, x))
made-at make xs i x is =
    let none : 0 + i ≡ i = omega arith in
    slice_get-map make (enumerate_from 0 xs) i ∙ (λ j. option_map make (get_enumerate 0 xs i x is j))
    ∙ (λ j. Some (make (none j, x)))

-- where there is no element, nothing is made
nowhere-from : {X Y : Type 0} (make : ℕ × X → Y) (n : ℕ) (xs : List X) (i : ℕ) → slice_get xs i ≡ None
    → slice_get (map make (enumerate_from n xs)) i ≡ None
nowhere-from make n [] i is = refl
nowhere-from make n (x ∷ xs) zero is = absurd cc
nowhere-from make n (x ∷ xs) (suc i) is = nowhere-from make (n + 1) xs i is

pub made-nowhere : {X Y : Type 0} (make : ℕ × X → Y) (xs : List X) (i : ℕ) → slice_get xs i ≡ None → slice_get (map make (enumerate_from 0 xs)) i ≡ None
made-nowhere make xs i is = nowhere-from make 0 xs i is

-- the fields of what is made are those of the list
pub fields-from : {X Y : Type 0} (make : ℕ × X → Y) (own : Y → ℕ) (field : X → ℕ) → ((n : ℕ) (x : X) → own (make (n, x)) ≡ field x)
    → (n : ℕ) (xs : List X) → map own (map make (enumerate_from n xs)) ≡ map field xs
fields-from make own field same n [] = refl
fields-from make own field same n (x ∷ xs) =
    let here = same n x in let rest = fields-from make own field same (n + 1) xs in λ i. here i ∷ rest i

-- ---- the greatest value

-- of one public more
pub greatest-more : (test : ℕ → Bool) (publics : List PublicValue) (i : ℕ) (p d : PublicValue) → i < length publics → p ≡ get_or publics i d
    → greatest (filter test (map (λ (q : PublicValue). q.value) (take (i + 1) publics)))
    ≡ (if test p.value then max (greatest (filter test (map (λ (q : PublicValue). q.value) (take i publics)))) p.value
    else greatest (filter test (map (λ (q : PublicValue). q.value) (take i publics))))
greatest-more test publics i p d less is =
    let value : PublicValue → ℕ = λ q. q.value in
    ap (λ (ps : List PublicValue). greatest (filter test (map value ps)))
    (take_more publics i d less ∙ ap (λ (q : PublicValue). take i publics ++ q ∷ []) (sym is))
    ∙ ap (λ (vs : List ℕ). greatest (filter test vs)) (map-append value (take i publics) (p ∷ []))
    ∙ ap greatest (filter-append test (map value (take i publics)) (p.value ∷ []))
    ∙ fold-append max 0 (filter test (map value (take i publics))) (filter test (p.value ∷ []))
    ∙ by (test p.value) (greatest (filter test (map value (take i publics)))) where
      by : (b : Bool) (so_far : ℕ) → fold max so_far (if b then p.value ∷ [] else []) ≡ (if b then max so_far p.value else so_far)
      by true so_far = refl
      by false so_far = refl
