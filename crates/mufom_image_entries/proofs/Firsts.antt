-- The first debug expression that divides by 0, and the start, as facts.
use Rattle.std.proofs.Common.{◌≡◌, ℕ, zero, suc, ◌+◌, ◌<◌, List, [], ◌∷◌, map, length, drop, Option, Some, None, Bool, true, false, refl, sym, ◌∙◌}
use Rattle.std.proofs.Common.{ap, zero-add, arith}
use Rattle.std.specs.Prelude.{slice_get, option_map, option_to_list, if◌then◌else◌}
use Rattle.std.specs.List.{enumerate_from}
use Rattle.std.proofs.lemmas.Option.{slice_get-map}
use Rattle.mufom_expr.specs.Tree.{Tree}
use Rattle.mufom_place.specs.Facts.{first_some, ◌or_else◌}
use Rattle.mufom_meaning.specs.declared.located.Site.TheVariants as sites
use Rattle.mufom_meaning.specs.Facts.{zero_divisor}
use Rattle.mufom_meaning.specs.Flat.{Sited}
use Rattle.mufom_meaning.specs.Values.{Setting, has_zero_divisor}
use Rattle.mufom_meaning.specs.Walk.{SitedTree, debug_fact, start_fact}
use Rattle.mufom_numbers.proofs.Choices.{mapped_some}
use Rattle.mufom_meaning.proofs.Tests.{enumerate_get, get_enumerate}
use Rattle.mufom_image_values.proofs.CircleLaws.{none_first, one_first}
use Rattle.mufom_image_entries.specs.Valued.{IsFirstDivision}

-- ---- lists from a position on

pub drop-next : {A : Type 0} (xs : List A) (n : ℕ) (x : A) (rest : List A) → drop n xs ≡ x ∷ rest → (drop (n + 1) xs ≡ rest)
    × (slice_get xs n ≡ Some x) × (n < length xs)
drop-next [] zero x rest e = absurd cc
drop-next [] (suc n) x rest e = absurd cc
drop-next (y ∷ xs) zero x rest e = let same : y ≡ x = cc in let tail : xs ≡ rest = cc in (tail, ap Some same, omega arith)
drop-next (y ∷ xs) (suc n) x rest e =
    let later = drop-next xs n x rest e in
    let less = later.2 in
    let next : suc n + 1 ≡ suc (n + 1) = omega arith in
    (ap (λ k. drop k (y ∷ xs)) next ∙ later.0, later.1, omega (arith, less))

pub drop-end : {A : Type 0} (xs : List A) (n j : ℕ) (x : A) → drop n xs ≡ [] → slice_get xs j ≡ Some x → j < n
drop-end [] n j x e f = absurd cc
drop-end (y ∷ xs) zero j x e f = absurd cc
drop-end (y ∷ xs) (suc n) zero x e f = omega arith
drop-end (y ∷ xs) (suc n) (suc j) x e f = let later = drop-end xs n j x e f in omega (arith, later)

-- ---- facts

module _ (s : Setting) (site : Sited) where
  abbrev test : Tree → Bool
  test t = has_zero_divisor s site None t

  own : (n : ℕ) (t : Tree) (b : Bool) → test t ≡ b → debug_fact s (n, (site, t)) ≡ (if b then Some (zero_divisor (sites.Debug n)) else None)
  own n t b e = ap (λ c. if c then Some (zero_divisor (sites.Debug n)) else None) e

  at : (trees : List Tree) (i : ℕ) (e : ℕ × SitedTree) → slice_get (enumerate_from 0 (map (λ t. (site, t)) trees)) i ≡ Some e
      → (t : Tree) × (slice_get trees i ≡ Some t) × ((i, (site, t)) ≡ e)
  at trees i e f =
      let there = enumerate_get 0 (map (λ t. (site, t)) trees) i e f in
      let tree = mapped_some (λ (t : Tree). (site, t)) (slice_get trees i) e.1 (sym (slice_get-map (λ (t : Tree). (site, t)) trees i) ∙ there.1) in
      let number : i ≡ e.0 = sym (there.0 ∙ zero-add i) in
      let own = tree.2 in
      (tree.0, tree.1, λ j. (number j, own j))

  none : (trees : List Tree) (i : ℕ) (e : ℕ × SitedTree) → ((t : Tree) → slice_get trees i ≡ Some t → test t ≡ false)
      → slice_get (enumerate_from 0 (map (λ t. (site, t)) trees)) i ≡ Some e → debug_fact s e ≡ None
  none trees i e fails f = let there = at trees i e f in sym (ap (debug_fact s) there.2) ∙ own i there.0 false (fails there.0 there.1)

  -- the first that divides is the first fact
  pub first-debug : (trees : List Tree) (first : Option ℕ) → IsFirstDivision test trees first
      → first_some (debug_fact s) (enumerate_from 0 (map (λ t. (site, t)) trees)) ≡ option_map (λ n. zero_divisor (sites.Debug n)) first
  first-debug trees None fails =
      none_first (debug_fact s) (enumerate_from 0 (map (λ t. (site, t)) trees)) (λ i e f. none trees i e (λ t h. fails i t h) f)
  first-debug trees (Some n) first =
      let t = first.0 in
      let there = get_enumerate 0 (map (λ t. (site, t)) trees) n (site, t) (slice_get-map (λ (t : Tree). (site, t)) trees n
      ∙ ap (option_map (λ (t : Tree). (site, t))) first.1) in
      let spot = there ∙ ap (λ k. Some (k, (site, t))) (zero-add n) in
      one_first (debug_fact s) (enumerate_from 0 (map (λ t. (site, t)) trees)) n (n, (site, t)) (zero_divisor (sites.Debug n)) spot (own n t true first.2)
      (λ j e less f. none trees j e (λ u h. first.3 j less u h) f)

  -- the start
  pub first-start : (start : Option Tree) (b : Bool) → (start ≡ None → b ≡ false) → ((t : Tree) → start ≡ Some t → b ≡ test t)
      → first_some (start_fact s) (map (λ t. (site, t)) (option_to_list start)) ≡ (if b then Some (zero_divisor sites.Start) else None)
  first-start None b without with = sym (ap (λ c. if c then Some (zero_divisor sites.Start) else None) (without refl))
  first-start (Some t) b without with = by_case (test t) refl where
    by_case : (c : Bool) → test t ≡ c → ((if test t then Some (zero_divisor sites.Start) else None) or_else None)
        ≡ (if b then Some (zero_divisor sites.Start) else None)
    by_case true e =
        ap (λ c. (if c then Some (zero_divisor sites.Start) else None) or_else None) e
        ∙ sym (ap (λ c. if c then Some (zero_divisor sites.Start) else None) (with t refl ∙ e))
    by_case false e =
        ap (λ c. (if c then Some (zero_divisor sites.Start) else None) or_else None) e
        ∙ sym (ap (λ c. if c then Some (zero_divisor sites.Start) else None) (with t refl ∙ e))
