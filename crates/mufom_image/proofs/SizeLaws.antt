-- The greatest size that is asked for under a name: with one more that asks, and with equal ones left out.
use Rattle.std.proofs.Common.{◌≡◌, ℕ, List, [], ◌∷◌, ◌++◌, map, Bool, true, false, not, cond, if◌then◌else◌, refl, sym, ap, ◌∙◌, arith}
use Rattle.std.specs.Prelude.{filter, max}
use Rattle.std.specs.Str.{bytes_eq}
use Rattle.std.proofs.lemmas.Slice.Eq.{bytes_eq-Decides}
use Rattle.mufom_plan.specs.Names.{has_name}
use Rattle.mufom_meaning.specs.Flat.{distinct, same_common}
use Rattle.mufom_meaning.specs.Placed.{greatest_size}
use Rattle.mufom_meaning.proofs.Tests.{either_false}
use Rattle.mufom_meaning.proofs.staging.Needs.{same_common-decides}

-- a name and the size that is asked for
abbrev pub Asked : Type 0
Asked = List ℕ × ℕ

abbrev pub names_in : List Asked → List (List ℕ)
names_in asked = map (λ a. a.0) asked

max-swap : (a b c : ℕ) → max a (max b c) ≡ max b (max a c)
max-swap a b c = omega arith

max-twice : (a b : ℕ) → max a b ≡ max a (max a b)
max-twice a b = omega arith

-- a name differs both ways
pub apart : (x y : List ℕ) → bytes_eq x y ≡ false → bytes_eq y x ≡ false
apart x y e = by_case (bytes_eq y x) refl where
  by_case : (b : Bool) → bytes_eq y x ≡ b → b ≡ false
  by_case false f = refl
  by_case true f =
      let same : y ≡ x = (bytes_eq-Decides y x).0 f in
      absurd (let holds : bytes_eq x y ≡ true = (bytes_eq-Decides x y).1 (sym same) in cc)

-- with one more that asks
pub greatest-push : (asked : List Asked) (name : List ℕ) (size : ℕ) (y : List ℕ)
    → greatest_size (asked ++ (name, size) ∷ []) y ≡ (if bytes_eq name y then max size (greatest_size asked y) else greatest_size asked y)
greatest-push [] name size y = refl
greatest-push (a ∷ asked) name size y =
    by_case (bytes_eq a.0 y) (bytes_eq name y) (greatest_size (asked ++ (name, size) ∷ []) y) (greatest_size asked y) (greatest-push asked name size y) where
      by_case : (b c : Bool) (more rest : ℕ) → more ≡ (if c then max size rest else rest)
          → (if b then max a.1 more else more) ≡ (if c then max size (if b then max a.1 rest else rest) else (if b then max a.1 rest else rest))
      by_case true true more rest e = ap (max a.1) e ∙ max-swap a.1 size rest
      by_case true false more rest e = ap (max a.1) e
      by_case false true more rest e = e
      by_case false false more rest e = e

-- nothing is asked for under a name that is not there
pub greatest-none : (asked : List Asked) (name : List ℕ) → has_name (names_in asked) name ≡ false → greatest_size asked name ≡ 0
greatest-none [] name none = refl
greatest-none (a ∷ asked) name none =
    let two = either_false (bytes_eq name a.0) (has_name (names_in asked) name) none in
    ap (λ b. if b then max a.1 (greatest_size asked name) else greatest_size asked name) (apart name a.0 two.0) ∙ greatest-none asked name two.1

-- what is the same as one that asks may be left out beside it
greatest-without : (a : Asked) (asked : List Asked) (y : List ℕ)
    → (if bytes_eq a.0 y then max a.1 (greatest_size (filter (λ d. not (same_common a d)) asked) y)
    else greatest_size (filter (λ d. not (same_common a d)) asked) y)
    ≡ (if bytes_eq a.0 y then max a.1 (greatest_size asked y) else greatest_size asked y)
greatest-without a [] y = refl
greatest-without a (d ∷ asked) y = by_same (same_common a d) refl (greatest-without a asked y) where
  kept : (b c : Bool) (less more : ℕ) → (if b then max a.1 less else less) ≡ (if b then max a.1 more else more)
      → (if b then max a.1 (if c then max d.1 less else less) else (if c then max d.1 less else less))
      ≡ (if b then max a.1 (if c then max d.1 more else more) else (if c then max d.1 more else more))
  kept true true less more e = max-swap a.1 d.1 less ∙ ap (max d.1) e ∙ max-swap d.1 a.1 more
  kept true false less more e = e
  kept false c less more e = ap (λ n. if c then max d.1 n else n) e

  again : (b : Bool) (rest : ℕ) → (if b then max a.1 rest else rest)
      ≡ (if b then max a.1 (if b then max a.1 rest else rest) else (if b then max a.1 rest else rest))
  again true rest = max-twice a.1 rest
  again false rest = refl

  by_same : (b : Bool) → same_common a d ≡ b
      → (if bytes_eq a.0 y then max a.1 (greatest_size (filter (λ d. not (same_common a d)) asked) y)
      else greatest_size (filter (λ d. not (same_common a d)) asked) y)
      ≡ (if bytes_eq a.0 y then max a.1 (greatest_size asked y) else greatest_size asked y)
      → (if bytes_eq a.0 y then max a.1 (greatest_size (cond (not b) (d ∷ filter (λ d. not (same_common a d)) asked)
      (filter (λ d. not (same_common a d)) asked)) y)
      else greatest_size (cond (not b) (d ∷ filter (λ d. not (same_common a d)) asked) (filter (λ d. not (same_common a d)) asked)) y)
      ≡ (if bytes_eq a.0 y then max a.1 (greatest_size (d ∷ asked) y) else greatest_size (d ∷ asked) y)
  by_same false e rest = kept (bytes_eq a.0 y) (bytes_eq d.0 y) (greatest_size (filter (λ d. not (same_common a d)) asked) y) (greatest_size asked y) rest
  by_same true e rest =
      let same : a ≡ d = (same_common-decides a d).0 e in
      rest
      ∙ again (bytes_eq a.0 y) (greatest_size asked y)
      ∙ ap (λ (x : Asked). if bytes_eq a.0 y then max a.1 (greatest_size (x ∷ asked) y) else greatest_size (x ∷ asked) y) same

-- equal ones left out
pub greatest-distinct : (asked : List Asked) (y : List ℕ) → greatest_size (distinct same_common asked) y ≡ greatest_size asked y
greatest-distinct [] y = refl
greatest-distinct (a ∷ asked) y =
    greatest-without a (distinct same_common asked) y
    ∙ ap (λ n. if bytes_eq a.0 y then max a.1 n else n) (greatest-distinct asked y)
