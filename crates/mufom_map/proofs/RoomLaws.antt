-- What sections share with the addresses between two others.
use Rattle.std.proofs.Common.{◌≡◌, ◌+◌, ◌-◌, ◌≤◌, ℕ, zero, suc, List, [], ◌∷◌, Bool, true, false, refl, sym, ap, ◌∙◌, arith}
use Rattle.std.specs.Prelude.{◌||◌, if◌then◌else◌}
use Rattle.mufom_plan.specs.declared.plan.Region.{Region}
use Rattle.mufom_place.specs.declared.placing.Extent.{Extent}
use Rattle.mufom_map.specs.Room.{covered_from, covers, is_covered, shared, used_between, used_in, ShareNoAddress}

shared-split : (from between to : ℕ) (s : Extent) → from ≤ between → between ≤ to → shared from to s ≡ shared from between s + shared between to s
shared-split from between to s low high = omega arith

pub used-split : (from between to : ℕ) (sections : List Extent) → from ≤ between → between ≤ to
    → used_between from to sections ≡ used_between from between sections + used_between between to sections
used-split from between to [] low high = refl
used-split from between to (s ∷ sections) low high =
    let own = shared-split from between to s low high in
    let rest = used-split from between to sections low high in
    omega (arith, own, rest)

-- ---- the number of covered addresses

shared-one : (a : ℕ) (s : Extent) → shared a (a + 1) s ≡ (if covers a s then 1 else 0)
shared-one a s = grind arith

nothing-shared : (a : ℕ) (sections : List Extent) → used_between a a sections ≡ 0
nothing-shared a [] = refl
nothing-shared a (s ∷ more) =
    let own : shared a a s ≡ 0 = omega arith in
    let rest = nothing-shared a more in
    omega (arith, own, rest)

one-of-two : (b c : Bool) → (b ≡ true → c ≡ false) → (if b then 1 else 0) + (if c then 1 else 0) ≡ (if b || c then 1 else 0)
one-of-two true true h = absurd (let e = h refl in cc)
one-of-two true false h = refl
one-of-two false true h = refl
one-of-two false false h = refl

used-one : (a : ℕ) (sections : List Extent) → ShareNoAddress sections → used_between a (a + 1) sections ≡ (if is_covered a sections then 1 else 0)
used-one a [] apart = refl
used-one a (s ∷ more) apart =
    let own = shared-one a s in let rest = used-one a more apart.1 in
    (λ i. own i + rest i) ∙ one-of-two (covers a s) (is_covered a more) (apart.0 a)

used-count : (sections : List Extent) → ShareNoAddress sections → (count a : ℕ) → used_between a (a + count) sections ≡ covered_from sections a count
unfolding covered_from
used-count sections apart zero a =
    let none : a + 0 ≡ a = omega arith in ap (λ to. used_between a to sections) none ∙ nothing-shared a sections
used-count sections apart (suc count) a =
    let next : (a + 1) + count ≡ a + suc count = omega arith in
    let first = used-one a sections apart in let later = used-count sections apart count (a + 1) in
    used-split a (a + 1) (a + suc count) sections (omega arith) (omega arith)
    ∙ (λ i. first i + used_between (a + 1) (sym next i) sections)
    ∙ ap (λ n. (if is_covered a sections then 1 else 0) + n) later

pub used-covered : (sections : List Extent) → ShareNoAddress sections → (from to : ℕ) → from ≤ to
    → used_between from to sections ≡ covered_from sections from (to - from)
used-covered sections apart from to low =
    let end : to ≡ from + (to - from) = omega (arith, low) in
    ap (λ n. used_between from n sections) end ∙ used-count sections apart (to - from) from

pub region-covered : (sections : List Extent) → ShareNoAddress sections → (region : Region)
    → used_in region sections ≡ covered_from sections region.base region.size
region-covered sections apart region = used-count sections apart region.size region.base
