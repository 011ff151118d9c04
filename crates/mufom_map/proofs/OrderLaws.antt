-- Elements in the order of their keys are extents in their order, if the extents are numbered in the order of the list.
use Rattle.std.proofs.Common.{◌≡◌, ◌+◌, ◌<◌, ℕ, Bool, true, false, not, List, [], ◌∷◌, map, refl, sym, ap, ◌∙◌, arith, nat_lt, ◌==◌, ◌&&◌, ◌||◌, if◌then◌else◌}
use Rattle.std.proofs.lemmas.Bool.Decides.{nat_tests}
use Rattle.std.specs.List.{enumerate_from}
use Rattle.mufom_sections.specs.declared.section.Section.{Section}
use Rattle.mufom_place.specs.declared.placing.Extent.{Extent}
use Rattle.mufom_place.specs.Facts.{in_order, is_before, put_in_order}
use Rattle.mufom_map.specs.MapText.{by_key, extent_of, put_in}
use Rattle.mufom_map.specs.Mapped.{MappedSection, mapped_section}
use Rattle.mufom_planned.specs.Layout.{Layout}
use Rattle.mufom_origins.specs.declared.origins.Origin.{Origin}

tests-agree : (a b m n : ℕ) → m < n → (nat_lt a b || ((a == b) && nat_lt m n)) ≡ not (nat_lt b a)
tests-agree a b m n less = grind (arith, nat_tests)

module _ {X : Type 0} (key : X → ℕ) (f : X → Extent) (base_is : (x : X) → (f x).base ≡ key x) where
  -- the extents have greater numbers
  abbrev pub AreLater : ℕ → List X → Type 0
  AreLater n [] = Unit {0}
  AreLater n (y ∷ ys) = (n < (f y).section) × AreLater n ys

  -- the numbers of the extents rise
  abbrev pub AreRising : List X → Type 0
  AreRising [] = Unit {0}
  AreRising (x ∷ xs) = AreLater (f x).section xs × AreRising xs

  before-is : (x y : X) → (f x).section < (f y).section → is_before (f x) (f y) ≡ not (nat_lt (key y) (key x))
  before-is x y less =
      tests-agree (f x).base (f y).base (f x).section (f y).section less
      ∙ ap (λ (b : ℕ). not (nat_lt b (f x).base)) (base_is y) ∙ ap (λ (b : ℕ). not (nat_lt (key y) b)) (base_is x)

  put-same : (x : X) (ys : List X) → AreLater (f x).section ys → map f (put_in key x ys) ≡ put_in_order (f x) (map f ys)
  put-same x [] h = refl
  put-same x (y ∷ ys) h = by_test (nat_lt (key y) (key x)) refl (put-same x ys h.1) where
    both : (b : Bool) → map f (put_in key x ys) ≡ put_in_order (f x) (map f ys)
        → map f (if b then y ∷ put_in key x ys else x ∷ y ∷ ys) ≡ (if not b then f x ∷ f y ∷ map f ys else f y ∷ put_in_order (f x) (map f ys))
    both true rest = ap (λ zs. f y ∷ zs) rest
    both false rest = refl

    by_test : (b : Bool) → nat_lt (key y) (key x) ≡ b → map f (put_in key x ys) ≡ put_in_order (f x) (map f ys)
        → map f (put_in key x (y ∷ ys)) ≡ put_in_order (f x) (map f (y ∷ ys))
    by_test b is rest =
        both (nat_lt (key y) (key x)) rest
        ∙ sym (ap (λ (t : Bool). if t then f x ∷ f y ∷ map f ys else f y ∷ put_in_order (f x) (map f ys)) (before-is x y h.0))

  later-put : (n : ℕ) (x : X) (ys : List X) → n < (f x).section → AreLater n ys → AreLater n (put_in key x ys)
  later-put n x [] less h = (less, tt)
  later-put n x (y ∷ ys) less h = by_test (nat_lt (key y) (key x)) (later-put n x ys less h.1) where
    by_test : (b : Bool) → AreLater n (put_in key x ys) → AreLater n (if b then y ∷ put_in key x ys else x ∷ y ∷ ys)
    by_test true rest = (h.0, rest)
    by_test false rest = (less, h)

  later-by_key : (n : ℕ) (xs : List X) → AreLater n xs → AreLater n (by_key key xs)
  later-by_key n [] h = tt
  later-by_key n (x ∷ xs) h = later-put n x (by_key key xs) h.0 (later-by_key n xs h.1)

  pub by_key-in_order : (xs : List X) → AreRising xs → map f (by_key key xs) ≡ in_order (map f xs)
  by_key-in_order [] h = refl
  by_key-in_order (x ∷ xs) h = put-same x (by_key key xs) (later-by_key (f x).section xs h.0) ∙ ap (put_in_order (f x)) (by_key-in_order xs h.1)

-- ---- sections of a map

module _ (origins : List Origin) (l : Layout) where
  abbrev shown : ℕ × Section → MappedSection
  shown = mapped_section origins l

  later-sections : (m n : ℕ) (sections : List Section) → m < n
      → AreLater (λ (s : MappedSection). s.base) extent_of (λ s. refl) m (map shown (enumerate_from n sections))
  later-sections m n [] less = tt
  later-sections m n (s ∷ sections) less = (less, later-sections m (n + 1) sections (omega arith))

  pub rising-sections : (n : ℕ) (sections : List Section)
      → AreRising (λ (s : MappedSection). s.base) extent_of (λ s. refl) (map shown (enumerate_from n sections))
  rising-sections n [] = tt
  rising-sections n (s ∷ sections) = (later-sections n (n + 1) sections (omega arith), rising-sections (n + 1) sections)
