-- The extents of sections, section by section.
use Rattle.std.proofs.Common.{◌≡◌, ◌≢◌, ℕ, List, ◌∷◌, true, false, Bool, refl, ap, rules}
use Rattle.std.specs.Prelude.{◌==◌, if◌then◌else◌}
use Rattle.mufom_place.specs.Bases.{Numbered}
use Rattle.mufom_place.specs.Facts.{extents}

pub empty_size : (n : ℕ) → n ≡ 0 → (n == 0) ≡ true
empty_size n e = search rules

pub some_size : (n : ℕ) → n ≢ 0 → (n == 0) ≡ false
some_size n differ = by_case (n == 0) refl where
  by_case : (b : Bool) → (n == 0) ≡ b → b ≡ false
  by_case true e = absurd (differ (search rules))
  by_case false e = refl

-- an empty section has no extent, and another one is at its base
pub extents-empty : (s : Numbered) (more : List Numbered) (base : ℕ) (placed : List ℕ) → s.1.size ≡ 0 → extents (s ∷ more) (base ∷ placed) ≡ extents more placed
extents-empty s more base placed e = ap (λ t. if t then extents more placed
    else record { base = base; section = s.0; size = s.1.size } ∷ extents more placed) (empty_size s.1.size e)

pub extents-some : (s : Numbered) (more : List Numbered) (base : ℕ) (placed : List ℕ) → s.1.size ≢ 0
    → extents (s ∷ more) (base ∷ placed) ≡ record { base = base; section = s.0; size = s.1.size } ∷ extents more placed
extents-some s more base placed e = ap (λ t. if t then extents more placed
    else record { base = base; section = s.0; size = s.1.size } ∷ extents more placed) (some_size s.1.size e)
