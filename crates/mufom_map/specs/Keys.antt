-- The keys by which sections and publics are sorted, as the code has them: a number and a position.
use Rattle.std.specs.Prelude.{ℕ, ◌+◌, ◌≤◌, List, [], ◌∷◌}
use Rattle.mufom_sections.specs.declared.section.Section.{Section}
use Rattle.mufom_meaning.specs.declared.located.PublicValue.{PublicValue}
use Rattle.mufom_map.specs.Shown.{base_of}

abbrev pub Key : Type 0
Key = ℕ × ℕ

abbrev pub key_of : Key → ℕ
key_of k = k.0

-- the base of a located section, with its number
abbrev pub section_key : ℕ × Section → Key
section_key s = (base_of s.1, s.0)

-- the value of a public, with its position
abbrev pub public_key : ℕ × PublicValue → Key
public_key p = (p.1.value, p.0)

-- the positions are increasing, from this one on
abbrev pub ArePositions : ℕ → List Key → Type 0
ArePositions n [] = Unit {0}
ArePositions n (k ∷ keys) = (n ≤ k.1) × ArePositions (k.1 + 1) keys
