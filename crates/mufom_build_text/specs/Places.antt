-- The lines of a text, each made of pieces.
use Rattle.std.specs.Prelude.{◌≡◌, List, [], ◌∷◌, ◌++◌, ◌⊎◌}
use Rattle.std.specs.List.{AllByRecursion}
use Rattle.mufom_text.specs.Words.{Text}
use Rattle.mufom_build_text.specs.Pieces.{Piece, Reading, Spells, AreSpaces}

-- spaces and ends of lines: lines of spaces alone, and spaces before a line
abbrev pub AreBlank : Text → Type 0
AreBlank text = AllByRecursion (λ b. (b ≡ 32) ⊎ (b ≡ 10)) text

-- The text consists of these lines, in order, each ended by one byte 0A, which the last may lack. Spaces may come before and after a line, and lines
-- of spaces alone anywhere.
abbrev pub SpellsLines : Reading → List (List Piece) → Text → Type 0
SpellsLines reading [] text = AreBlank text
SpellsLines reading (pieces ∷ lines) text = (before : Text) × (body : Text) × (after : Text) × (rest : Text) × (text ≡ before ++ (body ++ (after ++ rest)))
    × AreBlank before × Spells reading pieces body × AreSpaces after
    × (((rest ≡ []) × (lines ≡ [])) ⊎ ((more : Text) × (rest ≡ 10 ∷ more) × SpellsLines reading lines more))
