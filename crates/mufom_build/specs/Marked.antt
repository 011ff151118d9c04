-- Parts of the lines of an end and of literal bytes.
use Rattle.std.specs.Prelude.{ℕ, List, [], ◌∷◌, ◌++◌, Option, Some, None, codes}
use Rattle.mufom_expr.specs.Tree.{Tree}
use Rattle.mufom_build_text.specs.Pieces.{Piece, digits, words, value_pieces}

-- what comes after the word `end` of a block
abbrev pub end_value_pieces : Option Tree → List Piece
end_value_pieces None = []
end_value_pieces (Some value) = words (codes " = ") ++ value_pieces value

-- what comes after the count of bytes
abbrev pub spaced_digits : List ℕ → List Piece
spaced_digits [] = []
spaced_digits (b ∷ bytes) = words (codes " ") ++ digits (b ∷ bytes) ∷ []
