-- The error of a text from which no module can be built: its line, its column and its reason.
use Rattle.std.specs.Prelude.{◌≡◌, ℕ, ◌+◌, ◌<◌, ◌==◌, max, List, [], ◌∷◌, ◌++◌, length, take, flat_map, Some}
use Rattle.std.specs.Prelude.{if◌then◌else◌, ◌⊎◌}
use Rattle.mufom_module.specs.declared.module.Parts.{Parts}
use Rattle.mufom_module.specs.declared.module.Defect.{Defect}
use Rattle.mufom_module.specs.Defects.{first_defect}
use Rattle.mufom_text.specs.Words.{Text, line}
use Rattle.mufom_refusals.specs.declared.build.BuildReason.{BuildReason}
use Rattle.mufom_refusals.specs.declared.build.BuildReason.TheVariants.{BadText}
use Rattle.mufom_build_text.specs.Pieces.{Piece, exact, loose, Spells, SpellsPiece, AreSpaces}
use Rattle.mufom_build_text.specs.Errors.{piece_error}
use Rattle.mufom_build_text.specs.Places.{SpellsLines}
use Rattle.mufom_build.specs.Lines.{Line, listing_lines, AreFew, Shape}

-- ---- the lines of a text

-- the lines with a byte before the first
abbrev pub begun_with : ℕ → List Text → List Text
begun_with b [] = (b ∷ []) ∷ []
begun_with b (first ∷ rest) = (b ∷ first) ∷ rest

-- The lines of a text, without the bytes 0A that end them.
abbrev pub text_lines : Text → List Text
text_lines [] = []
text_lines (b ∷ text) = if b == 10 then [] ∷ text_lines text else begun_with b (text_lines text)

-- the number of the last line, from 1; an empty text has one line
abbrev pub last_line : Text → ℕ
last_line text = max 1 (length (text_lines text))

-- The texts are the first lines of some text in the shape of a listing, and `lines` are the pieces that they spell.
pub record AreBegun (texts : List Text) (lines : List Line) : Type 0 where
  pub parts : Parts
  pub rest : List Line
  pub begin : listing_lines parts ≡ lines ++ rest
  pub listed : SpellsLines loose lines (flat_map line texts)
  pub few : AreFew parts

-- ---- errors within a line

-- The line of these pieces has an error at the column, which counts bytes from 1.
pub record HasError (text : Text) (pieces : Line) (column : ℕ) (reason : BuildReason) : Type 0 where
  pub earlier : List Piece
  pub piece : Piece
  pub later : List Piece
  pub made_of : pieces ≡ earlier ++ piece ∷ later
  pub before : Text
  pub front : Text
  pub bytes : Text
  pub back : Text
  pub after : Text
  pub is : text ≡ before ++ (front ++ (bytes ++ (back ++ after)))
  pub leading : AreSpaces before
  pub spells_front : Spells loose earlier front
  pub spells_piece : SpellsPiece loose piece bytes
  pub spells_back : Spells loose later back
  pub trailing : AreSpaces after
  pub error : piece_error piece bytes ≡ Some reason
  pub place : column ≡ 1 + length before + length front

-- The text at this position has an error, and the texts up to and including it begin a listing.
pub record HasErrorAt (texts : List Text) (position : ℕ) (column : ℕ) (reason : BuildReason) : Type 0 where
  pub earlier : List Text
  pub text : Text
  pub begin : take (position + 1) texts ≡ earlier ++ text ∷ []
  pub lines : List Line
  pub pieces : Line
  pub begun : AreBegun (earlier ++ text ∷ []) (lines ++ pieces ∷ [])
  pub wrong : HasError text pieces column reason

-- the first n texts begin a listing
abbrev pub BeginWell : List Text → ℕ → Type 0
BeginWell texts n = (lines : List Line) × AreBegun (take n texts) lines

-- none of the first n lines is wrong
pub record AreRight (texts : List Text) (n : ℕ) : Type 0 where
  pub begin : BeginWell texts n
  pub right : (position column : ℕ) (reason : BuildReason) → position < n → HasErrorAt texts position column reason → ⊥

-- ---- errors of a text

-- The line at position `at`, from 0, is wrong: either the lines up to and including it do not begin a listing, which is reported at column 1, or this
-- is its first error.
abbrev pub IsWrongAt : List Text → ℕ → ℕ → BuildReason → Type 0
IsWrongAt texts at column reason = (¬ (BeginWell texts (at + 1)) × (column ≡ 1) × (reason ≡ BadText))
    ⊎ (HasErrorAt texts at column reason × ((other : ℕ) (kind : BuildReason) → other < column → HasErrorAt texts at other kind → ⊥))

-- No module can be built from the text, and this error is reported: at the first line that is wrong, or, if all lines are right and some are missing,
-- at the last line. Lines and columns count from 1.
abbrev pub IsRefusedAt : Text → ℕ → ℕ → BuildReason → Type 0
IsRefusedAt text at column reason = let texts = text_lines text in
    ((before : ℕ) × (at ≡ before + 1) × (before < length texts) × AreRight texts before × IsWrongAt texts before column reason)
    ⊎ ((at ≡ last_line text) × (column ≡ 1) × (reason ≡ BadText) × AreRight texts (length texts) × ¬ (Shape text))

-- No line is wrong, and the text is the listing of parts that have this defect.
pub record HasDefect (text : Text) (defect : Defect) : Type 0 where
  pub right : AreRight (text_lines text) (length (text_lines text))
  pub parts : Parts
  pub listed : SpellsLines exact (listing_lines parts) text
  pub few : AreFew parts
  pub first : first_defect parts ≡ Some defect
