-- Reading a line whose first word is known.
use Rattle.std.specs.Prelude.{◌≡◌, ℕ, ◌≤◌, List, ◌∷◌, ◌++◌, [], length, Option, Some}
use Rattle.mufom_debug.specs.declared.item.BlockHead.{BlockHead}
use Rattle.mufom_debug.specs.Marks.{kind_number}
use Rattle.mufom_text.specs.Words.{Text}
use Rattle.mufom_build_text.specs.Pieces.{Piece, gap, AreSpaces}
use Rattle.mufom_build_text.specs.Errors.{IsSound}
use Rattle.mufom_build_text.specs.Loosely.{Moves, Passes, Goes, Nothing, IsFigure}
use Rattle.mufom_build_text.specs.Reads.{Place, IsRight, IsLineEnd}
use Rattle.mufom_build.specs.declared.row.Row.{Row as ReadRow}
use Rattle.mufom_build.specs.declared.read_debug.Scope.{Scope}
use Rattle.mufom_build.specs.Lines.{scope_pieces, HasFewHeadNumbers}
use Rattle.mufom_build.specs.Marked.{spaced_digits}
use Rattle.mufom_build.specs.Order.{State, kind_of, row_pieces, IsFew}
use Rattle.mufom_build.specs.Rows.{Keyword, Payload}
use Rattle.mufom_build.specs.Shown.{Shows, shown_kind}

-- ---- what follows after any spaces

-- this byte comes next, after any spaces
pub record IsAhead (b : ℕ) (text : Text) : Type 0 where
  pub spaces : Text
  pub after : Text
  pub is : text ≡ spaces ++ b ∷ after
  pub are : AreSpaces spaces

-- a decimal digit comes next, after any spaces
pub record HasFigureAhead (text : Text) : Type 0 where
  pub byte : ℕ
  pub figure : IsFigure byte
  pub ahead : IsAhead byte text

-- the line ends here, after any spaces
pub record HasEndAhead (text : Text) : Type 0 where
  pub spaces : Text
  pub end : Text
  pub is : text ≡ spaces ++ end
  pub are : AreSpaces spaces
  pub line_end : IsLineEnd end

-- the pieces begin with a space
abbrev pub BeginsWithSpace : List Piece → Type 0
BeginsWithSpace more = (rest : List Piece) × (more ≡ gap ∷ rest)

-- ---- reading values, only some of which are allowed

-- A value is spelled by its pieces between the two places, or a piece is missing. If no piece is missing, the value's pieces are passed, and `MayBe`
-- holds for the value; if the line has no error up to the second place, the result is that value. If the pieces of some value for which `MayBe` holds
-- come next, followed by pieces that satisfy `Tail`, then that is the value that is read, and those pieces come next after it.
pub record ReadsFew {X : Type 0} (pieces_of : X → List Piece) (MayBe : X → Type 0) (Tail : List Piece → Type 0) (result : X) (before after : Place)
    : Type 0 where
  pub value : X
  pub moves : Moves before after
  pub passes : IsSound after → Passes (pieces_of value) before after
  pub few : IsSound after → MayBe value
  pub same : IsRight after → result ≡ value
  pub takes : (x : X) (more : List Piece) → MayBe x → Tail more → Goes (pieces_of x ++ more) before → (x ≡ value) × Goes more after

-- the same for any value, up to the end of the line
abbrev pub ReadsLast : {X : Type 0} → (X → List Piece) → X → Place → Place → Type 0
ReadsLast {X} pieces_of result before after = ReadsFew pieces_of (λ (x : X). Unit {0}) Nothing result before after

abbrev pub ReadsNumbers : ℕ → (List ℕ → List Piece) → List ℕ → Place → Place → Type 0
ReadsNumbers most pieces_of result before after = ReadsFew pieces_of (λ ns. length ns ≤ most) Nothing result before after

-- bytes are read after a space, and counted
pub record ReadsCounted (bytes : List ℕ) (count : ℕ) (before after : Place) : Type 0 where
  pub reads : ReadsLast spaced_digits bytes before after
  pub counted : IsSound after → count ≡ length reads.value

-- the head of a block whose line states this number of its kind
abbrev pub IsHeadOf : Option ℕ → BlockHead → Type 0
IsHeadOf kind head = (kind ≡ Some (kind_number head)) × HasFewHeadNumbers head

-- the pieces after the name in the line of a function's block
abbrev pub scope_of : Scope → List Piece
scope_of s = scope_pieces s.stack s.type_index s.offset

-- ---- lines with a given first word

-- The line of a row with this first word is read between the two places, from this state of a listing: as in `ReadsRow`, but only among the lines
-- with this first word.
pub record ReadsOf (s : State) (k : Keyword) (result : ReadRow) (before after : Place) : Type 0 where
  pub payload : Payload k
  pub moves : Moves before after
  pub passes : IsSound after → Passes (row_pieces s (k, payload)) before after
  pub few : IsSound after → IsFew (k, payload)
  pub kind : IsSound after → shown_kind result ≡ kind_of (k, payload)
  pub same : IsRight after → Shows result (k, payload)
  pub takes : (p : Payload k) → IsFew (k, p) → Goes (row_pieces s (k, p)) before → (p ≡ payload) × Goes [] after
