-- Reading an expression in infix form: what has been read when part of it is.
use Rattle.std.specs.Prelude.{◌≡◌, ℕ, ◌==◌, nat_lt, Bool, true, false, List, [], ◌∷◌, ◌++◌, flat_map, map, codes, length, take, get_or}
use Rattle.std.specs.Prelude.{Option, Some, None, if◌then◌else◌}
use Rattle.mufom_expr.specs.declared.token.Function.{Function}
use Rattle.mufom_expr.specs.declared.token.Function.TheVariants as functions
use Rattle.mufom_expr.specs.declared.token.Letter.{Letter}
use Rattle.mufom_expr.specs.declared.token.Letter.TheVariants as letters
use Rattle.mufom_expr.specs.declared.token.Token.{Token}
use Rattle.mufom_expr.specs.Codes.{operands_of}
use Rattle.mufom_expr.specs.Tree.{Tree, number, variable, one, two, OneOperand, TwoOperands, function_of_one, function_of_two, tokens_of}
use Rattle.mufom_expr.specs.Tree.{plus, minus, divided, times, larger, smaller, modulo, is_less, is_greater, is_equal, is_unequal, and_bits, or_bits}
use Rattle.mufom_expr.specs.Tree.{xor_bits}
use Rattle.mufom_expr.specs.InfixText.{opening_text, middle_text}
use Rattle.mufom_build_text.specs.declared.expression.Frame.{Frame}
use Rattle.mufom_build_text.specs.declared.expression.Frame.TheVariants.{First, Last}
use Rattle.mufom_build_text.specs.declared.expression.Middle.{Middle}
use Rattle.mufom_build_text.specs.declared.expression.Middle.TheVariants.{Operator, Comma}
use Rattle.mufom_build_text.specs.declared.expression.Infix.{Infix}
use Rattle.mufom_build_text.specs.Pieces.{Piece, words, infix_pieces}
use Rattle.mufom_build_text.specs.Reads.{Place}
use Rattle.mufom_build_text.specs.Errors.{IsSound}
use Rattle.mufom_build_text.specs.Loosely.{Moves, Goes, ReadsLoosely, ReadsWords, NoFigure}

-- ---- functions, by the text before and between their operands

-- what comes between the two operands of a function
abbrev pub middle_of : TwoOperands → Middle
middle_of plus = Operator
middle_of minus = Operator
middle_of divided = Operator
middle_of times = Operator
middle_of larger = Comma functions.Max
middle_of smaller = Comma functions.Min
middle_of modulo = Comma functions.Mod
middle_of is_less = Operator
middle_of is_greater = Operator
middle_of is_equal = Operator
middle_of is_unequal = Operator
middle_of and_bits = Comma functions.And
middle_of or_bits = Comma functions.Or
middle_of xor_bits = Comma functions.Xor

-- the frame of a tree's function before its first operand is read; none if the tree is a number or a variable
abbrev pub frame_before : Tree → Option Frame
frame_before (number n) = None
frame_before (variable letter place) = None
frame_before (one f a) = Some (Last (function_of_one f))
frame_before (two f a b) = Some (First (middle_of f))

-- the letter of a tree that is a variable
abbrev pub letter_before : Tree → Option Letter
letter_before (variable letter place) = Some letter
letter_before _ = None

-- the text before the first operand
abbrev pub frame_text : Frame → List ℕ
frame_text (First Operator) = codes "("
frame_text (First (Comma f)) = opening_text f
frame_text (Last f) = opening_text f

-- the function has an operator between its two operands
abbrev pub has_operator : Function → Bool
has_operator functions.Plus = true
has_operator functions.Minus = true
has_operator functions.Divide = true
has_operator functions.Times = true
has_operator functions.Less = true
has_operator functions.Greater = true
has_operator functions.Equal = true
has_operator functions.Unequal = true
has_operator _ = false

-- the function has its name before its two operands, and a comma between them
abbrev pub has_comma : Function → Bool
has_comma functions.Max = true
has_comma functions.Min = true
has_comma functions.Mod = true
has_comma functions.And = true
has_comma functions.Or = true
has_comma functions.Xor = true
has_comma _ = false

-- the function has one operand
abbrev pub has_one : Function → Bool
has_one functions.Abs = true
has_one functions.Neg = true
has_one _ = false

-- the frame can be that of a function before its first operand is read
abbrev pub is_first : Frame → Bool
is_first (First Operator) = true
is_first (First (Comma f)) = has_comma f
is_first (Last f) = has_one f

-- the function can have this between its operands
abbrev pub FitsMiddle : Middle → Function → Type 0
FitsMiddle Operator f = has_operator f ≡ true
FitsMiddle (Comma g) f = f ≡ g

-- ---- what the first two bytes of a text indicate

-- the frame of the function whose opening text begins with these two bytes
abbrev pub frame_by : ℕ → ℕ → Option Frame
frame_by first second =
    if first == 40 then Some (First Operator)
    else if first == 97 then (if second == 98 then Some (Last functions.Abs)
    else if second == 110 then Some (First (Comma functions.And)) else None)
    else if first == 109 then (if second == 97 then Some (First (Comma functions.Max))
    else if second == 105 then Some (First (Comma functions.Min))
    else if second == 111 then Some (First (Comma functions.Mod)) else None)
    else if first == 110 then Some (Last functions.Neg)
    else if first == 111 then Some (First (Comma functions.Or))
    else if first == 120 then Some (First (Comma functions.Xor)) else None

-- the function whose operator begins with these two bytes; `Plus` if they begin no other operator
abbrev pub operator_by : ℕ → ℕ → Function
operator_by first second =
    if first == 45 then functions.Minus
    else if first == 47 then functions.Divide
    else if first == 42 then functions.Times
    else if first == 60 then (if second == 62 then functions.Unequal else functions.Less)
    else if first == 62 then functions.Greater
    else if first == 61 then functions.Equal else functions.Plus

-- the letter of the variable that begins with this byte
abbrev pub letter_by : ℕ → Option Letter
letter_by first =
    if first == 73 then Some letters.I
    else if first == 76 then Some letters.L
    else if first == 80 then Some letters.P
    else if first == 82 then Some letters.R
    else if first == 83 then Some letters.S
    else if first == 88 then Some letters.X else None

-- the byte at a position of a text, or 0 after its end
abbrev pub byte_at : List ℕ → ℕ → ℕ
byte_at text place = get_or text place 0

-- ---- reading trees

-- An expression is spelled between the two places, or a piece of it is missing. The tree has the same number of tokens as that expression, and is
-- that expression if the line has no error.
pub record ReadsTree (tree : Tree) (before after : Place) : Type 0 where
  pub reads : ReadsLoosely infix_pieces NoFigure tree before after
  pub count : length (tokens_of reads.value) ≡ length (tokens_of tree)

-- every tree whose pieces come next begins with this frame, or has no operands (`None`)
abbrev pub Tells : Option Frame → Place → Type 0
Tells frame place = (t : Tree) (more : List Piece) → Goes (infix_pieces t ++ more) place → frame_before t ≡ frame

-- a function has this between its operands
abbrev pub IsMiddle : Middle → Type 0
IsMiddle middle = (f : TwoOperands) × (middle_of f ≡ middle)

-- The text before the first operand of a function is read, and every tree whose pieces came next has such a function.
pub record Begins (frame : Frame) (before after : Place) : Type 0 where
  pub passed : ReadsWords (frame_text frame) before after
  pub tells : Tells (Some frame) before

-- The text between the operands of a function is read, and no other function could have its text there.
pub record IsBetweenRead (f : TwoOperands) (before after : Place) : Type 0 where
  pub passed : ReadsWords (middle_text (function_of_two f)) before after
  pub tells : (g : TwoOperands) (more : List Piece) → middle_of g ≡ middle_of f
      → Goes (words (middle_text (function_of_two g)) ++ more) before → g ≡ f

-- A function of two operands is read up to the beginning of its second operand; the first is `a`.
pub record IsSecond (f : TwoOperands) (a : Tree) (before after : Place) : Type 0 where
  pub operand : Place
  pub middle : Place
  pub begins : Begins (First (middle_of f)) before operand
  pub reads : ReadsTree a operand middle
  pub between : IsBetweenRead f middle after

-- A function whose operands are being read.
pub data Opened : Type 0 where
  -- a function of two operands, neither of which is read, known by the text between them
  first : (middle : Middle) → Opened
  -- a function of one operand
  single : (f : OneOperand) → Opened
  -- a function of two operands, of which the first is read, and so is the text between them
  second : (f : TwoOperands) → (a : Tree) → Opened

-- the frame of the function: what has to follow its next operand
abbrev pub frame_of : Opened → Frame
frame_of (first middle) = First middle
frame_of (single f) = Last (function_of_one f)
frame_of (second f a) = Last (function_of_two f)

-- the tokens of its operands that are read
abbrev pub opened_tokens : Opened → List Token
opened_tokens (first middle) = []
opened_tokens (single f) = []
opened_tokens (second f a) = tokens_of a

-- everything before its next operand is read
abbrev pub IsOpened : Opened → Place → Place → Type 0
IsOpened (first middle) before after = Begins (First middle) before after × IsMiddle middle
IsOpened (single f) before after = Begins (Last (function_of_one f)) before after
IsOpened (second f a) before after = IsSecond f a before after

-- one function after another, the outermost first
abbrev pub AreOpened : List Opened → Place → Place → Type 0
AreOpened [] before after = before ≡ after
AreOpened (o ∷ opened) before after = (next : Place) × IsOpened o before next × AreOpened opened next after

-- ---- an expression while it is read

-- the tokens that are kept of all tokens so far: the first 255, and whether there are more
pub record Keeps (all : List Token) (infix_read : Infix) : Type 0 where
  pub tokens : infix_read.tokens ≡ take 255 all
  pub long : infix_read.is_long ≡ nat_lt 255 (length all)

-- The expression is read from its start to the beginning of an operand.
pub record IsBefore (start now : Place) (infix_read : Infix) : Type 0 where
  pub opened : List Opened
  pub are : AreOpened opened start now
  pub frames : infix_read.frames.items ≡ map frame_of opened
  pub keeps : Keeps (flat_map opened_tokens opened) infix_read

-- The expression is read from its start to the end of an operand.
pub record IsBehind (start now : Place) (infix_read : Infix) : Type 0 where
  pub opened : List Opened
  pub tree : Tree
  pub operand : Place
  pub are : AreOpened opened start operand
  pub reads : ReadsTree tree operand now
  pub frames : infix_read.frames.items ≡ map frame_of opened
  pub keeps : Keeps (flat_map opened_tokens opened ++ tokens_of tree) infix_read

-- The expression is read from its start to the end of the first operand of a function; `middle` follows it.
pub record IsBetween (middle : Middle) (start now : Place) (infix_read : Infix) : Type 0 where
  pub opened : List Opened
  pub tree : Tree
  pub begin : Place
  pub operand : Place
  pub are : AreOpened opened start begin
  pub begins : Begins (First middle) begin operand
  pub is_middle : IsMiddle middle
  pub reads : ReadsTree tree operand now
  pub frames : infix_read.frames.items ≡ map frame_of opened
  pub keeps : Keeps (flat_map opened_tokens opened ++ tokens_of tree) infix_read

-- The expression is read.
pub record IsRead (start now : Place) (infix_read : Infix) : Type 0 where
  pub tree : Tree
  pub reads : ReadsTree tree start now
  pub keeps : Keeps (tokens_of tree) infix_read

-- the whole expression is read if nothing follows the operand (`None`)
abbrev pub IsClosed : Option Middle → Place → Place → Infix → Type 0
IsClosed None start now infix_read = IsRead start now infix_read
IsClosed (Some middle) start now infix_read = IsBetween middle start now infix_read

-- The expression is read, or a piece of it is missing. No piece is missing if the pieces of a tree came next.
pub record IsWhole (start now : Place) (infix_read : Infix) : Type 0 where
  pub moves : Moves start now
  pub read : IsSound now → IsRead start now infix_read
  pub takes : (t : Tree) (more : List Piece) → NoFigure more → Goes (infix_pieces t ++ more) start → IsSound now

-- A number or a variable is read, and this is its token.
pub record IsLeaf (start now : Place) (token : Token) : Type 0 where
  pub tree : Tree
  pub reads : ReadsTree tree start now
  pub tokens : tokens_of tree ≡ token ∷ []
  pub alone : operands_of token ≡ 0
