-- How tokens and expressions are spelled in a file (IEEE Std 695, expressions). A variable's number is the index that
-- the file gives to a section, a public or a reference.
use Rattle.std.specs.Prelude.{◌≡◌, ◌≢◌, ◌⊎◌, slice_get, ℕ, ◌<◌, ◌≤◌, ◌^◌, List, [], ◌∷◌, ◌++◌, length, Some}
use Rattle.mufom_numbers.specs.declared.codes.TheConstants.{FIRST_FUNCTION, LAST_FUNCTION, LAST_NUMBER}
use Rattle.mufom_numbers.specs.Spelling.{SpellsNumber, IsCutOff, BeginsIn}
use Rattle.mufom_expr.specs.declared.token.Letter.{Letter}
use Rattle.mufom_expr.specs.declared.token.Letter.TheVariants.{I, X}
use Rattle.mufom_expr.specs.declared.token.Function.{Function}
use Rattle.mufom_expr.specs.declared.token.Token.{Token}
use Rattle.mufom_expr.specs.declared.token.Token.TheVariants.{Number, Var, Fun}
use Rattle.mufom_expr.specs.Codes.{letter_byte, function_byte}
use Rattle.mufom_expr.specs.Tree.{Tree, number, variable, one, two, tokens_of}

-- A number has the spelling of a number, a function is its byte, and a variable is its letter and its index, which is below 2^32.
abbrev pub SpellsToken : Token → List ℕ → Type 0
SpellsToken (Number n) bytes = SpellsNumber n bytes
SpellsToken (Var letter index) bytes = (index < 2 ^ 32) × (number_bytes : List ℕ) × SpellsNumber index number_bytes
    × (bytes ≡ letter_byte letter ∷ number_bytes)
SpellsToken (Fun f) bytes = bytes ≡ function_byte f ∷ []

-- the bytes are spellings of the tokens, one after the other
abbrev pub SpellsTokens : List Token → List ℕ → Type 0
SpellsTokens [] bytes = bytes ≡ []
SpellsTokens (token ∷ tokens) bytes = (prefix : List ℕ) × (back : List ℕ) × SpellsToken token prefix × SpellsTokens tokens back × (bytes ≡ prefix ++ back)

-- the bytes spell the tokens of the tree, which are at most 255
abbrev pub SpellsTree : Tree → List ℕ → Type 0
SpellsTree tree bytes = (length (tokens_of tree) ≤ 255) × SpellsTokens (tokens_of tree) bytes

-- ---- bytes that do not begin a token

-- there is a first byte, and it satisfies Is
abbrev pub BeginsWith : (ℕ → Type 0) → List ℕ → Type 0
BeginsWith Is [] = ⊥
BeginsWith Is (b ∷ _) = Is b

-- a byte in the range of functions that is not the byte of a supported function
abbrev pub IsLeftOutFunction : ℕ → Type 0
IsLeftOutFunction b = (FIRST_FUNCTION ≤ b) × (b ≤ LAST_FUNCTION) × ((f : Function) → b ≢ function_byte f)

-- a byte that does not begin a number, is not in the range of functions, and is not the byte of a supported letter
abbrev pub IsLeftOutLetter : ℕ → Type 0
IsLeftOutLetter b = (LAST_NUMBER < b) × ((b < FIRST_FUNCTION) ⊎ (LAST_FUNCTION < b)) × ((letter : Letter) → b ≢ letter_byte letter)

-- a letter, followed by a byte that does not begin a number or by a number that is too large for an index
abbrev pub HasBadIndex : List ℕ → Type 0
HasBadIndex input = (letter : Letter) × (rest : List ℕ) × (input ≡ letter_byte letter ∷ rest)
    × (BeginsIn 0x89 0xFF rest ⊎ ((n : ℕ) × (text : List ℕ) × (more : List ℕ) × (2 ^ 32 ≤ n) × SpellsNumber n text × (rest ≡ text ++ more)))

-- a proper prefix of a number's spelling, or a letter and such a prefix
abbrev pub IsCutOffToken : List ℕ → Type 0
IsCutOffToken input = ((n : ℕ) × IsCutOff (SpellsNumber n) input)
    ⊎ ((letter : Letter) × (rest : List ℕ) × (input ≡ letter_byte letter ∷ rest) × (n : ℕ) × IsCutOff (SpellsNumber n) rest)

-- ---- positions and file indexes

-- the index lists of a file: the n-th entry is the index that the file gives to position n
pub record Indexes : Type 0 where
  pub sections : List ℕ
  pub publics : List ℕ
  pub references : List ℕ
  pub debug_names : List ℕ

-- the index list for a letter
abbrev pub list_of : Indexes → Letter → List ℕ
list_of ix I = ix.publics
list_of ix X = ix.references
list_of ix _ = ix.sections

-- the second tree is the first with the file's index in the place of each position
abbrev pub IsIndexed : Indexes → Tree → Tree → Type 0
IsIndexed ix (number n) (number m) = n ≡ m
IsIndexed ix (variable letter position) (variable other index) = (letter ≡ other) × (slice_get (list_of ix letter) position ≡ Some index)
IsIndexed ix (one f a) (one g b) = (f ≡ g) × IsIndexed ix a b
IsIndexed ix (two f a b) (two g c d) = (f ≡ g) × IsIndexed ix a c × IsIndexed ix b d
IsIndexed ix _ _ = ⊥

-- the bytes spell the tree, whose variables are positions, with the file's indexes in place of the positions
abbrev pub SpellsIndexed : Indexes → Tree → List ℕ → Type 0
SpellsIndexed ix tree bytes = (in_file : Tree) × IsIndexed ix tree in_file × SpellsTree in_file bytes
