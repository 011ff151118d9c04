-- The positions in a record, those of its strings, literal bytes and expressions, are within the input. The tokens of its
-- expression.
use Rattle.std.specs.Prelude.{◌≡◌, ℕ, ◌+◌, ◌-◌, ◌≤◌, List, length, take, Option, Some, None, slice_range}
use Rattle.mufom_numbers.specs.declared.taken.Span.{Span}
use Rattle.mufom_expr.specs.declared.token.Token.{Token}
use Rattle.mufom_expr.specs.Tree.{Tree, tokens_of}
use Rattle.mufom_expr.specs.Spelled.{SpellsTree}
use Rattle.mufom_records.specs.declared.record.BlockTail.{BlockTail}
use Rattle.mufom_records.specs.declared.record.BlockTail.TheVariants as tail
use Rattle.mufom_records.specs.declared.record.Record.{Record}
use Rattle.mufom_records.specs.declared.record.Record.TheVariants as r
use Rattle.mufom_records.specs.declared.size.PlainSize.{PlainSize}

-- the span is within the input
abbrev pub LiesIn : List ℕ → Span → Type 0
LiesIn input span = span.start + span.len ≤ length input

-- the span is within the input, and its bytes are exactly those of an expression
abbrev pub IsExpressionIn : List ℕ → Span → Type 0
IsExpressionIn input span = LiesIn input span × ((tree : Tree) × SpellsTree tree (slice_range input span.start (span.start + span.len)))

-- the same for an optional expression, if it is present
abbrev pub IsOptionalExpressionIn : List ℕ → Option Span → Type 0
IsOptionalExpressionIn input None = Unit {0}
IsOptionalExpressionIn input (Some span) = IsExpressionIn input span

-- the same for the expression among the fields that a kind of block adds, if there is one
abbrev pub HasTailParts : List ℕ → BlockTail → Type 0
HasTailParts input (tail.Scope _ _ offset) = IsExpressionIn input offset
HasTailParts input (tail.Section _ _ offset) = IsExpressionIn input offset
HasTailParts input _ = Unit {0}

-- Each string and all literal bytes of the record are within the input, and so is each expression, whose bytes are exactly
-- those of an expression.
abbrev pub HasParts : List ℕ → Record → Type 0
HasParts input (r.ModuleBegin processor name) = LiesIn input processor × LiesIn input name
HasParts input (r.SectionType _ _ _ name _ _ _) = LiesIn input name
HasParts input (r.PublicName _ name) = LiesIn input name
HasParts input (r.PublicValue _ value) = IsExpressionIn input value
HasParts input (r.ReferenceName _ name) = LiesIn input name
HasParts input (r.BlockBegin _ _ name tail_) = LiesIn input name × HasTailParts input tail_
HasParts input (r.BlockEnd value) = IsOptionalExpressionIn input value
HasParts input (r.DebugName _ name) = LiesIn input name
HasParts input (r.DebugValue _ value) = IsExpressionIn input value
HasParts input (r.SetPc _ value) = IsExpressionIn input value
HasParts input (r.Constant bytes) = LiesIn input bytes
HasParts input (r.ConstantItem bytes) = LiesIn input bytes
HasParts input (r.FieldItem _ value _) = IsExpressionIn input value
HasParts input (r.RepeatConstant _ bytes) = LiesIn input bytes
HasParts input (r.Start value) = IsExpressionIn input value
HasParts input _ = Unit {0}

-- ---- the tokens of an expression

-- the offset of a block, for the kinds that have one
abbrev pub offset_of_block : BlockTail → Option Span
offset_of_block (tail.Scope _ _ offset) = Some offset
offset_of_block (tail.Section _ _ offset) = Some offset
offset_of_block _ = None

-- the expression of a record; none has more than one
abbrev pub expression_of : Record → Option Span
expression_of (r.PublicValue _ value) = Some value
expression_of (r.BlockBegin _ _ _ block) = offset_of_block block
expression_of (r.BlockEnd value) = value
expression_of (r.DebugValue _ value) = Some value
expression_of (r.SetPc _ value) = Some value
expression_of (r.FieldItem _ value _) = Some value
expression_of (r.Start value) = Some value
expression_of _ = None

-- the tokens are those of the expression whose bytes are at this span
abbrev pub AreTokensIn : List ℕ → Span → List Token → Type 0
AreTokensIn input span tokens = (tree : Tree) × SpellsTree tree (slice_range input span.start (span.start + span.len)) × (tokens ≡ tokens_of tree)

-- the same for an optional expression, if it is present
abbrev pub AreOptionalTokensIn : List ℕ → Option Span → List Token → Type 0
AreOptionalTokensIn input None tokens = Unit {0}
AreOptionalTokensIn input (Some span) tokens = AreTokensIn input span tokens

-- the tokens are those of the record's expression, if it has one
abbrev pub HasTokens : List ℕ → Record → List Token → Type 0
HasTokens input row tokens = AreOptionalTokensIn input (expression_of row) tokens

-- the tokens of the expression before the size of a field, if the last one is that size
abbrev pub without_size : Option PlainSize → List Token → List Token
without_size None tokens = tokens
without_size (Some _) tokens = take (length tokens - 1) tokens
