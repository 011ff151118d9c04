-- The tokens of a record's expression, which is within the record's own bytes.
use Rattle.std.proofs.Common.{◌≡◌, ℕ, ◌+◌, ◌-◌, ◌<◌, ◌≤◌, List, [], ◌∷◌, length, take, drop, Option, Some, None, Result, Ok, Err, IfOk}
use Rattle.std.proofs.Common.{sym, ap, subst, ◌∙◌, arith, length-take}
use Rattle.std.specs.Prelude.{IfSome, slice_range}
use Rattle.std.proofs.lemmas.List.{drop-take, take-take}
use Rattle.mufom_numbers.specs.declared.taken.Span.{Span}
use Rattle.mufom_expr.specs.declared.token.Token.{Token}
use Rattle.mufom_expr.specs.Spelled.{SpellsTree}
use Rattle.mufom_records.specs.declared.record.BlockTail.{BlockTail}
use Rattle.mufom_records.specs.declared.record.BlockTail.TheVariants as tail
use Rattle.mufom_records.specs.declared.record.Mode.{Mode}
use Rattle.mufom_records.specs.declared.record.Record.{Record}
use Rattle.mufom_records.specs.declared.record.Record.TheVariants as r
use Rattle.mufom_records.specs.declared.stop.Stop.{Stop}
use Rattle.mufom_records.specs.Fields.{first_of}
use Rattle.mufom_records.specs.Layouts.{IsWholeRecord}
use Rattle.mufom_records.specs.Reading.{closed_at}
use Rattle.mufom_records.specs.Parts.{IsExpressionIn, IsOptionalExpressionIn, HasTailParts, HasParts, expression_of, offset_of_block}
use Rattle.mufom_records.specs.Parts.{AreTokensIn, AreOptionalTokensIn, HasTokens}
use Rattle.mufom_records.proofs.OwnParts.{own_parts}
use Rattle.mufom_records.proofs.BeforeLaws.{take-closed}

-- ---- the expression of a record

in_tail : (bytes : List ℕ) (block : BlockTail) → HasTailParts bytes block → IfSome (offset_of_block block) (λ span. IsExpressionIn bytes span)
in_tail bytes tail.Module parts = tt
in_tail bytes (tail.Scope a b offset) parts = parts
in_tail bytes (tail.Source a) parts = tt
in_tail bytes (tail.Section a b offset) parts = parts

in_end : (bytes : List ℕ) (value : Option Span) → IsOptionalExpressionIn bytes value → IfSome value (λ span. IsExpressionIn bytes span)
in_end bytes None parts = tt
in_end bytes (Some span) parts = parts

-- the expression of a record is one of its bytes
pub expression-parts : (bytes : List ℕ) (row : Record) → HasParts bytes row → IfSome (expression_of row) (λ span. IsExpressionIn bytes span)
expression-parts bytes (r.ModuleBegin a b) parts = tt
expression-parts bytes (r.Descriptor a b c) parts = tt
expression-parts bytes (r.Offset a b) parts = tt
expression-parts bytes r.ModuleEnd parts = tt
expression-parts bytes (r.SectionType a b c d e f g) parts = tt
expression-parts bytes (r.Alignment a b c) parts = tt
expression-parts bytes (r.SectionSize a b) parts = tt
expression-parts bytes (r.SectionBase a b) parts = tt
expression-parts bytes (r.PublicName a b) parts = tt
expression-parts bytes (r.PublicValue a b) parts = parts
expression-parts bytes (r.PublicNote a b c d) parts = tt
expression-parts bytes (r.ReferenceName a b) parts = tt
expression-parts bytes (r.WeakReference a b c) parts = tt
expression-parts bytes (r.ReferenceNote a b c d) parts = tt
expression-parts bytes (r.BlockBegin a b c d) parts = in_tail bytes d parts.1
expression-parts bytes (r.BlockEnd a) parts = in_end bytes a parts
expression-parts bytes (r.DebugName a b) parts = tt
expression-parts bytes (r.DebugValue a b) parts = parts
expression-parts bytes (r.DebugNote a b c d) parts = tt
expression-parts bytes (r.SetSection a) parts = tt
expression-parts bytes (r.SetPc a b) parts = parts
expression-parts bytes (r.Constant a) parts = tt
expression-parts bytes r.Relocate parts = tt
expression-parts bytes (r.ConstantItem a) parts = tt
expression-parts bytes (r.FieldItem a b c) parts = parts
expression-parts bytes (r.RepeatConstant a b) parts = tt
expression-parts bytes (r.RepeatRelocate a) parts = tt
expression-parts bytes (r.Start a) parts = parts

-- ---- the tokens of the expression

slice_taken : (used start end : ℕ) (input : List ℕ) → start ≤ end → end ≤ used → slice_range (take used input) start end ≡ slice_range input start end
slice_taken used start end input order within =
    let all : used ≡ start + (used - start) = omega (arith, order, within) in
    ap (λ (n : ℕ). take (end - start) (drop start (take n input))) all
    ∙ ap (take (end - start)) (drop-take start (used - start) input)
    ∙ take-take (end - start) (used - start) (drop start input) (omega (arith, order, within))

taken_tokens : (used : ℕ) (input : List ℕ) (span : Span) (tokens : List Token) → IsExpressionIn (take used input) span → AreTokensIn input span tokens
    → AreTokensIn (take used input) span tokens
taken_tokens used input span tokens own (tree, spells, are) =
    let slice = slice_taken used span.start (span.start + span.len) input (omega arith) (omega (arith, own.0, length-take used input)) in
    (tree, subst (λ (l : List ℕ). SpellsTree tree l) (sym slice) spells, are)

taken_optional : (used : ℕ) (input : List ℕ) (o : Option Span) (tokens : List Token) → IfSome o (λ span. IsExpressionIn (take used input) span)
    → AreOptionalTokensIn input o tokens → AreOptionalTokensIn (take used input) o tokens
taken_optional used input None tokens own are = tt
taken_optional used input (Some span) tokens own are = taken_tokens used input span tokens own are

own_tokens : (m : Mode) (input : List ℕ) (row : Record) (used : ℕ) (next : Option ℕ) (tokens : List Token) → IsWholeRecord m row (take used input) next
    → HasTokens input row tokens → HasTokens (take used input) row tokens
own_tokens m input row used next tokens is has =
    taken_optional used input (expression_of row) tokens
    (expression-parts (take used input) row (own_parts m row (take used input) next is)) has

-- the tokens of a record that was read are those of an expression in its own bytes
pub own-tokens-of : (m : Mode) (input : List ℕ) (row : Record) (answer : Result ℕ Stop) (tokens : List Token)
    → IfOk answer (λ used. (used ≤ length input) × IsWholeRecord m row (take used input) (first_of (drop used input) None))
    → IfOk answer (λ _. HasTokens input row tokens) → IfOk answer (λ used. HasTokens (take used input) row tokens)
own-tokens-of m input row (Ok used) tokens is has = own_tokens m input row used (first_of (drop used input) None) tokens is.1 has
own-tokens-of m input row (Err stop) tokens is has = tt

-- a record in the first bytes of an input is one in the input
pub closed-tokens : (end used : ℕ) (input bytes : List ℕ) (row : Record) (tokens : List Token) → end < length input → used ≤ end
    → bytes ≡ closed_at end input → HasTokens (take used bytes) row tokens → HasTokens (take used input) row tokens
closed-tokens end used input bytes row tokens within few same has =
    let taken : take used bytes ≡ take used input = ap (take used) same ∙ take-closed used end input (0xE1 ∷ []) few (omega (arith, few, within)) in
    subst (λ (l : List ℕ). HasTokens l row tokens) taken has

pub first-tokens : (end used : ℕ) (input bytes : List ℕ) (row : Record) (tokens : List Token) → bytes ≡ take end input → used ≤ length bytes
    → HasTokens (take used bytes) row tokens → HasTokens (take used input) row tokens
first-tokens end used input bytes row tokens same few has =
    let within : used ≤ end = omega (arith, few, ap length same, length-take end input) in
    let taken : take used bytes ≡ take used input = ap (take used) same ∙ take-take used end input within in
    subst (λ (l : List ℕ). HasTokens l row tokens) taken has
