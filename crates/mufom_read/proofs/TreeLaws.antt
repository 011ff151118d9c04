-- The expression of a record, and the tree that its bytes spell.
use Rattle.std.proofs.Common.{◌≡◌, ℕ, zero, suc, ◌≤◌, List, [], ◌∷◌, ◌++◌, length, drop, Option, refl, sym, ap, subst, ◌∙◌, arith}
use Rattle.mufom_numbers.specs.declared.taken.Span.{Span}
use Rattle.mufom_expr.specs.declared.token.Token.{Token}
use Rattle.mufom_expr.specs.Tree.{Tree, tokens_of}
use Rattle.mufom_expr.specs.Terms.{the_term}
use Rattle.mufom_expr.specs.TreeCode.{the_term-tokens_of}
use Rattle.mufom_expr.specs.TokenAt.{first_token, tokens_at, tokens_in}
use Rattle.mufom_expr.specs.Spelled.{SpellsTokens, SpellsTree}
use Rattle.mufom_expr.proofs.TokenLaws.{token_at-spelling}
use Rattle.mufom_records.specs.declared.record.Record.{Record}
use Rattle.mufom_records.specs.Parts.{AreOptionalTokensIn, HasTokens, expression_of}

drop_prefix : (prefix back : List ℕ) → drop (length prefix) (prefix ++ back) ≡ back
drop_prefix [] back = refl
drop_prefix (b ∷ prefix) back = drop_prefix prefix back

spelled : (k : ℕ) (tokens : List Token) (bytes : List ℕ) → length tokens ≤ k → SpellsTokens tokens bytes → tokens_at k bytes ≡ tokens
spelled zero [] bytes few s = refl
spelled zero (token ∷ tokens) bytes few s = absurd (omega arith)
spelled (suc k) [] bytes few s = ap (λ b. tokens_at (suc k) b) s
spelled (suc k) (token ∷ tokens) bytes few (prefix, back, first, rest, split) =
    ap (λ b. tokens_at (suc k) b) split
    ∙ ap (λ x. first_token x (λ used. tokens_at k (drop used (prefix ++ back)))) (token_at-spelling token prefix back first)
    ∙ ap (λ b. token ∷ tokens_at k b) (drop_prefix prefix back)
    ∙ ap (λ ts. token ∷ ts) (spelled k tokens back (omega arith) rest)

-- the tree that bytes spell is the one that they are read as
pub tree-spelled : (tree : Tree) (bytes : List ℕ) → SpellsTree tree bytes → tree ≡ the_term (tokens_in bytes)
tree-spelled tree bytes s = sym (ap the_term (spelled 255 (tokens_of tree) bytes s.0 s.1) ∙ the_term-tokens_of tree)

-- the tree of these tokens is the one that the bytes are read as
pub tree-of_tokens : (tree : Tree) (bytes : List ℕ) (tokens : List Token) → tokens ≡ tokens_of tree
    → (other : Tree) × SpellsTree other bytes × (tokens ≡ tokens_of other) → tree ≡ the_term (tokens_in bytes)
tree-of_tokens tree bytes tokens same (other, spells, are) =
    let one : tree ≡ other = sym (the_term-tokens_of tree) ∙ ap the_term (sym same ∙ are) ∙ the_term-tokens_of other in
    one ∙ tree-spelled other bytes spells

-- the tokens of a record's expression, at its position
pub tokens-there : (bytes : List ℕ) (row : Record) (tokens : List Token) (o : Option Span) → HasTokens bytes row tokens → o ≡ expression_of row
    → AreOptionalTokensIn bytes o tokens
tokens-there bytes row tokens o has same = subst (λ (x : Option Span). AreOptionalTokensIn bytes x tokens) (sym same) has
