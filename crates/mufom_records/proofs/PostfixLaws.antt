-- The tokens of a tree that bytes spell make one expression.
use Rattle.std.proofs.Common.{◌≡◌, ℕ, zero, suc, ◌+◌, ◌*◌, ◌^◌, ◌<◌, ◌≤◌, List, [], ◌∷◌, length, refl, sym, ap, subst, inl, inr, arith}
use Rattle.std.specs.Prelude.{slice_index_or}
use Rattle.std.specs.List.{AllByRecursion}
use Rattle.mufom_numbers.specs.Spelling.{AreBytes, SpellsNumber, value_after, big_endian}
use Rattle.mufom_expr.specs.declared.token.Token.{Token}
use Rattle.mufom_expr.specs.declared.token.Token.TheVariants.{Number, Var, Fun}
use Rattle.mufom_expr.specs.Tree.{Tree, tokens_of, IsInRange}
use Rattle.mufom_expr.specs.Terms.{the_term, LeaveOneTerm}
use Rattle.mufom_expr.specs.TreeCode.{the_term-tokens_of}
use Rattle.mufom_expr.specs.Spelled.{SpellsToken, SpellsTokens, SpellsTree}
use Rattle.mufom_expr.proofs.Leaves.{leaves-one}
use Rattle.mufom_expr.proofs.TokensBack.{leaves-tokens_of}

-- ---- spelled numbers are below 2^64

-- the number with k further digits in base 256, all of which are 0
abbrev widened : ℕ → ℕ → ℕ
widened zero m = m
widened (suc k) m = widened k (256 * m)

grown : (k n m : ℕ) → n < m → n < widened k m
grown zero n m below = below
grown (suc k) n m below = grown k n (256 * m) (omega (arith, below))

value-below : (k n m : ℕ) (bytes : List ℕ) → AreBytes bytes → length bytes ≤ k → n < m → value_after n bytes < widened k m
value-below k n m [] fits few below = grown k n m below
value-below zero n m (b ∷ bytes) fits few below = absurd (omega (arith, few))
value-below (suc k) n m (b ∷ bytes) fits few below =
    value-below k (256 * n + b) (256 * m) bytes fits.1 (omega (arith, few)) (omega (arith, below, fits.0))

number-below : (n : ℕ) (bytes : List ℕ) → SpellsNumber n bytes → n < 2 ^ 64
number-below n [] spells = absurd spells
number-below n (lead ∷ bytes) (inl (low, none, same)) = omega (arith, low, same)
number-below n (lead ∷ bytes) (inr (is, few, fits, same)) =
    let below : big_endian bytes < 2 ^ 64 = value-below 8 0 1 bytes fits few (omega arith) in
    subst (λ (k : ℕ). k < 2 ^ 64) (sym same) below

-- ---- the tokens of a tree

token-in_range : (token : Token) (text : List ℕ) → SpellsToken token text → IsInRange token
token-in_range (Number n) text spells = number-below n text spells
token-in_range (Var letter index) text spells = spells.0
token-in_range (Fun f) text spells = tt

tokens-in_range : (tokens : List Token) (text : List ℕ) → SpellsTokens tokens text → AllByRecursion IsInRange tokens
tokens-in_range [] text spells = tt
tokens-in_range (token ∷ tokens) text (first, back, spelled, spells, parts) = (token-in_range token first spelled, tokens-in_range tokens back spells)

-- what is required of an expression's tokens
pub record OneExpression (tokens : List Token) : Type 0 where
  pub one : LeaveOneTerm tokens
  pub few : length tokens ≤ 255
  pub range : AllByRecursion IsInRange tokens
  pub back : tokens ≡ tokens_of (the_term tokens)

pub one-expression : (tokens : List Token) → (tree : Tree) × (bytes : List ℕ) × SpellsTree tree bytes × (tokens ≡ tokens_of tree) → OneExpression tokens
one-expression tokens (tree, bytes, spells, same) =
    subst (λ (l : List Token). OneExpression l) (sym same) (record {
      one = leaves-one (tokens_of tree) (leaves-tokens_of tree);
      few = spells.0;
      range = tokens-in_range (tokens_of tree) bytes spells.1;
      back = sym (ap tokens_of (the_term-tokens_of tree));
    })

-- a list of one token
pub one-token : (tokens : List Token) (other : Token) → 1 ≤ length tokens → length tokens < 2 → tokens ≡ slice_index_or tokens 0 other ∷ []
one-token [] other some few = absurd (omega (arith, some))
one-token (token ∷ []) other some few = refl
one-token (token ∷ second ∷ tokens) other some few = absurd (omega (arith, few))
