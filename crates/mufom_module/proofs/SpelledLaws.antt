-- An expression is the tree that its bytes spell, and the positions of its variables correspond to their indexes.
use Rattle.std.proofs.Common.{◌≡◌, ℕ, zero, suc, ◌+◌, ◌<◌, ◌≤◌, ◌==◌, Bool, true, false, not, ◌&&◌, ◌||◌, cond, nat_lt, List, [], ◌∷◌, ◌++◌, length}
use Rattle.std.proofs.Common.{drop, get_or, slice_get, position, Option, Some, None, unwrap_or, refl, sym, ap, ◌∙◌, arith}
use Rattle.std.specs.List.{list_any, position_or_len}
use Rattle.std.proofs.lemmas.List.{drop_at}
use Rattle.std.proofs.lemmas.List.Folds.{list_all-append}
use Rattle.std.proofs.lemmas.List.Quantifiers.{position-Some}
use Rattle.std.proofs.lemmas.Option.{slice_get-get_or}
use Rattle.std.proofs.lemmas.Map.Views.{exact_unsigned_eq}
use Rattle.mufom_numbers.specs.declared.taken.Taken.{Taken}
use Rattle.mufom_numbers.specs.declared.taken.Taken.TheVariants as taken
use Rattle.mufom_expr.specs.declared.token.Letter.{Letter}
use Rattle.mufom_expr.specs.declared.token.Token.{Token}
use Rattle.mufom_expr.specs.Tree.{Tree, number, variable, one, two, tokens_of}
use Rattle.mufom_expr.specs.TreeCode.{the_term-tokens_of}
use Rattle.mufom_expr.specs.Terms.{the_term}
use Rattle.mufom_expr.specs.Value.{variables_of}
use Rattle.mufom_expr.specs.TokenAt.{token_at, first_token, tokens_at, tokens_in}
use Rattle.mufom_expr.specs.Spelled.{SpellsTokens, SpellsTree, Indexes, list_of, IsIndexed}
use Rattle.mufom_expr.proofs.TokenLaws.{token_at-spelling}
use Rattle.mufom_module.specs.SpelledRecords.{position_in, positioned, are_listed}

-- ---- trees

first_got : (token : Token) (used : ℕ) (after : ℕ → List Token) (answer : Taken Token) → answer ≡ taken.Got token used → first_token answer after
    ≡ token ∷ after used
first_got token used after answer e = ap (λ (a : Taken Token). first_token a after) e

tokens_at-spelling : (k : ℕ) (tokens : List Token) (bytes : List ℕ) → SpellsTokens tokens bytes → length tokens ≤ k → tokens_at k bytes ≡ tokens
tokens_at-spelling zero [] bytes spells few = refl
tokens_at-spelling zero (token ∷ tokens) bytes spells few = absurd (omega (arith, few))
tokens_at-spelling (suc k) [] bytes spells few = ap (tokens_at (suc k)) spells
tokens_at-spelling (suc k) (token ∷ tokens) bytes (text, back, spelled, spells, split) few =
    let after : ℕ → List Token = λ used. tokens_at k (drop used (text ++ back)) in
    let rest = tokens_at-spelling k tokens back spells (omega (arith, few)) in
    ap (tokens_at (suc k)) split
    ∙ first_got token (length text) after (token_at (text ++ back)) (token_at-spelling token text back spelled)
    ∙ ap (λ (l : List ℕ). token ∷ tokens_at k l) (drop_at text back (length text) refl)
    ∙ ap (λ (l : List Token). token ∷ l) rest

pub term-spelling : (tree : Tree) (bytes : List ℕ) → SpellsTree tree bytes → the_term (tokens_in bytes) ≡ tree
term-spelling tree bytes (few, spells) = ap the_term (tokens_at-spelling 255 (tokens_of tree) bytes spells few) ∙ the_term-tokens_of tree

-- ---- positions

found_within : (test : ℕ → Bool) (xs : List ℕ) → list_any test xs ≡ true → position_or_len test xs < length xs
found_within test [] h = cc
found_within test (x ∷ xs) h = by_case (test x) (found_within test xs) h where
  by_case : (b : Bool) → (list_any test xs ≡ true → position_or_len test xs < length xs) → (b || list_any test xs) ≡ true
      → cond (not b) (1 + position_or_len test xs) 0 < length (x ∷ xs)
  by_case true rest h = omega arith
  by_case false rest h = omega (arith, rest h)

test_less : (a b : ℕ) → a < b → nat_lt a b ≡ true
test_less a b h = grind arith

is_found : (test : ℕ → Bool) (xs : List ℕ) → list_any test xs ≡ true → position test xs ≡ Some (position_or_len test xs)
is_found test xs h = ap (λ (b : Bool). cond b (Some (position_or_len test xs)) None) (test_less (position_or_len test xs) (length xs) (found_within test xs h))

slice_get-position_in : (xs : List ℕ) (i : ℕ) → list_any (λ j. j == i) xs ≡ true → slice_get xs (position_in xs i) ≡ Some i
slice_get-position_in xs i h =
    let test : ℕ → Bool = λ j. j == i in
    let place = position_or_len test xs in
    let found = is_found test xs h in
    let stands = position-Some test xs place 0 found in
    ap (λ (o : Option ℕ). slice_get xs (unwrap_or o 0)) found
    ∙ slice_get-get_or xs place 0 stands.0
    ∙ ap Some (exact_unsigned_eq (get_or xs place 0) i stands.1)

both : (a b : Bool) → (a && b) ≡ true → (a ≡ true) × (b ≡ true)
both true b h = (refl, h)
both false b h = cc

pub IsIndexed-positioned : (ix : Indexes) (tree : Tree) → are_listed ix tree ≡ true → IsIndexed ix (positioned ix tree) tree
IsIndexed-positioned ix (number n) h = refl
IsIndexed-positioned ix (variable letter i) h = (refl, slice_get-position_in (list_of ix letter) i (both (list_any (λ j. j == i) (list_of ix letter)) true h).0)
IsIndexed-positioned ix (one f a) h = (refl, IsIndexed-positioned ix a h)
IsIndexed-positioned ix (two f a b) h =
    let test : Letter × ℕ → Bool = λ v. list_any (λ j. j == v.1) (list_of ix v.0) in
    let parts = both (are_listed ix a) (are_listed ix b) (sym (list_all-append test (variables_of a) (variables_of b)) ∙ h) in
    (refl, IsIndexed-positioned ix a parts.0, IsIndexed-positioned ix b parts.1)
