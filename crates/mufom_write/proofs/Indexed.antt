-- Expressions in a written form: they spell the tree over the indexes of the file, whose positions give the tree back.
use Rattle.std.proofs.Common.{◌≡◌, ℕ, zero, suc, ◌+◌, ◌-◌, ◌^◌, ◌<◌, ◌≤◌, ◌==◌, Bool, true, false, not, cond, nat_le, List, [], ◌∷◌, ◌++◌, length}
use Rattle.std.proofs.Common.{position, Some, None, unwrap_or, refl, sym, subst, ap, ◌∙◌, inl, inr, arith}
use Rattle.std.specs.List.{AllByRecursion, list_any, position_or_len}
use Rattle.std.proofs.lemmas.List.{length-map}
use Rattle.std.proofs.lemmas.List.Folds.{list_any-append}
use Rattle.std.proofs.lemmas.Bool.{leb-false, lt-ltb, eq-eqb, cases_lt, or_parts}
use Rattle.mufom_expr.specs.declared.token.Letter.{Letter}
use Rattle.mufom_expr.specs.declared.token.Letter.TheVariants.{I, L, P, R, S, X}
use Rattle.mufom_expr.specs.declared.token.Token.{Token}
use Rattle.mufom_expr.specs.declared.token.Token.TheVariants.{Number, Var, Fun}
use Rattle.mufom_expr.specs.Tree.{Tree, number, variable, one, two, tokens_of, function_of_one, function_of_two, IsInRange}
use Rattle.mufom_expr.specs.Value.{variables_of, with_variables}
use Rattle.mufom_expr.specs.Renamed.{renamed_token, renamed_tokens}
use Rattle.mufom_expr.specs.Spelled.{SpellsTokens, SpellsTree, SpellsToken, Indexes, list_of}
use Rattle.mufom_expr.proofs.TermsLemmas.{renamed_tokens-tokens_of}
use Rattle.mufom_module.specs.SpelledRecords.{position_in, positioned}
use Rattle.mufom_module.specs.Written.{shortest, index_of, each_from}
use Rattle.mufom_module.specs.Written as w
use Rattle.mufom_module.specs.declared.module.Parts.{Parts}
use Rattle.mufom_module.specs.Defects.{counts_of, count_for, is_outside, names_outside}
use Rattle.mufom_write.proofs.Rows.{spells}

-- a variable with the index of the file in the place of its position
abbrev pub with_index : Letter → ℕ → Letter × ℕ
with_index letter position = (letter, index_of letter position)

-- the tree over the indexes of the file
abbrev pub indexed : Tree → Tree
indexed tree = with_variables with_index tree

-- the number has 64 bits, and the index of the variable 32
abbrev pub IsFitting : Token → Type 0
IsFitting (Number n) = n < 2 ^ 64
IsFitting (Var letter position) = index_of letter position < 2 ^ 32
IsFitting (Fun f) = Unit {0}

token-spells : (token : Token) → IsFitting token → SpellsToken (renamed_token with_index token) (w.token shortest token)
token-spells (Number n) fits = spells n fits
token-spells (Var letter position) fits = (fits, w.number shortest (index_of letter position), spells (index_of letter position) (omega (arith, fits)), refl)
token-spells (Fun f) fits = refl

tokens-spell : (k : ℕ) (tokens : List Token) → AllByRecursion IsFitting tokens
    → SpellsTokens (renamed_tokens with_index tokens) (each_from k (λ _. w.token shortest) tokens)
tokens-spell k [] fit = refl
tokens-spell k (token ∷ tokens) fit = (
  w.token shortest token,
  each_from (k + 1) (λ _. w.token shortest) tokens,
  token-spells token fit.0,
  tokens-spell (k + 1) tokens fit.1,
  refl,
)

-- what keeps an expression within the bounds of the form
abbrev pub IsFittingTree : Tree → Type 0
IsFittingTree tree = (length (tokens_of tree) ≤ 255) × AllByRecursion IsFitting (tokens_of tree)

pub expression-spells : (tree : Tree) → IsFittingTree tree → SpellsTree (indexed tree) (w.expression shortest tree)
expression-spells tree fits =
    let same = renamed_tokens-tokens_of with_index tree in
    let count = ap length (sym same) ∙ length-map (tokens_of tree) (renamed_token with_index) in (
      omega (arith, count, fits.0),
      subst (λ (tokens : List Token). SpellsTokens tokens (w.expression shortest tree)) same
          (tokens-spell 0 (tokens_of tree) fits.1),
    )

-- ---- from validity

all-append : {X : Type 0} (Is : X → Type 0) (xs ys : List X) → AllByRecursion Is xs → AllByRecursion Is ys → AllByRecursion Is (xs ++ ys)
all-append Is [] ys a b = b
all-append Is (x ∷ xs) ys a b = (a.0, all-append Is xs ys a.1 b)

all-prefix : {X : Type 0} (Is : X → Type 0) (xs ys : List X) → AllByRecursion Is (xs ++ ys) → AllByRecursion Is xs
all-prefix Is [] ys a = tt
all-prefix Is (x ∷ xs) ys a = (a.0, all-prefix Is xs ys a.1)

all-back : {X : Type 0} (Is : X → Type 0) (xs ys : List X) → AllByRecursion Is (xs ++ ys) → AllByRecursion Is ys
all-back Is [] ys a = a
all-back Is (x ∷ xs) ys a = all-back Is xs ys a.1

-- the entries of a module are few enough for their indexes
pub record AreFew (m : Parts) : Type 0 where
  pub sections : length m.sections + 1 ≤ 2 ^ 32
  pub publics : length m.names.publics + 32 ≤ 2 ^ 32
  pub references : length m.names.references + 11 ≤ 2 ^ 32

index-fits : (m : Parts) (letter : Letter) (place : ℕ) → AreFew m → place < count_for (counts_of m) letter → index_of letter place < 2 ^ 32
index-fits m I place few within = omega (arith, few.publics, within)
index-fits m L place few within = omega (arith, few.sections, within)
index-fits m P place few within = omega (arith, few.sections, within)
index-fits m R place few within = omega (arith, few.sections, within)
index-fits m S place few within = omega (arith, few.sections, within)
index-fits m X place few within = omega (arith, few.references, within)

tree-fits : (m : Parts) (tree : Tree) → AreFew m → AllByRecursion IsInRange (tokens_of tree) → list_any (is_outside (counts_of m)) (variables_of tree)
    ≡ false → AllByRecursion IsFitting (tokens_of tree)
tree-fits m (number value) few range inside = (range.0, tt)
tree-fits m (variable letter place) few range inside =
    let within = leb-false (count_for (counts_of m) letter) place (or_parts (nat_le (count_for (counts_of m) letter) place) false inside).0 in
    (index-fits m letter place few within, tt)
tree-fits m (one f a) few range inside =
    all-append IsFitting (tokens_of a) (Fun (function_of_one f) ∷ [])
    (tree-fits m a few (all-prefix IsInRange (tokens_of a) (Fun (function_of_one f) ∷ []) range) inside) (tt, tt)
tree-fits m (two f a b) few range inside =
    let both = all-prefix IsInRange (tokens_of a ++ tokens_of b) (Fun (function_of_two f) ∷ []) range in
    let parts = or_parts (list_any (is_outside (counts_of m)) (variables_of a)) (list_any (is_outside (counts_of m)) (variables_of b))
    (sym (list_any-append (is_outside (counts_of m)) (variables_of a) (variables_of b)) ∙ inside) in
    all-append IsFitting (tokens_of a ++ tokens_of b) (Fun (function_of_two f) ∷ [])
    (all-append IsFitting (tokens_of a) (tokens_of b)
    (tree-fits m a few (all-prefix IsInRange (tokens_of a) (tokens_of b) both) parts.0)
    (tree-fits m b few (all-back IsInRange (tokens_of a) (tokens_of b) both) parts.1))
    (tt, tt)

pub fitting : (m : Parts) (tree : Tree) → AreFew m → length (tokens_of tree) ≤ 255 → AllByRecursion IsInRange (tokens_of tree)
    → names_outside (counts_of m) tree ≡ false → IsFittingTree tree
fitting m tree few short range inside = (short, tree-fits m tree few range inside)

-- ---- positions

-- indexes from the first on, as many as the second argument
abbrev pub counting : ℕ → ℕ → List ℕ
counting first zero = []
counting first (suc n) = first ∷ counting (first + 1) n

-- the index lists of the written form, with `debug_names` debug names
abbrev pub written_indexes : Parts → ℕ → Indexes
written_indexes m debug_names = record {
  sections = counting 1 (length m.sections);
  publics = counting 32 (length m.names.publics);
  references = counting 11 (length m.names.references);
  debug_names = counting 32 debug_names;
}

not_equal : (a b : ℕ) → a < b → (a == b) ≡ false
not_equal a b h = grind arith

length-counting : (first n : ℕ) → length (counting first n) ≡ n
length-counting first zero = refl
length-counting first (suc n) = let rest = length-counting (first + 1) n in omega (arith, rest)

first-skip : (test : ℕ → Bool) (x : ℕ) (xs : List ℕ) → test x ≡ false → position_or_len test (x ∷ xs) ≡ 1 + position_or_len test xs
first-skip test x xs h = ap (λ (b : Bool). cond (not b) (1 + position_or_len test xs) 0) h

first-found : (test : ℕ → Bool) (x : ℕ) (xs : List ℕ) → test x ≡ true → position_or_len test (x ∷ xs) ≡ 0
first-found test x xs h = ap (λ (b : Bool). cond (not b) (1 + position_or_len test xs) 0) h

place-counting : (i first n : ℕ) → first ≤ i → i < first + n → position_or_len (λ j. j == i) (counting first n) ≡ i - first
place-counting i first zero above below = absurd (omega (arith, above, below))
place-counting i first (suc n) above below = elim (cases_lt first i) [
  | inl less ↦
      let rest = place-counting i (first + 1) n (omega (arith, less)) (omega (arith, below)) in
      first-skip (λ j. j == i) first (counting (first + 1) n) (not_equal first i less) ∙ omega (arith, rest, less)
  | inr least ↦
      let same : first ≡ i = omega (arith, above, least) in
      first-found (λ j. j == i) first (counting (first + 1) n) (eq-eqb first i same) ∙ omega (arith, same)
]

pub position_in-counting : (first n place : ℕ) → place < n → position_in (counting first n) (place + first) ≡ place
position_in-counting first n place within =
    let at = place-counting (place + first) first n (omega arith) (omega (arith, within)) in
    let count = length-counting first n in
    let found = lt-ltb (position_or_len (λ j. j == place + first) (counting first n)) (length (counting first n)) (omega (arith, at, count, within)) in
    ap (λ (b : Bool). unwrap_or (cond b (Some (position_or_len (λ j. j == place + first) (counting first n))) None) 0) found ∙ omega (arith, at)

place-back : (m : Parts) (k : ℕ) (letter : Letter) (place : ℕ) → place < count_for (counts_of m) letter
    → position_in (list_of (written_indexes m k) letter) (index_of letter place) ≡ place
place-back m k I place within = position_in-counting 32 (length m.names.publics) place within
place-back m k L place within = position_in-counting 1 (length m.sections) place within
place-back m k P place within = position_in-counting 1 (length m.sections) place within
place-back m k R place within = position_in-counting 1 (length m.sections) place within
place-back m k S place within = position_in-counting 1 (length m.sections) place within
place-back m k X place within = position_in-counting 11 (length m.names.references) place within

-- the positions of the indexed tree give the tree back
pub positioned-indexed : (m : Parts) (k : ℕ) (tree : Tree) → names_outside (counts_of m) tree ≡ false → positioned (written_indexes m k) (indexed tree) ≡ tree
positioned-indexed m k (number value) inside = refl
positioned-indexed m k (variable letter place) inside =
    ap (variable letter) (place-back m k letter place (leb-false (count_for (counts_of m) letter) place
    (or_parts (nat_le (count_for (counts_of m) letter) place) false inside).0))
positioned-indexed m k (one f a) inside = ap (one f) (positioned-indexed m k a inside)
positioned-indexed m k (two f a b) inside =
    let parts = or_parts (names_outside (counts_of m) a) (names_outside (counts_of m) b)
    (sym (list_any-append (is_outside (counts_of m)) (variables_of a) (variables_of b)) ∙ inside) in
    let left = positioned-indexed m k a parts.0 in
    let right = positioned-indexed m k b parts.1 in
    λ i. two f (left i) (right i)
