-- A line of a listing by its first word and what else it states, and that no two lines that state something else have the same bytes.
use Rattle.std.proofs.Common.{◌≡◌, ℕ, zero, suc, ◌==◌, ◌&&◌, ◌||◌, Bool, true, false, List, [], ◌∷◌, ◌++◌, get_or, length, codes}
use Rattle.std.proofs.Common.{refl, sym, ap, subst, ◌∙◌, inl, inr, ◌⊎◌, eqb-true, ◌<◌, arith}
use Rattle.mufom_expr.specs.Tree.{Tree, tokens_of}
use Rattle.mufom_names.specs.declared.name.Note.{Note}
use Rattle.mufom_text.specs.Words.{Text}
use Rattle.mufom_build_text.specs.Pieces.{Piece, gap, figure, digits, expression, words, infix_pieces}
use Rattle.mufom_build_text.specs.Pieces.{value_pieces}
use Rattle.mufom_build_text.specs.Pieces.{MOST_NUMBER}
use Rattle.mufom_build.specs.Lines.{spaced_pieces, note_pieces}
use Rattle.mufom_build_text.specs.Loosely.{no_space, no_figure, no_hex}
use Rattle.mufom_build_text.proofs.FirstBytes.{both_true}
use Rattle.mufom_build.proofs.OnePiece.{Both, expression_both, digits_both}
use Rattle.mufom_build.proofs.OneWord.{tight, clash, words_both, words_differ, nothing_is_no_word, turned}
use Rattle.mufom_build.proofs.OneWord.{past_gap, past_figure}
use Rattle.mufom_build.proofs.OneTree.{tree_both, infix_no_space}
use Rattle.mufom_build.specs.Rows.{Keyword, on_module, on_extension, on_environment, on_section, on_public, on_note, on_reference}
use Rattle.mufom_build.specs.Rows.{on_block, on_end, on_name, on_value, on_select, on_counter, on_bytes, on_field, on_repeat}
use Rattle.mufom_build.specs.Rows.{on_start, word_of}

-- ---- the first word of a line

abbrev number_of : Keyword → ℕ
number_of on_module = 0
number_of on_extension = 1
number_of on_environment = 2
number_of on_section = 3
number_of on_public = 4
number_of on_note = 5
number_of on_reference = 6
number_of on_block = 7
number_of on_end = 8
number_of on_name = 9
number_of on_value = 10
number_of on_select = 11
number_of on_counter = 12
number_of on_bytes = 13
number_of on_field = 14
number_of on_repeat = 15
number_of on_start = 16

abbrev keywords : List Keyword
keywords = on_module ∷ on_extension ∷ on_environment ∷ on_section ∷ on_public ∷ on_note ∷ on_reference ∷ on_block ∷ on_end ∷ on_name ∷ on_value
    ∷ on_select ∷ on_counter ∷ on_bytes ∷ on_field ∷ on_repeat ∷ on_start ∷ []

found : (k : Keyword) → get_or keywords (number_of k) on_module ≡ k
found on_module = refl
found on_extension = refl
found on_environment = refl
found on_section = refl
found on_public = refl
found on_note = refl
found on_reference = refl
found on_block = refl
found on_end = refl
found on_name = refl
found on_value = refl
found on_select = refl
found on_counter = refl
found on_bytes = refl
found on_field = refl
found on_repeat = refl
found on_start = refl

abbrev every : (Keyword → Bool) → List Keyword → Bool
every test [] = true
every test (k ∷ ks) = test k && every test ks

every_at : (test : Keyword → Bool) (ks : List Keyword) (k : Keyword) (n : ℕ) → every test ks ≡ true → test k ≡ true → test (get_or ks n k) ≡ true
every_at test [] k n all other = other
every_at test (x ∷ ks) k zero all other = (both_true (test x) (every test ks) all).0
every_at test (x ∷ ks) k (suc n) all other = every_at test ks k n (both_true (test x) (every test ks) all).1 other

-- a test that each keyword of the list passes
pub each_keyword : (test : Keyword → Bool) → every test keywords ≡ true → (k : Keyword) → test k ≡ true
each_keyword test all k =
    ap test (sym (found k)) ∙ every_at test keywords on_module (number_of k) all (both_true (test on_module) _ all).0

abbrev told : Keyword → Keyword → Bool
told k j = (number_of k == number_of j) || clash (word_of k) (word_of j)

all_told : (k j : Keyword) → told k j ≡ true
all_told k j = each_keyword (told k) (each_keyword (λ i. every (told i) keywords) refl k) j

pub word_tight : (k : Keyword) → tight (word_of k) ≡ true
word_tight = each_keyword (λ k. tight (word_of k)) refl

-- lines of the same bytes have one first word
pub one_keyword : (k j : Keyword) (xs ys : List Piece) → Both (words (word_of k) ++ xs) (words (word_of j) ++ ys) → k ≡ j
one_keyword k j xs ys both = by_test (number_of k == number_of j) refl (all_told k j)
  where
    by_test : (b : Bool) → (number_of k == number_of j) ≡ b → (b || clash (word_of k) (word_of j)) ≡ true → k ≡ j
    by_test true e h = sym (found k) ∙ ap (λ n. get_or keywords n on_module) (eqb-true (number_of k) (number_of j) e) ∙ found j
    by_test false e h = absurd (words_differ (word_of k) (word_of j) xs ys h both)

-- ---- what may follow a line up to its end: nothing, or spaces

abbrev pub IsTail : List Piece → Type 0
IsTail xs = (xs ≡ []) ⊎ (xs ≡ gap ∷ [])

pub tail_no_figure : (xs : List Piece) → IsTail xs → no_figure xs ≡ true
tail_no_figure xs (inl e) = ap no_figure e
tail_no_figure xs (inr e) = ap no_figure e

-- no more of a line is spaces
pub tail_is_no_more : (xs ys : List Piece) → IsTail xs → no_space ys ≡ true → (Both [] ys → ⊥) → Both xs (gap ∷ ys) → ⊥
tail_is_no_more xs ys (inl e) free some both = nothing_is_no_word 32 ys (subst (λ (l : List Piece). Both l (gap ∷ ys)) e both)
tail_is_no_more xs ys (inr e) free some both = some (past_gap (subst (λ (l : List Piece). Both l (gap ∷ ys)) e both) refl free)

pub nothing_is_no_figure : (most n : ℕ) (ys : List Piece) → Both [] (figure most n ∷ ys) → ⊥
nothing_is_no_figure most n ys both =
    let (first, rest, is, (numeral, value), more) = both.right in
    no_numeral first rest (sym both.left ∙ is) numeral.0
  where
    no_numeral : (first rest : Text) → [] ≡ first ++ rest → 0 < length first → ⊥
    no_numeral [] rest e some = absurd (omega (arith, some))
    no_numeral (b ∷ first) rest e some = cc

pub nothing_is_no_digits : (b : ℕ) (bytes : List ℕ) (ys : List Piece) → Both [] (digits (b ∷ bytes) ∷ ys) → ⊥
nothing_is_no_digits b bytes ys both =
    let (first, rest, is, (high, low, inside, e, are, spelled), more) = both.right in
    let h : [] ≡ high ∷ (low ∷ (inside ++ rest)) = sym both.left ∙ is ∙ ap (λ l. l ++ rest) e in cc

-- bytes by their digits, at the end of a line
pub tail_digits : (bs cs : List ℕ) (xs ys : List Piece) → IsTail xs → IsTail ys → Both (digits bs ∷ xs) (digits cs ∷ ys) → bs ≡ cs
tail_digits bs cs xs ys t u both = digits_both bs cs xs ys (tail_no_hex xs t) (tail_no_hex ys u) both
  where
    tail_no_hex : (xs : List Piece) → IsTail xs → no_hex xs ≡ true
    tail_no_hex xs (inl e) = ap no_hex e
    tail_no_hex xs (inr e) = ap no_hex e

-- ---- expressions, numbers and notes

pub valued : (v u : Tree) (xs ys : List Piece) → IsTail xs → IsTail ys → Both (value_pieces v ++ xs) (value_pieces u ++ ys) → v ≡ u
valued v u xs ys t w both =
    let a = expression_both (length (tokens_of v)) (length (tokens_of u)) (infix_pieces v ++ xs) (infix_pieces u ++ ys) both in
    (tree_both v u xs ys (tail_no_figure xs t) (tail_no_figure ys w) a).0

-- an expression to which something is set
pub assigned : (v u : Tree) (xs ys : List Piece) → IsTail xs → IsTail ys
    → Both ((words (codes " = ") ++ value_pieces v) ++ xs) ((words (codes " = ") ++ value_pieces u) ++ ys)
    → v ≡ u
assigned v u xs ys t w both =
    let a : Both (gap ∷ expression (length (tokens_of v)) ∷ (infix_pieces v ++ xs))
    (gap ∷ expression (length (tokens_of u)) ∷ (infix_pieces u ++ ys)) =
    words_both (codes " =") _ _ refl both in
    valued v u xs ys t w (past_gap a (infix_no_space v xs) (infix_no_space u ys))

spaced_no_figure : (ns : List ℕ) (xs : List Piece) → IsTail xs → no_figure (spaced_pieces ns ++ xs) ≡ true
spaced_no_figure [] xs t = tail_no_figure xs t
spaced_no_figure (n ∷ ns) xs t = refl

pub numbered : (ns ms : List ℕ) (xs ys : List Piece) → IsTail xs → IsTail ys → Both (spaced_pieces ns ++ xs) (spaced_pieces ms ++ ys) → ns ≡ ms
numbered [] [] xs ys t u both = refl
numbered [] (m ∷ ms) xs ys t u both = absurd (tail_is_no_more xs _ t refl (nothing_is_no_figure MOST_NUMBER m _) both)
numbered (n ∷ ns) [] xs ys t u both = absurd (tail_is_no_more ys _ u refl (nothing_is_no_figure MOST_NUMBER n _) (turned _ _ both))
numbered (n ∷ ns) (m ∷ ms) xs ys t u both =
    let a : Both (figure MOST_NUMBER n ∷ (spaced_pieces ns ++ xs)) (figure MOST_NUMBER m ∷ (spaced_pieces ms ++ ys)) = past_gap both refl refl in
    let (same, b) = past_figure a (spaced_no_figure ns xs t) (spaced_no_figure ms ys u) in
    ap (λ k. k ∷ ns) same ∙ ap (λ l. m ∷ l) (numbered ns ms xs ys t u b)

pub noted : (a b : Note) (xs ys : List Piece) → IsTail xs → IsTail ys → Both (note_pieces a ++ xs) (note_pieces b ++ ys) → a ≡ b
noted a b xs ys t u both =
    let c : Both (gap ∷ figure MOST_NUMBER a.type_index ∷ _) (gap ∷ figure MOST_NUMBER b.type_index ∷ _) = words_both (codes " type") _ _ refl both in
    let (types, d) = past_figure (past_gap c refl refl) refl refl in
    let e : Both (gap ∷ figure MOST_NUMBER a.attribute ∷ (spaced_pieces a.numbers.items ++ xs))
    (gap ∷ figure MOST_NUMBER b.attribute ∷ (spaced_pieces b.numbers.items ++ ys)) = words_both (codes " attribute") _ _ refl d in
    let (attributes, f) = past_figure (past_gap e refl refl) (spaced_no_figure a.numbers.items xs t) (spaced_no_figure b.numbers.items ys u) in
    let numbers = numbered a.numbers.items b.numbers.items xs ys t u f in
    λ i. record { type_index = types i; attribute = attributes i; numbers = record { items = numbers i } }
