-- Pieces with the text that a listing prints of them, and the lines of these.
use Rattle.std.proofs.Common.{◌≡◌, ℕ, zero, suc, ◌<◌, ◌≤◌, ◌==◌, Bool, true, false, if◌then◌else◌, List}
use Rattle.std.proofs.Common.{[], ◌∷◌, ◌++◌, codes, refl, sym, ap, subst, ◌∙◌, inl, inr, arith, append_assoc}
use Rattle.std.specs.Fmt.{decimal}
use Rattle.std.specs.List.{All, AllByRecursion}
use Rattle.std.proofs.lemmas.List.Elements.{All-head, All-tail}
use Rattle.mufom_numbers.specs.Spelling.{AreBytes}
use Rattle.mufom_expr.specs.Tree.{Tree, number, variable, one, two, function_of_one, function_of_two, tokens_of, IsInRange}
use Rattle.mufom_expr.specs.declared.token.Token.TheVariants.{Fun}
use Rattle.mufom_expr.specs.declared.token.Token.{Token}
use Rattle.mufom_expr.specs.InfixText.{infix_text, letter_text, opening_text, middle_text}
use Rattle.mufom_module.specs.Made.{IsNumber, IsPosition, IsMadeTree}
use Rattle.mufom_text.specs.Words.{Text, line, quoted, hex_bytes, spaced_numbers, indent}
use Rattle.mufom_build_text.specs.Pieces.{Piece, byte, gap, block, figure, position, count, name, digits, exact, MOST_BYTE, MOST_POSITION, MOST_NUMBER, Spells}
use Rattle.mufom_build_text.specs.Pieces.{AreSpaces, words, number_piece, place_piece, small_piece, name_piece, infix_pieces, value_pieces}
use Rattle.mufom_build_text.specs.Places.{SpellsLines, AreBlank}
use Rattle.mufom_build.specs.Begun.{Fits, AllFit}
use Rattle.mufom_build.specs.Lines.{Line, spaced_pieces}
use Rattle.mufom_build_text.proofs.Spelling.{spells-append, spells-one, number_spelled, words_spelled, digits_spelled, name_spelled}

all_fit : {X : Type 0} (P : X → Type 0) (xs ys : List X) → AllByRecursion P xs → AllByRecursion P ys → AllByRecursion P (xs ++ ys)
all_fit P [] ys all others = others
all_fit P (x ∷ xs) ys (here, all) others = (here, all_fit P xs ys all others)

-- the text spells the pieces, and none of them states too much
pub record Printed (pieces : List Piece) (text : Text) : Type 0 where
  pub spelled : Spells exact pieces text
  pub fit : AllByRecursion Fits pieces

-- pieces and further pieces, with the text of both
infixl 10 ◌▸◌
pub ◌▸◌ : {xs ys : List Piece} {s t : Text} → Printed xs s → Printed ys t → Printed (xs ++ ys) (s ++ t)
◌▸◌ {xs} {ys} {s} {t} p q = record {
  spelled = spells-append exact xs ys s t p.spelled q.spelled;
  fit = all_fit Fits xs ys p.fit q.fit;
}

pub none : Printed [] []
none = record { spelled = refl; fit = tt }

words_fit : (text : Text) → AllByRecursion Fits (words text)
words_fit [] = tt
words_fit (b ∷ text) = (one (b == 32), words_fit text)
  where
    one : (is_space : Bool) → Fits (if is_space then gap else byte b)
    one true = tt
    one false = tt

pub in_words : (text : Text) → Printed (words text) text
in_words text = record { spelled = words_spelled exact text; fit = words_fit text }

pub in_number : (n : ℕ) → IsNumber n → Printed (number_piece n) (decimal n)
in_number n small = record { spelled = spells-one exact (figure MOST_NUMBER n) (decimal n) (number_spelled n small); fit = (omega (arith, small), tt) }

pub in_place : (n : ℕ) → IsPosition n → Printed (place_piece n) (decimal n)
in_place n small = record {
  spelled = spells-one exact (figure MOST_POSITION n) (decimal n) (number_spelled n (omega (arith, small)));
  fit = (omega (arith, small), tt);
}

pub in_byte : (n : ℕ) → n < 256 → Printed (small_piece n) (decimal n)
in_byte n small = record {
  spelled = spells-one exact (figure MOST_BYTE n) (decimal n) (number_spelled n (omega (arith, small)));
  fit = (omega (arith, small), tt);
}

pub in_position : (n : ℕ) → IsPosition n → Printed (position n ∷ []) (decimal n)
in_position n small = record {
  spelled = spells-one exact (position n) (decimal n) (number_spelled n (omega (arith, small)));
  fit = (omega (arith, small), tt);
}

pub in_count : (n : ℕ) → IsNumber n → Printed (count n ∷ []) (decimal n)
in_count n small = record { spelled = spells-one exact (count n) (decimal n) (number_spelled n small); fit = (omega (arith, small), tt) }

pub in_name : (bytes : List ℕ) → AreBytes bytes → Printed (name_piece bytes) (quoted bytes)
in_name bytes small = record { spelled = spells-one exact (name bytes) (quoted bytes) (name_spelled bytes small); fit = (tt, tt) }

pub in_digits : (bytes : List ℕ) → AreBytes bytes → Printed (digits bytes ∷ []) (hex_bytes bytes)
in_digits bytes small = record { spelled = spells-one exact (digits bytes) (hex_bytes bytes) (digits_spelled bytes small); fit = (tt, tt) }

pub in_spaced : (ns : List ℕ) → All IsNumber ns → Printed (spaced_pieces ns) (spaced_numbers ns)
in_spaced [] small = none
in_spaced (n ∷ ns) small = (in_words (codes " ") ▸ in_number n (All-head IsNumber n ns small)) ▸ in_spaced ns (All-tail IsNumber n ns small)

-- ---- expressions

ranges-split : (xs ys : List Token) → AllByRecursion IsInRange (xs ++ ys) → AllByRecursion IsInRange xs × AllByRecursion IsInRange ys
ranges-split [] ys all = (tt, all)
ranges-split (x ∷ xs) ys (first, all) = let parts = ranges-split xs ys all in ((first, parts.0), parts.1)

in_infix : (t : Tree) → AllByRecursion IsInRange (tokens_of t) → Printed (infix_pieces t) (infix_text t)
in_infix (number n) (small, _) = in_number n small
in_infix (variable letter place) (small, _) = in_words (letter_text letter) ▸ in_place place small
in_infix (one f a) all =
    let parts = ranges-split (tokens_of a) (Fun (function_of_one f) ∷ []) all in
    in_words (opening_text (function_of_one f)) ▸ in_infix a parts.0 ▸ in_words (codes ")")
in_infix (two f a b) all =
    let operands = (ranges-split (tokens_of a ++ tokens_of b) (Fun (function_of_two f) ∷ []) all).0 in
    let parts = ranges-split (tokens_of a) (tokens_of b) operands in
    in_words (opening_text (function_of_two f)) ▸ in_infix a parts.0 ▸ in_words (middle_text (function_of_two f))
    ▸ in_infix b parts.1 ▸ in_words (codes ")")

pub in_value : (t : Tree) → IsMadeTree t → Printed (value_pieces t) (infix_text t)
in_value t made = record { spelled = ([], infix_text t, refl, refl, (in_infix t made.1).spelled); fit = (made.0, (in_infix t made.1).fit) }

pub in_block : (opened : ℕ) → opened ≤ 32 → Printed (block opened ∷ []) []
in_block opened few = record { spelled = ([], [], refl, refl, refl); fit = (few, tt) }

-- ---- lines

-- the text is these lines, each ended by a byte 0A, with spaces before them
pub Prints : List Line → Text → Type 0
Prints [] text = text ≡ []
Prints (pieces ∷ lines) text = (before : Text) × (body : Text) × (rest : Text) × (text ≡ before ++ (body ++ 10 ∷ rest))
    × AreSpaces before × Spells exact pieces body × Prints lines rest

-- the text is that which a listing prints of the lines, and none of them states too much
pub record PrintedLines (lines : List Line) (text : Text) : Type 0 where
  pub prints : Prints lines text
  pub fit : AllFit lines

prints-append : (xs ys : List Line) (s t : Text) → Prints xs s → Prints ys t → Prints (xs ++ ys) (s ++ t)
unfolding Prints
prints-append [] ys s t none others = subst (λ (l : Text). Prints ys (l ++ t)) (sym none) others
prints-append (x ∷ xs) ys s t (before, body, rest, e, spaces, spelled, more) others = (
  before,
  body,
  rest ++ t,
  ap (λ l. l ++ t) e ∙ append_assoc before (body ++ 10 ∷ rest) t ∙ ap (λ l. before ++ l) (append_assoc body (10 ∷ rest) t),
  spaces,
  spelled,
  prints-append xs ys rest t more others,
)

pub all : {xs ys : List Line} {s t : Text} → PrintedLines xs s → PrintedLines ys t → PrintedLines (xs ++ ys) (s ++ t)
all {xs} {ys} {s} {t} p q = record {
  prints = prints-append xs ys s t p.prints q.prints;
  fit = all_fit (λ pieces. AllByRecursion Fits pieces) xs ys p.fit q.fit;
}

pub no_lines : PrintedLines [] []
unfolding Prints
no_lines = record { prints = refl; fit = tt }

indent-spaces : (depth : ℕ) → AreSpaces (indent depth)
indent-spaces zero = tt
indent-spaces (suc depth) = spaces-append (indent depth) (32 ∷ 32 ∷ []) (indent-spaces depth) (refl, (refl, tt)) where
  spaces-append : (xs ys : Text) → AreSpaces xs → AreSpaces ys → AreSpaces (xs ++ ys)
  spaces-append [] ys p q = q
  spaces-append (x ∷ xs) ys (e, p) q = (e, spaces-append xs ys p q)

-- two spaces for each open block, and then text that spells the pieces
pub record Indented (depth : ℕ) (pieces : List Piece) (text : Text) : Type 0 where
  pub body : Text
  pub after : text ≡ indent depth ++ body
  pub printed : Printed pieces body

pub indented : (depth : ℕ) {pieces : List Piece} {text : Text} → Printed pieces text → Indented depth pieces (indent depth ++ text)
indented depth {pieces} {text} p = record { body = text; after = refl; printed = p }

-- the same, after spaces
infixl 10 ◌▹◌
pub ◌▹◌ : {depth : ℕ} {xs ys : List Piece} {s t : Text} → Indented depth xs s → Printed ys t → Indented depth (xs ++ ys) (s ++ t)
◌▹◌ {depth} {xs} {ys} {s} {t} p q = record {
  body = p.body ++ t;
  after = ap (λ l. l ++ t) p.after ∙ append_assoc (indent depth) p.body t;
  printed = p.printed ▸ q;
}

pub on_indented_line : {depth : ℕ} {pieces : Line} {text : Text} → Indented depth pieces text → PrintedLines (pieces ∷ []) (line text)
unfolding Prints
on_indented_line {depth} {pieces} {text} p = record {
  prints = (
    indent depth,
    p.body,
    [],
    ap (λ l. l ++ 10 ∷ []) p.after ∙ append_assoc (indent depth) p.body (10 ∷ []),
    indent-spaces depth,
    p.printed.spelled,
    refl,
  );
  fit = (p.printed.fit, tt);
}

pub on_line : {pieces : Line} {text : Text} → Printed pieces text → PrintedLines (pieces ∷ []) (line text)
unfolding Prints
on_line {pieces} {text} p = record { prints = ([], text, [], refl, tt, p.spelled, refl); fit = (p.fit, tt) }

-- ---- the lines of a text

spaces-blank : (text : Text) → AreSpaces text → AreBlank text
spaces-blank [] spaces = tt
spaces-blank (b ∷ text) (e, spaces) = (inl e, spaces-blank text spaces)

spells_lines : (lines : List Line) (text : Text) → Prints lines text → SpellsLines exact lines text
unfolding Prints
spells_lines [] text empty = subst (λ (l : Text). AreBlank l) (sym empty) tt
spells_lines (pieces ∷ lines) text (before, body, rest, e, spaces, spelled, more) =
    (before, body, [], 10 ∷ rest, e, spaces-blank before spaces, spelled, tt, inr (rest, refl, spells_lines lines rest more))

pub lines_spelled : {lines : List Line} {text : Text} → PrintedLines lines text → SpellsLines exact lines text
lines_spelled {lines} {text} p = spells_lines lines text p.prints
