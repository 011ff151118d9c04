-- The lines of a text by what they state: no two lists of lines that state something else have the same bytes.
use Rattle.std.proofs.Common.{◌≡◌, ℕ, ◌<◌, ◌==◌, ◌&&◌, not, Bool, true, false, List, [], ◌∷◌, ◌++◌, codes, Option, Some, None}
use Rattle.std.proofs.Common.{refl, sym, ap, subst, ◌∙◌, inl, inr, ◌⊎◌, append_assoc, append-nil, arith}
use Rattle.std.specs.List.{AllByRecursion}
use Rattle.std.specs.Char.{digit_value}
use Rattle.hex.specs.Hex.{hex_digit_value}
use Rattle.mufom_expr.specs.declared.token.FieldKind.TheVariants as kinds
use Rattle.mufom_expr.specs.Tree.{Tree, number, variable, one, two, function_of_one, function_of_two}
use Rattle.mufom_expr.specs.InfixText.{letter_text, opening_text, middle_text}
use Rattle.mufom_sections.specs.declared.section.Purpose.{Purpose}
use Rattle.mufom_sections.specs.declared.section.Purpose.TheVariants as purposes
use Rattle.mufom_debug.specs.declared.item.BlockHead.{BlockHead}
use Rattle.mufom_debug.specs.declared.item.BlockHead.TheVariants as blocks
use Rattle.mufom_module.specs.declared.module.Order.TheVariants as orders
use Rattle.mufom_text.specs.Words.{Text, stands_for_itself}
use Rattle.mufom_text.specs.Show.{type_letters, purpose_letter}
use Rattle.mufom_build_text.specs.Pieces.{Piece, byte, gap, figure, position, count, name, digits, expression, block, loose, Spells, words}
use Rattle.mufom_build_text.specs.Pieces.{AreSpaces, SpellsDigits, SpellsNameByte, SpellsNameBytes, infix_pieces}
use Rattle.mufom_build_text.specs.Places.{AreBlank}
use Rattle.mufom_build_text.proofs.Spelling.{spells-append}
use Rattle.mufom_build.specs.Lines.{base_pieces, spaced_pieces, head_pieces}
use Rattle.mufom_build_text.specs.Loosely.{Avoids, IsFigure}
use Rattle.mufom_build_text.proofs.FirstBytes.{no, both_true, one_run, all_figures}
use Rattle.mufom_build.proofs.OnePiece.{Both}
use Rattle.mufom_build.proofs.OneWord.{word_first, words_both}
use Rattle.mufom_build.proofs.OneTree.{changed, Head, of_letter, of_one, of_two, text_of, middle_of, each_head}
use Rattle.mufom_build.proofs.OneRow.{word_tight}
use Rattle.mufom_build.proofs.OneRow.{each_keyword, one_keyword, IsTail}
use Rattle.mufom_build.proofs.OneLine.{one_row}
use Rattle.mufom_build.specs.Rows.{Keyword, on_module, on_extension, on_environment, on_section, on_public, on_note, on_reference}
use Rattle.mufom_build.specs.Rows.{on_block, on_end, on_name, on_value, on_select, on_counter, on_bytes, on_field, on_repeat}
use Rattle.mufom_build.specs.Rows.{on_start, word_of, Payload, rest_pieces, Row, line_of}

-- ---- no line has an end of a line within

abbrev pub NotFeed : ℕ → Type 0
NotFeed b = b ≡ 10 → ⊥

abbrev pub feedless : List Piece → Bool
feedless [] = true
feedless (byte v ∷ more) = not (v == 10) && feedless more
feedless (piece ∷ more) = feedless more

all_append : (P : ℕ → Type 0) (s t : Text) → AllByRecursion P s → AllByRecursion P t → AllByRecursion P (s ++ t)
all_append P [] t a b = b
all_append P (x ∷ s) t (here, a) b = (here, all_append P s t a b)

all_weaker : (P Q : ℕ → Type 0) → ((b : ℕ) → P b → Q b) → (s : Text) → AllByRecursion P s → AllByRecursion Q s
all_weaker P Q f [] a = tt
all_weaker P Q f (x ∷ s) (here, a) = (f x here, all_weaker P Q f s a)

space_no_feed : (b : ℕ) → b ≡ 32 → NotFeed b
space_no_feed b e f = omega (arith, e, f)

figure_no_feed : (b : ℕ) → IsFigure b → NotFeed b
figure_no_feed b small f = let h : digit_value 10 < 10 = subst IsFigure f small in omega (arith, h)

hex_no_feed : (b n : ℕ) → hex_digit_value b ≡ Some n → NotFeed b
hex_no_feed b n is f = let h : hex_digit_value 10 ≡ Some n = ap hex_digit_value (sym f) ∙ is in cc

digits_no_feed : (bytes : List ℕ) (s : Text) → SpellsDigits bytes s → AllByRecursion NotFeed s
digits_no_feed [] s e = subst (λ (l : Text). AllByRecursion NotFeed l) (sym e) tt
digits_no_feed (b ∷ bytes) s (h, l, rest, e, are, more) = subst (λ (t : Text). AllByRecursion NotFeed t) (sym e)
    (hex_no_feed h _ are.0, (hex_no_feed l _ are.1, digits_no_feed bytes rest more))

itself_no_feed : (b : ℕ) → stands_for_itself b ≡ true → NotFeed b
itself_no_feed b h e = no (ap stands_for_itself (sym e) ∙ h)

constant_no_feed : (b : ℕ) → (b == 10) ≡ false → NotFeed b
constant_no_feed b h e = let k : (10 == 10) ≡ false = subst (λ (x : ℕ). (x == 10) ≡ false) e h in no (sym k)

name_byte_no_feed : (b : ℕ) (s : Text) → SpellsNameByte b s → AllByRecursion NotFeed s
name_byte_no_feed b s (inl (itself, e)) = subst (λ (t : Text). AllByRecursion NotFeed t) (sym e) (itself_no_feed b itself, tt)
name_byte_no_feed b s (inr (h, l, e, are)) = subst (λ (t : Text). AllByRecursion NotFeed t) (sym e)
    (constant_no_feed 0x5C refl, (constant_no_feed 0x78 refl, (hex_no_feed h _ are.0, (hex_no_feed l _ are.1, tt))))

name_no_feed : (bytes : List ℕ) (s : Text) → SpellsNameBytes bytes s → AllByRecursion NotFeed s
name_no_feed [] s e = subst (λ (l : Text). AllByRecursion NotFeed l) (sym e) tt
name_no_feed (b ∷ bytes) s (first, rest, e, here, more) = subst (λ (t : Text). AllByRecursion NotFeed t) (sym e)
    (all_append NotFeed first rest (name_byte_no_feed b first here) (name_no_feed bytes rest more))

-- the bytes of a piece and of what follows
piece_more : (s first rest : Text) → s ≡ first ++ rest → AllByRecursion NotFeed first → AllByRecursion NotFeed rest → AllByRecursion NotFeed s
piece_more s first rest e a b = subst (λ (t : Text). AllByRecursion NotFeed t) (sym e) (all_append NotFeed first rest a b)

nothing_no_feed : (s : Text) → s ≡ [] → AllByRecursion NotFeed s
nothing_no_feed s e = subst (λ (t : Text). AllByRecursion NotFeed t) (sym e) tt

not_ten : (v : ℕ) → not (v == 10) ≡ true → NotFeed v
not_ten v h e = no (ap (λ n. not (n == 10)) (sym e) ∙ h)

pub spelled_no_feed : (pieces : List Piece) → feedless pieces ≡ true → (s : Text) → Spells loose pieces s → AllByRecursion NotFeed s
spelled_no_feed [] h s e = nothing_no_feed s e
spelled_no_feed (byte v ∷ ps) h s (first, rest, e, f, more) =
    let (here, others) = both_true (not (v == 10)) (feedless ps) h in
    piece_more s first rest e (subst (λ (t : Text). AllByRecursion NotFeed t) (sym f) (not_ten v here, tt)) (spelled_no_feed ps others rest more)
spelled_no_feed (gap ∷ ps) h s (first, rest, e, (some, spaces), more) =
    piece_more s first rest e (all_weaker (λ b. b ≡ 32) NotFeed space_no_feed first spaces) (spelled_no_feed ps h rest more)
spelled_no_feed (figure most n ∷ ps) h s (first, rest, e, ((some, all), value), more) =
    piece_more s first rest e (all_weaker IsFigure NotFeed figure_no_feed first (all_figures first all)) (spelled_no_feed ps h rest more)
spelled_no_feed (position n ∷ ps) h s (first, rest, e, (some, all), more) =
    piece_more s first rest e (all_weaker IsFigure NotFeed figure_no_feed first (all_figures first all)) (spelled_no_feed ps h rest more)
spelled_no_feed (count n ∷ ps) h s (first, rest, e, (some, all), more) =
    piece_more s first rest e (all_weaker IsFigure NotFeed figure_no_feed first (all_figures first all)) (spelled_no_feed ps h rest more)
spelled_no_feed (name bytes ∷ ps) h s (first, rest, e, (inside, f, spelled), more) =
    piece_more s first rest e (subst (λ (t : Text). AllByRecursion NotFeed t) (sym f) (
      constant_no_feed 0x22 refl,
      all_append NotFeed inside (0x22 ∷ []) (name_no_feed bytes inside spelled) (constant_no_feed 0x22 refl, tt),
    )) (spelled_no_feed ps h rest more)
spelled_no_feed (digits bytes ∷ ps) h s (first, rest, e, f, more) =
    piece_more s first rest e (digits_no_feed bytes first f) (spelled_no_feed ps h rest more)
spelled_no_feed (expression n ∷ ps) h s (first, rest, e, f, more) = piece_more s first rest e (nothing_no_feed first f)
    (spelled_no_feed ps h rest more)
spelled_no_feed (block n ∷ ps) h s (first, rest, e, f, more) = piece_more s first rest e (nothing_no_feed first f) (spelled_no_feed ps h rest more)

-- ---- the pieces of lines

feedless-append : (xs ys : List Piece) → feedless xs ≡ true → feedless ys ≡ true → feedless (xs ++ ys) ≡ true
feedless-append [] ys g h = h
feedless-append (byte v ∷ xs) ys g h =
    let (here, more) = both_true (not (v == 10)) (feedless xs) g in
    ap (λ b. b && feedless (xs ++ ys)) here ∙ feedless-append xs ys more h
feedless-append (gap ∷ xs) ys g h = feedless-append xs ys g h
feedless-append (figure most n ∷ xs) ys g h = feedless-append xs ys g h
feedless-append (position n ∷ xs) ys g h = feedless-append xs ys g h
feedless-append (count n ∷ xs) ys g h = feedless-append xs ys g h
feedless-append (name bytes ∷ xs) ys g h = feedless-append xs ys g h
feedless-append (digits bytes ∷ xs) ys g h = feedless-append xs ys g h
feedless-append (expression n ∷ xs) ys g h = feedless-append xs ys g h
feedless-append (block n ∷ xs) ys g h = feedless-append xs ys g h

text_feedless : (h : Head) → feedless (words (text_of h)) ≡ true
text_feedless = each_head (λ h. feedless (words (text_of h))) refl

middle_feedless : (h : Head) → feedless (words (middle_of h)) ≡ true
middle_feedless = each_head (λ h. feedless (words (middle_of h))) refl

infix_feedless : (t : Tree) → feedless (infix_pieces t) ≡ true
infix_feedless (number n) = refl
infix_feedless (variable letter place) = feedless-append (words (letter_text letter)) _ (text_feedless (of_letter letter)) refl
infix_feedless (one f a) = feedless-append (words (opening_text (function_of_one f)) ++ infix_pieces a) (words (codes ")"))
    (feedless-append (words (opening_text (function_of_one f))) (infix_pieces a) (text_feedless (of_one f)) (infix_feedless a)) refl
infix_feedless (two f a b) =
    let o = words (opening_text (function_of_two f)) in
    let m = words (middle_text (function_of_two f)) in
    feedless-append (((o ++ infix_pieces a) ++ m) ++ infix_pieces b) (words (codes ")"))
    (feedless-append ((o ++ infix_pieces a) ++ m) (infix_pieces b) (feedless-append (o ++ infix_pieces a) m
    (feedless-append o (infix_pieces a) (text_feedless (of_two f)) (infix_feedless a)) (middle_feedless (of_two f))) (infix_feedless b)) refl

spaced_feedless : (ns : List ℕ) → feedless (spaced_pieces ns) ≡ true
spaced_feedless [] = refl
spaced_feedless (n ∷ ns) = spaced_feedless ns

head_feedless : (h : BlockHead) → feedless (head_pieces h) ≡ true
head_feedless blocks.Module = refl
head_feedless (blocks.Global s a v) = infix_feedless v
head_feedless (blocks.Local s a v) = infix_feedless v
head_feedless (blocks.Source ns) = spaced_feedless ns.items
head_feedless (blocks.Section s a v) = infix_feedless v

rest_feedless : (n : ℕ) (k : Keyword) (p : Payload k) → feedless (rest_pieces n k p) ≡ true
rest_feedless n on_module (a, b, c, orders.Least) = refl
rest_feedless n on_module (a, b, c, orders.Most) = refl
rest_feedless n on_extension (b, bytes) = refl
rest_feedless n on_environment (b, bytes) = refl
rest_feedless n on_section s = feedless-append (words (type_letters s.absolute)) _ (types s.absolute)
    (feedless-append (words (purpose_letter s.purpose)) _ (uses s.purpose) (bases s.base))
  where
    types : (a : Bool) → feedless (words (type_letters a)) ≡ true
    types true = refl
    types false = refl

    uses : (a : Option Purpose) → feedless (words (purpose_letter a)) ≡ true
    uses None = refl
    uses (Some purposes.Code) = refl
    uses (Some purposes.Data) = refl
    uses (Some purposes.Rom) = refl

    bases : (a : Option ℕ) → feedless (base_pieces a) ≡ true
    bases None = refl
    bases (Some b) = refl
rest_feedless n on_public (a, v) = infix_feedless v
rest_feedless n on_note (None, note) = spaced_feedless note.numbers.items
rest_feedless n on_note (Some m, note) = spaced_feedless note.numbers.items
rest_feedless n on_reference (a, None) = refl
rest_feedless n on_reference (a, Some w) = refl
rest_feedless n on_block (h, a) = head_feedless h
rest_feedless n on_end None = refl
rest_feedless n on_end (Some v) = infix_feedless v
rest_feedless n on_name a = refl
rest_feedless n on_value (m, v) = infix_feedless v
rest_feedless n on_select m = refl
rest_feedless n on_counter (m, v) = infix_feedless v
rest_feedless n on_bytes [] = refl
rest_feedless n on_bytes (b ∷ bytes) = refl
rest_feedless n on_field (kinds.Signed, size, v) = infix_feedless v
rest_feedless n on_field (kinds.Unsigned, size, v) = infix_feedless v
rest_feedless n on_field (kinds.Either, size, v) = infix_feedless v
rest_feedless n on_repeat m = refl
rest_feedless n on_start v = infix_feedless v

word_feedless : (k : Keyword) → feedless (words (word_of k)) ≡ true
word_feedless = each_keyword (λ k. feedless (words (word_of k))) refl

pub line_feedless : (n : ℕ) (r : Row) → feedless (line_of n r) ≡ true
line_feedless n (k, p) = feedless-append (words (word_of k)) (rest_pieces n k p) (word_feedless k) (rest_feedless n k p)

-- ---- the first byte of a line

abbrev pub IsBlank : ℕ → Type 0
IsBlank b = (b ≡ 32) ⊎ (b ≡ 10)

abbrev pub begins_dark : Text → Bool
begins_dark [] = false
begins_dark (c ∷ w) = not (c == 32) && not (c == 10)

pub word_dark : (k : Keyword) → begins_dark (word_of k) ≡ true
word_dark = each_keyword (λ k. begins_dark (word_of k)) refl

pub dark_is_not_blank : (c : ℕ) → (not (c == 32) && not (c == 10)) ≡ true → IsBlank c → ⊥
dark_is_not_blank c h (inl e) = no (ap (λ n. not (n == 32) && not (n == 10)) (sym e) ∙ h)
dark_is_not_blank c h (inr e) = no (ap (λ n. not (n == 32) && not (n == 10)) (sym e) ∙ h)

-- words at the front of a text keep it from beginning with a blank
word_avoids_blank : (w : Text) (xs : List Piece) → begins_dark w ≡ true → (s more : Text) → Spells loose (words w ++ xs) s
    → Avoids IsBlank (s ++ more)
word_avoids_blank [] xs h s more spelled b others is blank = no h
word_avoids_blank (c ∷ w) xs h s more spelled b others is blank =
    let (tail, e) = word_first c (words w ++ xs) s spelled in
    let first : c ∷ (tail ++ more) ≡ b ∷ others = ap (λ l. l ++ more) (sym e) ∙ is in
    let same : c ≡ b = cc in
    dark_is_not_blank c h (subst IsBlank (sym same) blank)

-- a line is no blank text
not_all_blank : (s : Text) → AllByRecursion IsBlank s → Avoids IsBlank s → s ≡ []
not_all_blank [] all avoids = refl
not_all_blank (b ∷ s) (here, all) avoids = absurd (avoids b s refl here)

-- ---- lines

-- the bytes are those of what the line states
abbrev pub SpellsRow : Row → Text → Type 0
SpellsRow r text = (n : ℕ) × Spells loose (line_of n r) text

abbrev pub SpellsRows : List Row → Text → Type 0
SpellsRows [] text = AreBlank text
SpellsRows (r ∷ rs) text = (before : Text) × (body : Text) × (after : Text) × (rest : Text) × (text ≡ before ++ (body ++ (after ++ rest)))
    × AreBlank before × SpellsRow r body × AreSpaces after × (((rest ≡ []) × (rs ≡ [])) ⊎ ((more : Text) × (rest ≡ 10 ∷ more) × SpellsRows rs more))

-- what the spaces after a line are spelled by
abbrev tail_of : Text → List Piece
tail_of [] = []
tail_of (b ∷ after) = gap ∷ []

tail_spelled : (after : Text) → AreSpaces after → Spells loose (tail_of after) after
tail_spelled [] spaces = refl
tail_spelled (b ∷ after) spaces = (b ∷ after, [], sym (append-nil (b ∷ after)), (omega arith, spaces), refl)

is_tail : (after : Text) → IsTail (tail_of after)
is_tail [] = inl refl
is_tail (b ∷ after) = inr refl

-- two lines of the same bytes
pub one_spelled : (r q : Row) (body inner after trailing : Text) → SpellsRow r body → SpellsRow q inner → AreSpaces after → AreSpaces trailing
    → body ++ after ≡ inner ++ trailing → r ≡ q
one_spelled (k, p) (j, q) body inner after trailing (m, spelled) (n, too) spaces others same =
    let xs = tail_of after in
    let ys = tail_of trailing in
    let left = spells-append loose (line_of m (k, p)) xs body after spelled (tail_spelled after spaces) in
    let right = spells-append loose (line_of n (j, q)) ys inner trailing too (tail_spelled trailing others) in
    let both : Both (line_of m (k, p) ++ xs) (line_of n (j, q) ++ ys) =
    record { text = body ++ after; left = left; right = subst (λ (l : Text). Spells loose (line_of n (j, q) ++ ys) l) (sym same) right } in
    at_keyword k j p q m n xs ys (is_tail after) (is_tail trailing)
    (changed (append_assoc (words (word_of k)) (rest_pieces m k p) xs) (append_assoc (words (word_of j)) (rest_pieces n j q) ys) both)
  where
    same_word : (k : Keyword) (p q : Payload k) (m n : ℕ) (xs ys : List Piece) → IsTail xs → IsTail ys
        → Both (words (word_of k) ++ (rest_pieces m k p ++ xs)) (words (word_of k) ++ (rest_pieces n k q ++ ys)) → ◌≡◌ {A = Row} (k, p) (k, q)
    same_word k p q m n xs ys t u both =
        let e = one_row k p q m n xs ys t u (words_both (word_of k) _ _ (word_tight k) both) in λ i. (k, e i)

    at_keyword : (k j : Keyword) (p : Payload k) (q : Payload j) (m n : ℕ) (xs ys : List Piece) → IsTail xs → IsTail ys
        → Both (words (word_of k) ++ (rest_pieces m k p ++ xs)) (words (word_of j) ++ (rest_pieces n j q ++ ys)) → ◌≡◌ {A = Row} (k, p) (j, q)
    at_keyword k j p q m n xs ys t u both =
        subst (λ (i : Keyword). (q : Payload i) → Both (words (word_of k) ++ (rest_pieces m k p ++ xs))
        (words (word_of i) ++ (rest_pieces n i q ++ ys))
        → ◌≡◌ {A = Row} (k, p) (i, q)) (one_keyword k j _ _ both) (λ q. same_word k p q m n xs ys t u) q both

-- an end of a line, or of the text, ends what has no feed
end_avoids : (rest : Text) → (rest ≡ []) ⊎ ((more : Text) × (rest ≡ 10 ∷ more)) → Avoids NotFeed rest
end_avoids rest (inl e) b more is no_feed = let h : [] ≡ b ∷ more = sym e ∙ is in cc
end_avoids rest (inr (others, e)) b more is no_feed = let h : 10 ∷ others ≡ b ∷ more = sym e ∙ is in let same : 10 ≡ b = cc in no_feed (sym same)

-- the line of a row at the front of a text
record FirstLine (r : Row) (text : Text) : Type 0 where
  before : Text
  body : Text
  after : Text
  rest : Text
  is : text ≡ before ++ (body ++ (after ++ rest))
  blank : AreBlank before
  spelled : SpellsRow r body
  spaces : AreSpaces after
  end : (rest ≡ []) ⊎ ((more : Text) × (rest ≡ 10 ∷ more))

dark_front : (r : Row) (body more : Text) → SpellsRow r body → Avoids IsBlank (body ++ more)
dark_front (k, p) body more (n, spelled) = word_avoids_blank (word_of k) (rest_pieces n k p) (word_dark k) body more spelled

no_feed_within : (r : Row) (body after : Text) → SpellsRow r body → AreSpaces after → AllByRecursion NotFeed (body ++ after)
no_feed_within r body after (n, spelled) spaces = all_append NotFeed body after (spelled_no_feed (line_of n r) (line_feedless n r) body spelled)
    (all_weaker (λ b. b ≡ 32) NotFeed space_no_feed after spaces)

-- the first line of a text states one thing, and one text follows it
one_first : (r q : Row) (text : Text) (x : FirstLine r text) (y : FirstLine q text) → (r ≡ q) × (x.rest ≡ y.rest)
one_first r q text x y =
    let (fronts, lines) = one_run IsBlank x.before y.before (x.body ++ (x.after ++ x.rest)) (y.body ++ (y.after ++ y.rest)) x.blank y.blank
    (sym x.is ∙ y.is) (dark_front r x.body _ x.spelled) (dark_front q y.body _ y.spelled) in
    let all : (x.body ++ x.after) ++ x.rest ≡ (y.body ++ y.after) ++ y.rest =
    append_assoc x.body x.after x.rest ∙ lines ∙ sym (append_assoc y.body y.after y.rest) in
    let (same, rests) = one_run NotFeed (x.body ++ x.after) (y.body ++ y.after) x.rest y.rest (no_feed_within r x.body x.after x.spelled x.spaces)
    (no_feed_within q y.body y.after y.spelled y.spaces) all (end_avoids x.rest x.end) (end_avoids y.rest y.end) in
    (one_spelled r q x.body y.body x.after y.after x.spelled y.spelled x.spaces y.spaces same, rests)

all_after : (P : ℕ → Type 0) (s t : Text) → AllByRecursion P (s ++ t) → AllByRecursion P t
all_after P [] t all = all
all_after P (b ∷ s) t (here, all) = all_after P s t all

-- a blank text has no line
no_line : (r : Row) (text : Text) → AreBlank text → FirstLine r text → ⊥
no_line (k, p) text blank x =
    let (n, spelled) = x.spelled in
    let within = all_after IsBlank x.before (x.body ++ (x.after ++ x.rest)) (subst (λ (t : Text). AllByRecursion IsBlank t) x.is blank) in
    let empty = not_all_blank (x.body ++ (x.after ++ x.rest)) within (dark_front (k, p) x.body (x.after ++ x.rest) x.spelled) in
    no_word (word_of k) (word_dark k) n spelled empty
  where
    no_word : (w : Text) → begins_dark w ≡ true → (n : ℕ) → Spells loose (words w ++ rest_pieces n k p) x.body → x.body ++ (x.after ++ x.rest) ≡ []
        → ⊥
    no_word [] h n spelled empty = no h
    no_word (c ∷ w) h n spelled empty =
        let (tail, e) = word_first c (words w ++ rest_pieces n k p) x.body spelled in
        let f : c ∷ (tail ++ (x.after ++ x.rest)) ≡ [] = ap (λ l. l ++ (x.after ++ x.rest)) (sym e) ∙ empty in cc

abbrev Ending : List Row → Text → Type 0
Ending rs rest = ((rest ≡ []) × (rs ≡ [])) ⊎ ((more : Text) × (rest ≡ 10 ∷ more) × SpellsRows rs more)

ending_end : (rs : List Row) (rest : Text) → Ending rs rest → (rest ≡ []) ⊎ ((more : Text) × (rest ≡ 10 ∷ more))
ending_end rs rest (inl (e, none)) = inl e
ending_end rs rest (inr (more, e, spelled)) = inr (more, e)

one_ending : (rs qs : List Row) (rest other : Text) → rest ≡ other → ((text : Text) → SpellsRows rs text → SpellsRows qs text → rs ≡ qs)
    → Ending rs rest → Ending qs other → rs ≡ qs
one_ending rs qs rest other same more (inl (e, none)) (inl (f, nought)) = none ∙ sym nought
one_ending rs qs rest other same more (inl (e, none)) (inr (text, f, spelled)) = absurd (let h : [] ≡ 10 ∷ text = sym e ∙ same ∙ f in cc)
one_ending rs qs rest other same more (inr (text, e, spelled)) (inl (f, nought)) = absurd (let h : [] ≡ 10 ∷ text = sym f ∙ sym same ∙ e in cc)
one_ending rs qs rest other same more (inr (text, e, spelled)) (inr (second, f, too)) =
    let h : 10 ∷ text ≡ 10 ∷ second = sym e ∙ same ∙ f in
    let g : text ≡ second = cc in
    more text spelled (subst (λ (t : Text). SpellsRows qs t) (sym g) too)

-- Lines of the same bytes state the same.
pub one_rows : (rs qs : List Row) (text : Text) → SpellsRows rs text → SpellsRows qs text → rs ≡ qs
one_rows [] [] text p q = refl
one_rows [] (q ∷ qs) text blank (before, body, after, rest, is, front, spelled, spaces, end) = absurd (no_line q text blank (record {
  before = before;
  body = body;
  after = after;
  rest = rest;
  is = is;
  blank = front;
  spelled = spelled;
  spaces = spaces;
  end = ending_end qs rest end;
}))
one_rows (r ∷ rs) [] text (before, body, after, rest, is, front, spelled, spaces, end) blank = absurd (no_line r text blank (record {
  before = before;
  body = body;
  after = after;
  rest = rest;
  is = is;
  blank = front;
  spelled = spelled;
  spaces = spaces;
  end = ending_end rs rest end;
}))
one_rows (r ∷ rs) (q ∷ qs) text (before, body, after, rest, is, front, spelled, spaces, end) (b, i, a, o, e, f, s, t, n) =
    let x : FirstLine r text = record {
      before = before;
      body = body;
      after = after;
      rest = rest;
      is = is;
      blank = front;
      spelled = spelled;
      spaces = spaces;
      end = ending_end rs rest end;
    } in
    let y : FirstLine q text = record {
      before = b;
      body = i;
      after = a;
      rest = o;
      is = e;
      blank = f;
      spelled = s;
      spaces = t;
      end = ending_end qs o n;
    } in
    let (same, rests) = one_first r q text x y in
    ap (λ z. z ∷ rs) same ∙ ap (λ l. q ∷ l) (one_ending rs qs rest o rests (one_rows rs qs) end n)
