-- The line of each row is spelled by its bytes in one way, and has one error at most at each of its columns.
use Rattle.std.proofs.Common.{◌≡◌, ℕ, ◌<◌, ◌≤◌, ◌==◌, ◌&&◌, not, nat_le, Bool, true, false, List, [], ◌∷◌, ◌++◌, length, Option, Some, None, codes}
use Rattle.std.proofs.Common.{refl, sym, ap, subst, ◌∙◌, inl, inr, ◌⊎◌, ◌+◌, arith, append_assoc, append-nil, if◌then◌else◌}
use Rattle.mufom_expr.specs.declared.token.FieldKind.TheVariants as kinds
use Rattle.mufom_expr.specs.Tree.{Tree, number, variable, one, two, function_of_one, function_of_two, tokens_of}
use Rattle.mufom_expr.specs.InfixText.{letter_text, opening_text, middle_text}
use Rattle.mufom_sections.specs.declared.section.Purpose.{Purpose}
use Rattle.mufom_sections.specs.declared.section.Purpose.TheVariants as purposes
use Rattle.mufom_debug.specs.declared.item.BlockHead.{BlockHead}
use Rattle.mufom_debug.specs.declared.item.BlockHead.TheVariants as blocks
use Rattle.mufom_module.specs.declared.module.Order.TheVariants as orders
use Rattle.mufom_text.specs.Words.{Text}
use Rattle.mufom_text.specs.Show.{type_letters, purpose_letter}
use Rattle.mufom_build_text.specs.Pieces.{Piece, byte, gap, figure, position, count, name, digits, expression, block, words, word_piece, infix_pieces}
use Rattle.mufom_build_text.specs.Pieces.{value_pieces, MOST_NUMBER, MOST_POSITION}
use Rattle.mufom_build_text.specs.Loosely.{no_figure}
use Rattle.mufom_build_text.proofs.FirstBytes.{no, both_true}
use Rattle.mufom_build.specs.Lines.{base_pieces, spaced_pieces, head_pieces}
use Rattle.mufom_build.specs.Order.{State, before_word, row_pieces, stated_by}
use Rattle.mufom_build.specs.Rows.{Keyword, on_module, on_extension, on_environment, on_section, on_public, on_note, on_reference}
use Rattle.mufom_build.specs.Rows.{on_block, on_end, on_name, on_value, on_select, on_counter, on_bytes, on_field, on_repeat}
use Rattle.mufom_build.specs.Rows.{on_start, word_of, Payload, rest_pieces, Row, line_of}
use Rattle.mufom_build.proofs.Certain.{begins_some, certain, begins_byte, apart}
use Rattle.mufom_build.proofs.OneWord.{tight, spaced, begins_solid, begins_free, under}
use Rattle.mufom_build.proofs.OneTree.{Head, of_letter, of_one, of_two, text_of, each_head, one_pieces, two_pieces, variable_pieces, head_tight}
use Rattle.mufom_build.proofs.OneTree.{head_solid, middle_spaced, middle_no_figure}
use Rattle.mufom_build.proofs.OneRow.{each_keyword, word_tight}

both : {a b : Bool} → a ≡ true → b ≡ true → (a && b) ≡ true
both {a} {b} e f = ap (λ c. c && b) e ∙ f

-- ---- words

some_piece : (b : Bool) (c : ℕ) (more : List Piece) → (c == 32) ≡ b → not b ≡ true → begins_some ((if b then gap else byte c) ∷ more) ≡ true
some_piece true c more e h = absurd (no h)
some_piece false c more e h = ap not e

solid_some : (w : Text) (more : List Piece) → begins_solid w ≡ true → begins_some (words w ++ more) ≡ true
solid_some [] more h = absurd (no h)
solid_some (c ∷ w) more h = some_piece (c == 32) c (words w ++ more) refl h

free_some : (w : Text) (more : List Piece) → begins_free w ≡ true → begins_some more ≡ true → begins_some (words w ++ more) ≡ true
free_some [] more h some = some
free_some (c ∷ w) more h some = some_piece (c == 32) c (words w ++ more) refl h

word_certain : (b : Bool) (c : ℕ) (more : List Piece) → (b ≡ true → begins_some more ≡ true) → certain more ≡ true
    → certain ((if b then gap else byte c) ∷ more) ≡ true
word_certain true c more some h = both (some refl) h
word_certain false c more some h = h

tight_certain : (w : Text) (more : List Piece) → tight w ≡ true → certain more ≡ true → certain (words w ++ more) ≡ true
tight_certain [] more h last = last
tight_certain (c ∷ w) more h last =
    let (here, others) = both_true (if c == 32 then begins_solid w else true) (tight w) h in
    word_certain (c == 32) c (words w ++ more) (λ e. solid_some w more (under (c == 32) (begins_solid w) here e)) (tight_certain w more others last)

spaced_certain : (w : Text) (more : List Piece) → spaced w ≡ true → begins_some more ≡ true → certain more ≡ true → certain (words w ++ more) ≡ true
spaced_certain [] more h some last = last
spaced_certain (c ∷ w) more h some last =
    let (here, others) = both_true (if c == 32 then begins_free w else true) (spaced w) h in
    word_certain (c == 32) c (words w ++ more) (λ e. free_some w more (under (c == 32) (begins_free w) here e) some)
    (spaced_certain w more others some last)

word_apart : (b : Bool) (c : ℕ) (more : List Piece) → apart ((if b then gap else byte c) ∷ more) ≡ apart more
word_apart true c more = refl
word_apart false c more = refl

words_apart : (w : Text) (more : List Piece) → apart (words w ++ more) ≡ apart more
words_apart [] more = refl
words_apart (c ∷ w) more = word_apart (c == 32) c (words w ++ more) ∙ words_apart w more

-- ---- expressions

infix_some : (t : Tree) (xs : List Piece) → begins_some (infix_pieces t ++ xs) ≡ true
infix_some (number n) xs = refl
infix_some (variable letter place) xs = ap begins_some (variable_pieces letter place xs)
    ∙ solid_some (letter_text letter) _ (head_solid (of_letter letter))
infix_some (one f a) xs = ap begins_some (one_pieces f a xs) ∙ solid_some (opening_text (function_of_one f)) _ (head_solid (of_one f))
infix_some (two f a b) xs = ap begins_some (two_pieces f a b xs) ∙ solid_some (opening_text (function_of_two f)) _ (head_solid (of_two f))

infix_certain : (t : Tree) (xs : List Piece) → no_figure xs ≡ true → certain xs ≡ true → certain (infix_pieces t ++ xs) ≡ true
infix_certain (number n) xs h last = both h last
infix_certain (variable letter place) xs h last = ap certain (variable_pieces letter place xs)
    ∙ tight_certain (letter_text letter) (figure MOST_POSITION place ∷ xs) (head_tight (of_letter letter)) (both h last)
infix_certain (one f a) xs h last = ap certain (one_pieces f a xs)
    ∙ tight_certain (opening_text (function_of_one f)) _ (head_tight (of_one f)) (infix_certain a (words (codes ")") ++ xs) refl last)
infix_certain (two f a b) xs h last =
    let back = words (codes ")") ++ xs in
    let middle = words (middle_text (function_of_two f)) ++ (infix_pieces b ++ back) in
    ap certain (two_pieces f a b xs) ∙ tight_certain (opening_text (function_of_two f)) (infix_pieces a ++ middle) (head_tight (of_two f))
    (infix_certain a middle (middle_no_figure f (infix_pieces b ++ back)) (spaced_certain (middle_text (function_of_two f)) (infix_pieces b ++ back)
    (middle_spaced (of_two f)) (infix_some b back) (infix_certain b back refl last)))

infix_apart : (t : Tree) (xs : List Piece) → apart (infix_pieces t ++ xs) ≡ apart xs
infix_apart (number n) xs = refl
infix_apart (variable letter place) xs = ap apart (variable_pieces letter place xs) ∙ words_apart (letter_text letter) (figure MOST_POSITION place ∷ xs)
infix_apart (one f a) xs = ap apart (one_pieces f a xs) ∙ words_apart (opening_text (function_of_one f)) _ ∙ infix_apart a (words (codes ")") ++ xs)
infix_apart (two f a b) xs =
    let back = words (codes ")") ++ xs in
    ap apart (two_pieces f a b xs) ∙ words_apart (opening_text (function_of_two f)) _
    ∙ infix_apart a (words (middle_text (function_of_two f)) ++ (infix_pieces b ++ back))
    ∙ words_apart (middle_text (function_of_two f)) (infix_pieces b ++ back) ∙ infix_apart b back

-- the words begin with a byte that is no space
text_begins : (w : Text) (more : List Piece) → begins_solid w ≡ true → begins_byte (words w ++ more) ≡ true
text_begins [] more h = absurd (no h)
text_begins (c ∷ w) more h = go (c == 32) h
  where
    go : (b : Bool) → not b ≡ true → begins_byte ((if b then gap else byte c) ∷ (words w ++ more)) ≡ true
    go true k = absurd (no k)
    go false k = refl

-- a long expression begins with a byte
long_begins : (t : Tree) → (if nat_le (length (tokens_of t)) 255 then true else begins_byte (infix_pieces t)) ≡ true
long_begins (number n) = refl
long_begins (variable letter place) = refl
long_begins (one f a) = either _ _ (ap begins_byte (sym (append-nil (infix_pieces (one f a))) ∙ one_pieces f a [])
    ∙ text_begins (opening_text (function_of_one f)) _ (head_solid (of_one f)))
  where
    either : (b c : Bool) → c ≡ true → (if b then true else c) ≡ true
    either true c h = refl
    either false c h = h
long_begins (two f a b) = either _ _ (ap begins_byte (sym (append-nil (infix_pieces (two f a b))) ∙ two_pieces f a b [])
    ∙ text_begins (opening_text (function_of_two f)) _ (head_solid (of_two f)))
  where
    either : (b c : Bool) → c ≡ true → (if b then true else c) ≡ true
    either true c h = refl
    either false c h = h

value_some : (t : Tree) → begins_some (value_pieces t) ≡ true
value_some t = ap begins_some (sym (append-nil (infix_pieces t))) ∙ infix_some t []

value_certain : (t : Tree) → certain (value_pieces t) ≡ true
value_certain t = ap certain (sym (append-nil (infix_pieces t))) ∙ infix_certain t [] refl refl

value_apart : (t : Tree) → apart (value_pieces t) ≡ true
value_apart t = both (long_begins t) (ap apart (sym (append-nil (infix_pieces t))) ∙ infix_apart t [])

-- an expression after a space
given_certain : (t : Tree) → certain (gap ∷ value_pieces t) ≡ true
given_certain t = both (value_some t) (value_certain t)

-- ---- numbers, sections and blocks

spaced_no_figure : (ns : List ℕ) → no_figure (spaced_pieces ns) ≡ true
spaced_no_figure [] = refl
spaced_no_figure (n ∷ ns) = refl

numbers_certain : (ns : List ℕ) → certain (spaced_pieces ns) ≡ true
numbers_certain [] = refl
numbers_certain (n ∷ ns) = both (spaced_no_figure ns) (numbers_certain ns)

numbers_apart : (ns : List ℕ) → apart (spaced_pieces ns) ≡ true
numbers_apart [] = refl
numbers_apart (n ∷ ns) = numbers_apart ns

after_figure : (ns : List ℕ) → (no_figure (spaced_pieces ns) && certain (spaced_pieces ns)) ≡ true
after_figure ns = both (spaced_no_figure ns) (numbers_certain ns)

abbrev section_end : Bool → Option Purpose → ℕ → ℕ → Option ℕ → List Piece
section_end a p size align b = words (type_letters a) ++ (words (purpose_letter p) ++ (words (codes " size ") ++ (figure MOST_NUMBER size
    ∷ (words (codes " align ") ++ (figure MOST_NUMBER align ∷ base_pieces b)))))

section_certain : (a : Bool) (p : Option Purpose) (size align : ℕ) (b : Option ℕ)
    → (begins_some (section_end a p size align b) && certain (section_end a p size align b)) ≡ true
section_certain true None size align None = refl
section_certain true None size align (Some b) = refl
section_certain true (Some purposes.Code) size align None = refl
section_certain true (Some purposes.Code) size align (Some b) = refl
section_certain true (Some purposes.Data) size align None = refl
section_certain true (Some purposes.Data) size align (Some b) = refl
section_certain true (Some purposes.Rom) size align None = refl
section_certain true (Some purposes.Rom) size align (Some b) = refl
section_certain false None size align None = refl
section_certain false None size align (Some b) = refl
section_certain false (Some purposes.Code) size align None = refl
section_certain false (Some purposes.Code) size align (Some b) = refl
section_certain false (Some purposes.Data) size align None = refl
section_certain false (Some purposes.Data) size align (Some b) = refl
section_certain false (Some purposes.Rom) size align None = refl
section_certain false (Some purposes.Rom) size align (Some b) = refl

section_apart : (a : Bool) (p : Option Purpose) (size align : ℕ) (b : Option ℕ) → apart (section_end a p size align b) ≡ true
section_apart a p size align b = words_apart (type_letters a) _ ∙ words_apart (purpose_letter p) _ ∙ based b
  where
    based : (b : Option ℕ) → apart (words (codes " size ") ++ (figure MOST_NUMBER size ∷ (words (codes " align ") ++ (figure MOST_NUMBER align
        ∷ base_pieces b)))) ≡ true
    based None = refl
    based (Some b) = refl

head_certain : (h : BlockHead) → certain (head_pieces h) ≡ true
head_certain blocks.Module = refl
head_certain (blocks.Global s a v) = given_certain v
head_certain (blocks.Local s a v) = given_certain v
head_certain (blocks.Source ns) = numbers_certain ns.items
head_certain (blocks.Section s a v) = given_certain v

head_apart : (h : BlockHead) → apart (head_pieces h) ≡ true
head_apart blocks.Module = refl
head_apart (blocks.Global s a v) = value_apart v
head_apart (blocks.Local s a v) = value_apart v
head_apart (blocks.Source ns) = numbers_apart ns.items
head_apart (blocks.Section s a v) = value_apart v

-- ---- lines

word_solid : (k : Keyword) → begins_solid (word_of k) ≡ true
word_solid = each_keyword (λ k. begins_solid (word_of k)) refl

rest_certain : (n : ℕ) (k : Keyword) (p : Payload k) → certain (rest_pieces n k p) ≡ true
rest_certain n on_module (a, b, c, orders.Least) = refl
rest_certain n on_module (a, b, c, orders.Most) = refl
rest_certain n on_extension (b, bytes) = refl
rest_certain n on_environment (b, bytes) = refl
rest_certain n on_section s = section_certain s.absolute s.purpose s.size s.align s.base
rest_certain n on_public (a, v) = given_certain v
rest_certain n on_note (None, note) = after_figure note.numbers.items
rest_certain n on_note (Some m, note) = after_figure note.numbers.items
rest_certain n on_reference (a, None) = refl
rest_certain n on_reference (a, Some w) = refl
rest_certain n on_block (h, a) = head_certain h
rest_certain n on_end None = refl
rest_certain n on_end (Some v) = given_certain v
rest_certain n on_name a = refl
rest_certain n on_value (m, v) = given_certain v
rest_certain n on_select m = refl
rest_certain n on_counter (m, v) = given_certain v
rest_certain n on_bytes [] = refl
rest_certain n on_bytes (b ∷ bytes) = refl
rest_certain n on_field (kinds.Signed, size, v) = given_certain v
rest_certain n on_field (kinds.Unsigned, size, v) = given_certain v
rest_certain n on_field (kinds.Either, size, v) = given_certain v
rest_certain n on_repeat m = refl
rest_certain n on_start v = given_certain v

rest_apart : (n : ℕ) (k : Keyword) (p : Payload k) → apart (rest_pieces n k p) ≡ true
rest_apart n on_module (a, b, c, orders.Least) = refl
rest_apart n on_module (a, b, c, orders.Most) = refl
rest_apart n on_extension (b, bytes) = refl
rest_apart n on_environment (b, bytes) = refl
rest_apart n on_section s = section_apart s.absolute s.purpose s.size s.align s.base
rest_apart n on_public (a, v) = value_apart v
rest_apart n on_note (None, note) = numbers_apart note.numbers.items
rest_apart n on_note (Some m, note) = numbers_apart note.numbers.items
rest_apart n on_reference (a, None) = refl
rest_apart n on_reference (a, Some w) = refl
rest_apart n on_block (h, a) = head_apart h
rest_apart n on_end None = refl
rest_apart n on_end (Some v) = value_apart v
rest_apart n on_name a = refl
rest_apart n on_value (m, v) = value_apart v
rest_apart n on_select m = refl
rest_apart n on_counter (m, v) = value_apart v
rest_apart n on_bytes [] = refl
rest_apart n on_bytes (b ∷ bytes) = refl
rest_apart n on_field (kinds.Signed, size, v) = value_apart v
rest_apart n on_field (kinds.Unsigned, size, v) = value_apart v
rest_apart n on_field (kinds.Either, size, v) = value_apart v
rest_apart n on_repeat m = refl
rest_apart n on_start v = value_apart v

line_certain : (n : ℕ) (r : Row) → certain (line_of n r) ≡ true
line_certain n (k, p) = tight_certain (word_of k) (rest_pieces n k p) (word_tight k) (rest_certain n k p)

line_apart : (n : ℕ) (r : Row) → apart (line_of n r) ≡ true
line_apart n (k, p) = words_apart (word_of k) (rest_pieces n k p) ∙ rest_apart n k p

-- what the line of a row has before its first word: nothing, or the begin of a block
pub before_line : (s : State) (r : Row) → (before_word s r ≡ []) ⊎ ((d : ℕ) × (before_word s r ≡ block d ∷ []))
before_line s (on_module, p) = inl refl
before_line s (on_extension, p) = inl refl
before_line s (on_environment, p) = inl refl
before_line s (on_section, p) = inl refl
before_line s (on_public, p) = inl refl
before_line s (on_note, p) = inl refl
before_line s (on_reference, p) = inl refl
before_line s (on_block, p) = inr (s.depth + 1, refl)
before_line s (on_end, p) = inl refl
before_line s (on_name, p) = inl refl
before_line s (on_value, p) = inl refl
before_line s (on_select, p) = inl refl
before_line s (on_counter, p) = inl refl
before_line s (on_bytes, p) = inl refl
before_line s (on_field, p) = inl refl
before_line s (on_repeat, p) = inl refl
before_line s (on_start, p) = inl refl

-- a line begins with a byte of its own
line_begins : (n : ℕ) (r : Row) → begins_byte (line_of n r) ≡ true
line_begins n (k, p) = text_begins (word_of k) (rest_pieces n k p) (word_solid k)

-- Each line of a row is spelled by its bytes in one way.
pub row_certain : (s : State) (r : Row) → certain (row_pieces s r) ≡ true
row_certain s r = go (before_line s r)
  where
    go : (before_word s r ≡ []) ⊎ ((d : ℕ) × (before_word s r ≡ block d ∷ [])) → certain (row_pieces s r) ≡ true
    go (inl e) = ap (λ l. certain (l ++ line_of (stated_by s r) r)) e ∙ line_certain (stated_by s r) r
    go (inr (d, e)) = ap (λ l. certain (l ++ line_of (stated_by s r) r)) e ∙ line_certain (stated_by s r) r

-- No two errors of a line are at one column.
pub row_apart : (s : State) (r : Row) → apart (row_pieces s r) ≡ true
row_apart s r = go (before_line s r)
  where
    go : (before_word s r ≡ []) ⊎ ((d : ℕ) × (before_word s r ≡ block d ∷ [])) → apart (row_pieces s r) ≡ true
    go (inl e) = ap (λ l. apart (l ++ line_of (stated_by s r) r)) e ∙ line_apart (stated_by s r) r
    go (inr (d, e)) = ap (λ l. apart (l ++ line_of (stated_by s r) r)) e ∙ both (line_begins (stated_by s r) r) (line_apart (stated_by s r) r)
