-- The first word of a line tells which line it is.
use Rattle.std.proofs.Common.{◌≡◌, ℕ, ◌<◌, ◌≤◌, ◌==◌, ◌&&◌, not, Bool, true, false, List, [], ◌∷◌, ◌++◌, length, Some, None, Result, Ok, Err, IfOk}
use Rattle.std.proofs.Common.{OnOk, refl, sym, ap, subst, ◌∙◌, append_assoc, if◌then◌else◌, arith}
use Rattle.mufom_text.specs.Words.{Text}
use Rattle.mufom_build_text.specs.Errors.{IsSound, Fails}
use Rattle.mufom_build_text.specs.Loosely.{Passes, Goes}
use Rattle.mufom_build_text.specs.Pieces.{Piece, byte, gap, loose, Spells, words}
use Rattle.mufom_build_text.specs.Reads.{Place}
use Rattle.mufom_build_text.proofs.FirstBytes.{both_true, no}
use Rattle.mufom_build_text.proofs.Loosely.{moves_failed, failed_bad, right_is_sound, longer}
use Rattle.mufom_build.specs.declared.row.Row.{Row as ReadRow}
use Rattle.mufom_build.specs.declared.order.Counts.{Counts}
use Rattle.mufom_build.specs.declared.order.Stage.TheVariants as stages
use Rattle.mufom_build.specs.Order.{State, HasCounts, row_pieces, before_word, stated_by, IsFew}
use Rattle.mufom_build.specs.ReadKinds.{ReadsOf}
use Rattle.mufom_build.specs.ReadRows.{ReadsRow}
use Rattle.mufom_build.specs.Rows.{Keyword, on_module, on_extension, on_environment, on_section, on_public, on_note, on_reference, on_block}
use Rattle.mufom_build.specs.Rows.{on_end, on_name, on_value, on_select, on_counter, on_bytes, on_field, on_repeat, on_start}
use Rattle.mufom_build.specs.Rows.{word_of, Payload, rest_pieces, Row}

-- ---- the first word of the line of a row

abbrev no_spaces : Text → Bool
no_spaces [] = true
no_spaces (c ∷ w) = not (c == 32) && no_spaces w

-- some bytes of which none is a space
abbrev is_word : Text → Bool
is_word [] = false
is_word (c ∷ w) = not (c == 32) && no_spaces w

word_is : (k : Keyword) → is_word (word_of k) ≡ true
word_is on_module = refl
word_is on_extension = refl
word_is on_environment = refl
word_is on_section = refl
word_is on_public = refl
word_is on_note = refl
word_is on_reference = refl
word_is on_block = refl
word_is on_end = refl
word_is on_name = refl
word_is on_value = refl
word_is on_select = refl
word_is on_counter = refl
word_is on_bytes = refl
word_is on_field = refl
word_is on_repeat = refl
word_is on_start = refl

word_first : (b : Bool) (c : ℕ) (s : Text) (ps : List Piece) → not b ≡ true → Spells loose ((if b then gap else byte c) ∷ ps) s
    → (rest : Text) × (s ≡ c ∷ rest) × Spells loose ps rest
word_first true c s ps h spelled = absurd (no h)
word_first false c s ps h (first, rest, e, f, others) = (rest, e ∙ ap (λ l. l ++ rest) f, others)

word_front : (w : Text) (ps : List Piece) (s : Text) → no_spaces w ≡ true → Spells loose (words w ++ ps) s → (rest : Text) × (s ≡ w ++ rest)
word_front [] ps s h spelled = (s, refl)
word_front (c ∷ w) ps s h spelled =
    let (here, more) = both_true (not (c == 32)) (no_spaces w) h in
    let (rest, e, others) = word_first (c == 32) c s (words w ++ ps) here spelled in
    let (after, f) = word_front w ps rest more others in
    (after, e ∙ ap (λ l. c ∷ l) f)

no_spaces_within : (w : Text) → is_word w ≡ true → no_spaces w ≡ true
no_spaces_within [] h = refl
no_spaces_within (c ∷ w) h = h

-- what is before the first word has no bytes
nothing_before : (s : State) (k : Keyword) (p : Payload k) (ps : List Piece) (text : Text) → Spells loose (before_word s (k, p) ++ ps) text
    → Spells loose ps text
nothing_before s on_module p ps text spelled = spelled
nothing_before s on_extension p ps text spelled = spelled
nothing_before s on_environment p ps text spelled = spelled
nothing_before s on_section p ps text spelled = spelled
nothing_before s on_public p ps text spelled = spelled
nothing_before s on_note p ps text spelled = spelled
nothing_before s on_reference p ps text spelled = spelled
nothing_before s on_block p ps text (first, rest, e, f, others) =
    subst (λ (l : Text). Spells loose ps l) (sym (e ∙ ap (λ l. l ++ rest) f)) others
nothing_before s on_end p ps text spelled = spelled
nothing_before s on_name p ps text spelled = spelled
nothing_before s on_value p ps text spelled = spelled
nothing_before s on_select p ps text spelled = spelled
nothing_before s on_counter p ps text spelled = spelled
nothing_before s on_bytes p ps text spelled = spelled
nothing_before s on_field p ps text spelled = spelled
nothing_before s on_repeat p ps text spelled = spelled
nothing_before s on_start p ps text spelled = spelled

row_word : (s : State) (k : Keyword) (p : Payload k) {a : Place} → Goes (row_pieces s (k, p)) a → (rest : Text) × (a.rest ≡ word_of k ++ rest)
row_word s k p {a} goes =
    let ps = rest_pieces (stated_by s (k, p)) k p in
    let spelled = nothing_before s k p (words (word_of k) ++ ps) goes.front goes.spelled in
    let (rest, e) = word_front (word_of k) ps goes.front (no_spaces_within (word_of k) (word_is k)) spelled in (
      rest ++ (goes.spaces ++ goes.end),
      goes.is ∙ ap (λ l. l ++ (goes.spaces ++ goes.end)) e ∙ append_assoc (word_of k) rest (goes.spaces ++ goes.end),
    )

-- ---- the line of any row

-- The line is read as one of a first word, and is of no other.
pub line_read : (s : State) (k : Keyword) (row : ReadRow) {a b : Place} → ((j : Keyword) (rest : Text) → a.rest ≡ word_of j ++ rest → k ≡ j)
    → ReadsOf s k row a b → ReadsRow s row a b
line_read s k row {a} {b} only read = record {
  row = (k, read.payload);
  moves = read.moves;
  passes = read.passes;
  few = read.few;
  kind = read.kind;
  same = read.same;
  takes = λ r few goes. let (rest, e) = row_word s r.0 r.1 goes in of_word r.0 (only r.0 rest e) r.1 few goes;
}
  where
    of_word : (j : Keyword) → k ≡ j → (q : Payload j) → IsFew (j, q) → Goes (row_pieces s (j, q)) a
        → (◌≡◌ {A = Row} (j, q) (k, read.payload)) × Goes [] b
    of_word j e = subst (λ (i : Keyword). (q : Payload i) → IsFew (i, q) → Goes (row_pieces s (i, q)) a
        → (◌≡◌ {A = Row} (i, q) (k, read.payload)) × Goes [] b) e
        (λ q few goes. let (same, left) = read.takes q few goes in (λ i. (k, same i), left))

-- The line has none of the first words.
pub no_line_read : (s : State) (row : ReadRow) {a b : Place} → ((j : Keyword) (rest : Text) → a.rest ≡ word_of j ++ rest → ⊥) → Fails a b
    → ReadsRow s row a b
no_line_read s row {a} {b} none f = record {
  row = (on_end, None);
  moves = moves_failed f;
  passes = λ sound. absurd (failed_bad f sound);
  few = λ sound. absurd (failed_bad f sound);
  kind = λ sound. absurd (failed_bad f sound);
  same = λ right. absurd (failed_bad f (right_is_sound b right));
  takes = λ r few goes. let (rest, e) = row_word s r.0 r.1 goes in absurd (none r.0 rest e);
}

-- where memory has not run out
pub any_line_read : {E : Type 0} (r : Result ReadRow E) (k : Keyword) (counts : Counts) (a b : Place)
    → IfOk r (λ row. (s : State) → HasCounts s counts → ReadsOf s k row a b)
    → ((j : Keyword) (rest : Text) → a.rest ≡ word_of j ++ rest → k ≡ j) → IfOk r (λ row. (s : State) → HasCounts s counts → ReadsRow s row a b)
any_line_read (Ok row) k counts a b reads only = λ s have. line_read s k row only (reads s have)
any_line_read (Err e) k counts a b reads only = tt

-- the one first word is the one that is told
pub same_word : {k j : Keyword} → Some k ≡ Some j → k ≡ j
same_word e = cc

pub no_word_told : (j : Keyword) → None ≡ Some j → ⊥
no_word_told j e = cc

-- ---- the line is not empty

passes_within : (ps : List Piece) (a b : Place) → Passes ps a b → length b.rest ≤ length a.rest
passes_within [] a b same = let e : length a.rest ≡ length b.rest = ap (λ (p : Place). length p.rest) same in omega (arith, e)
passes_within (p ∷ ps) a b (m, one, more) =
    let long = longer one.front m.rest a.rest one.is in
    let left = passes_within ps m b more in
    omega (arith, long, left)

passes_split : (xs ys : List Piece) (a b : Place) → Passes (xs ++ ys) a b → (m : Place) × Passes xs a m × Passes ys m b
passes_split [] ys a b passes = (a, refl, passes)
passes_split (x ∷ xs) ys a b (n, one, more) = let (m, first, last) = passes_split xs ys n b more in (m, (n, one, first), last)

some_passed : (is_space : Bool) (c : ℕ) (ps : List Piece) (a b : Place) → Passes ((if is_space then gap else byte c) ∷ ps) a b
    → length b.rest < length a.rest
some_passed true c ps a b (m, one, more) =
    let long = longer one.front m.rest a.rest one.is in
    let some = one.spelled.0 in
    let left = passes_within ps m b more in
    omega (arith, long, some, left)
some_passed false c ps a b (m, one, more) =
    let long = longer one.front m.rest a.rest one.is in
    let some : length one.front ≡ 1 = ap length one.spelled in
    let left = passes_within ps m b more in
    omega (arith, long, some, left)

word_passed : (w : Text) (ps : List Piece) (a b : Place) → is_word w ≡ true → Passes (words w ++ ps) a b → length b.rest < length a.rest
word_passed [] ps a b h passes = absurd (no h)
word_passed (c ∷ w) ps a b h passes = some_passed (c == 32) c (words w ++ ps) a b passes

row_shorter : (s : State) (k : Keyword) (p : Payload k) (a b : Place) → Passes (row_pieces s (k, p)) a b → length b.rest < length a.rest
row_shorter s k p a b passes =
    let ps = rest_pieces (stated_by s (k, p)) k p in
    let (m, before, line) = passes_split (before_word s (k, p)) (words (word_of k) ++ ps) a b passes in
    let first = passes_within (before_word s (k, p)) a m before in
    let last = word_passed (word_of k) ps m b (word_is k) line in
    omega (arith, first, last)

-- some state of these counts
abbrev state_of : Counts → State
state_of counts = record {
  stage = stages.Nothing;
  sections = counts.sections;
  publics = counts.publics;
  references = counts.references;
  names = counts.names;
  depth = counts.depth;
  repeats = false;
}

pub line_shorter : {E : Type 0} (r : Result ReadRow E) (counts : Counts) (a b : Place)
    → IfOk r (λ row. (s : State) → HasCounts s counts → ReadsRow s row a b) → OnOk r (IsSound b → length b.rest < length a.rest)
line_shorter (Ok row) counts a b reads = λ sound.
    let read = reads (state_of counts) (record { sections = refl; publics = refl; references = refl; names = refl; depth = refl }) in
    row_shorter (state_of counts) read.row.0 read.row.1 a b (read.passes sound)
line_shorter (Err e) counts a b reads = tt
