-- Lines that are stated exactly, with nothing too great, have no error.
use Rattle.std.proofs.Common.{◌≡◌, ℕ, ◌+◌, ◌<◌, ◌≤◌, ◌==◌, nat_lt, Bool, true, false, List, [], ◌∷◌, ◌++◌, length, Option, Some, None, refl, sym, ap, subst}
use Rattle.std.proofs.Common.{◌∙◌, inl, inr, ◌⊎◌, append_assoc, append-nil, arith, if◌then◌else◌, length-append}
use Rattle.std.specs.List.{AllByRecursion}
use Rattle.std.specs.Str.Parse.{digits_value}
use Rattle.mufom_text.specs.Words.{Text}
use Rattle.mufom_refusals.specs.declared.build.BuildReason.{BuildReason}
use Rattle.mufom_refusals.specs.declared.build.BuildReason.TheVariants.{Position, Count, TooGreat, TooLong, Deep}
use Rattle.mufom_build_text.specs.Pieces.{Piece, byte, gap, figure, position, count, name}
use Rattle.mufom_build_text.specs.Pieces.{digits, expression, block, Reading, exact, loose, Spells, SpellsPiece}
use Rattle.mufom_build_text.specs.Pieces.{AreSpaces, MOST_POSITION, MOST_NUMBER}
use Rattle.mufom_build_text.specs.Errors.{piece_error, stated_error}
use Rattle.mufom_build_text.specs.Loosely.{Passes}
use Rattle.mufom_build_text.specs.Reads.{Place, IsRight}
use Rattle.mufom_build_text.proofs.FirstBytes.{one_run}
use Rattle.mufom_build_text.proofs.Noted.{lt_no, noted_right, stated_right}
use Rattle.mufom_build_text.proofs.Loosely.{exact_passed}
use Rattle.mufom_build_text.proofs.Spelling.{spells-append, spells-one}
use Rattle.mufom_build.specs.Lines.{Line}
use Rattle.mufom_build.specs.Refusals.{HasError}
use Rattle.mufom_build.specs.Rows.{Row}
use Rattle.mufom_build.specs.Order.{State, start, next, state_after, row_pieces, lines_from}
use Rattle.mufom_build.specs.Begun.{SpellsLine, AreRows, Fits, AllFit}
use Rattle.mufom_build.proofs.TextLines.{loose_pieces, loose_piece}
use Rattle.mufom_build.proofs.Certain.{certain, IsTail, tail_more, one_piece, one_front, same_rest, certain_later}
use Rattle.mufom_build.proofs.CertainLines.{row_certain}
use Rattle.mufom_build.proofs.RowTexts.{body_avoids_space, rows_parted, rows_loosely, one_rows, lines_joined, no_row, one_line, line_loosely}
use Rattle.mufom_build.proofs.BegunRows.{last_same, IsLast, last_stated, IsErrorAt}

-- ---- one piece

some_is_none : {X : Type 0} (x : X) → Some x ≡ None → ⊥
some_is_none x e = cc

at_most : (most n : ℕ) (reason : BuildReason) → (if nat_lt most n then Some reason else None) ≡ None → n ≤ most
at_most most n reason h = go (nat_lt most n) refl h
  where
    go : (b : Bool) → nat_lt most n ≡ b → (if b then Some reason else None) ≡ None → n ≤ most
    go true e k = absurd (some_is_none reason k)
    go false e k = grind arith

stated_small : (most right : ℕ) (reason : BuildReason) (text : Text) → stated_error most right reason text ≡ None → right ≤ most
stated_small most right reason text h =
    let same = stated_right most right reason text h in
    let small = go (nat_lt most (digits_value 10 text)) refl h in
    omega (arith, same, small)
  where
    go : (b : Bool) → nat_lt most (digits_value 10 text) ≡ b
        → (if b then Some TooGreat else if digits_value 10 text == right then None else Some reason) ≡ None → digits_value 10 text ≤ most
    go true e k = absurd (some_is_none TooGreat k)
    go false e k = grind arith

-- a piece without an error is not too great
piece_fits : (piece : Piece) (bytes : Text) → SpellsPiece loose piece bytes → piece_error piece bytes ≡ None → Fits piece
piece_fits (byte value) bytes spelled none = tt
piece_fits gap bytes spelled none = tt
piece_fits (figure most n) bytes spelled none = at_most most n TooGreat none
piece_fits (position n) bytes spelled none = stated_small MOST_POSITION n Position bytes none
piece_fits (count n) bytes spelled none = stated_small MOST_NUMBER n Count bytes none
piece_fits (name title) bytes spelled none = tt
piece_fits (digits inside) bytes spelled none = tt
piece_fits (expression n) bytes spelled none = at_most 255 n TooLong none
piece_fits (block n) bytes spelled none = at_most 32 n Deep none

no_more : (most n : ℕ) (reason : BuildReason) → n ≤ most → (if nat_lt most n then Some reason else None) ≡ None
no_more most n reason small = ap (λ (b : Bool). if b then Some reason else None) (lt_no most n small)

stated_well : (most right : ℕ) (reason : BuildReason) (text : Text) → digits_value 10 text ≡ right → right ≤ most
    → stated_error most right reason text ≡ None
stated_well most right reason text same small =
    ap (λ (b : Bool). if b then Some TooGreat else if digits_value 10 text == right then None else Some reason)
    (lt_no most (digits_value 10 text) (omega (arith, same, small)))
    ∙ ap (λ (b : Bool). if b then None else Some reason) (equal (digits_value 10 text) right same)
  where
    equal : (n m : ℕ) → n ≡ m → (n == m) ≡ true
    equal n m e = grind arith

-- a piece that is stated exactly and is not too great has no error
pub right_piece : (piece : Piece) (bytes : Text) → SpellsPiece exact piece bytes → Fits piece → piece_error piece bytes ≡ None
right_piece (byte value) bytes spelled fits = refl
right_piece gap bytes spelled fits = refl
right_piece (figure most n) bytes spelled fits = no_more most n TooGreat fits
right_piece (position n) bytes spelled fits = stated_well MOST_POSITION n Position bytes spelled.1 fits
right_piece (count n) bytes spelled fits = stated_well MOST_NUMBER n Count bytes spelled.1 fits
right_piece (name title) bytes spelled fits = refl
right_piece (digits inside) bytes spelled fits = refl
right_piece (expression n) bytes spelled fits = no_more 255 n TooLong fits
right_piece (block n) bytes spelled fits = no_more 32 n Deep fits

-- ---- pieces

-- the error so far is none before each place where it is none behind
right_before : (pieces : List Piece) (a b : Place) → Passes pieces a b → IsRight b → IsRight a
right_before pieces a b passes right = (exact_passed pieces a b passes right).right

-- pieces that are passed with no error are not too great
pub passed_fits : (pieces : List Piece) (a b : Place) → Passes pieces a b → IsRight b → AllByRecursion Fits pieces
passed_fits [] a b same right = tt
passed_fits (piece ∷ pieces) a b (next, one, more) right =
    let later = right_before pieces next b more right in
    let (before, none) = noted_right a.error a.column (piece_error piece one.front) (sym one.error ∙ later) in
    (piece_fits piece one.front one.spelled none, passed_fits pieces next b more right)

all_of : {X : Type 0} (P : X → Type 0) (xs ys : List X) → AllByRecursion P (xs ++ ys) → AllByRecursion P xs × AllByRecursion P ys
all_of P [] ys all = (tt, all)
all_of P (x ∷ xs) ys (here, all) = let (a, b) = all_of P xs ys all in ((here, a), b)

pub all_and : {X : Type 0} (P : X → Type 0) (xs ys : List X) → AllByRecursion P xs → AllByRecursion P ys → AllByRecursion P (xs ++ ys)
all_and P [] ys all others = others
all_and P (x ∷ xs) ys (here, all) others = (here, all_and P xs ys all others)

-- the bytes of the first pieces and of the others
pub spells_parted : (reading : Reading) (xs ys : List Piece) (text : Text) → Spells reading (xs ++ ys) text
    → (front : Text) × (back : Text) × (text ≡ front ++ back) × Spells reading xs front × Spells reading ys back
spells_parted reading [] ys text spelled = ([], text, refl, refl, spelled)
spells_parted reading (x ∷ xs) ys text (first, rest, is, here, more) =
    let (front, back, e, spelled, others) = spells_parted reading xs ys rest more in
    (first ++ front, back, is ∙ ap (λ l. first ++ l) e ∙ sym (append_assoc first front back), (first, front, refl, here, spelled), others)

-- spaces at the end of a text
spaces_tail : (spaces : Text) → AreSpaces spaces → IsTail [] spaces
spaces_tail spaces are = record {
  front = [];
  spaces = spaces;
  end = [];
  is = sym (append-nil spaces);
  spelled = refl;
  are = are;
  line_end = inl refl;
}

-- what follows pieces on a line of a text
pub back_tail : (pieces : List Piece) (back spaces : Text) → Spells loose pieces back → AreSpaces spaces → IsTail pieces (back ++ spaces)
back_tail pieces back spaces spelled are = subst (λ (l : List Piece). IsTail l (back ++ spaces)) (append-nil pieces)
    (tail_more pieces [] back spaces spelled (spaces_tail spaces are))

-- where pieces are spelled exactly, each of them is
exact_inside : (earlier : List Piece) (piece : Piece) (later : List Piece) (body after front bytes back other : Text)
    → certain (earlier ++ piece ∷ later) ≡ true → Spells exact (earlier ++ piece ∷ later) body → AreSpaces after
    → body ++ after ≡ front ++ (bytes ++ (back ++ other)) → Spells loose earlier front → SpellsPiece loose piece bytes → Spells loose later back
    → AreSpaces other → SpellsPiece exact piece bytes
exact_inside earlier piece later body after front bytes back other h spelled spaces is spells_front spells_piece spells_back others =
    let (first, rest, e, here, (middle, last, f, one, more)) = spells_parted exact earlier (piece ∷ later) body spelled in
    let left = loose_pieces earlier first here in
    let right = loose_pieces later last more in
    let all : first ++ (middle ++ (last ++ after)) ≡ front ++ (bytes ++ (back ++ other)) =
    ap (λ l. first ++ l) (sym (append_assoc middle last after) ∙ ap (λ l. l ++ after) (sym f)) ∙ sym (append_assoc first rest after)
    ∙ ap (λ l. l ++ after) (sym e) ∙ is in
    let tail_here = back_tail later last after right spaces in
    let tail_there = back_tail later back other spells_back others in
    let one_more : (t u : Text) → SpellsPiece loose piece t → IsTail later u → IsTail (piece ∷ later) (t ++ u) =
    λ t u p q. tail_more (piece ∷ []) later t u (spells-one loose piece t p) q in
    let same = one_front earlier (piece ∷ later) first front (middle ++ (last ++ after)) (bytes ++ (back ++ other)) h left spells_front
    (one_more middle (last ++ after) (loose_piece piece middle one) tail_here)
    (one_more bytes (back ++ other) spells_piece tail_there) all in
    let rests = same_rest first front (middle ++ (last ++ after)) (bytes ++ (back ++ other)) all same in
    let here_too = one_piece piece later middle bytes (last ++ after) (back ++ other) (certain_later earlier (piece ∷ later) h)
    (loose_piece piece middle one) spells_piece tail_here tail_there rests in
    subst (λ (l : Text). SpellsPiece exact piece l) here_too one

-- ---- lines

-- A line that is stated exactly, with nothing too great, has no error.
pub no_error : (s : State) (r : Row) (text : Text) (column : ℕ) (reason : BuildReason) → SpellsLine exact (row_pieces s r) text
    → AllByRecursion Fits (row_pieces s r) → HasError text (row_pieces s r) column reason → ⊥
no_error s r text column reason (before, body, after, is, spaces, spelled, others) fits e =
    let wrong = subst (λ (l : Line). Spells loose l (e.front ++ (e.bytes ++ e.back))) (sym e.made_of)
    (spells-append loose e.earlier (e.piece ∷ e.later) e.front (e.bytes ++ e.back) e.spells_front
    (spells-append loose (e.piece ∷ []) e.later e.bytes e.back (spells-one loose e.piece e.bytes e.spells_piece) e.spells_back)) in
    let flat : (e.front ++ (e.bytes ++ e.back)) ++ e.after ≡ e.front ++ (e.bytes ++ (e.back ++ e.after)) =
    append_assoc e.front (e.bytes ++ e.back) e.after ∙ ap (λ l. e.front ++ l) (append_assoc e.bytes e.back e.after) in
    let (same, rest) = one_run (λ b. b ≡ 32) before e.before (body ++ after) ((e.front ++ (e.bytes ++ e.back)) ++ e.after) spaces e.leading
    (sym is ∙ e.is ∙ ap (λ l. e.before ++ l) (sym flat)) (body_avoids_space s r body after (loose_pieces (row_pieces s r) body spelled))
    (body_avoids_space s r (e.front ++ (e.bytes ++ e.back)) e.after wrong) in
    let exactly = exact_inside e.earlier e.piece e.later body after e.front e.bytes e.back e.after
    (subst (λ (l : Line). certain l ≡ true) e.made_of (row_certain s r)) (subst (λ (l : Line). Spells exact l body) e.made_of spelled) others
    (rest ∙ flat) e.spells_front e.spells_piece e.spells_back e.trailing in
    let small = (all_of Fits e.earlier (e.piece ∷ e.later) (subst (λ (l : Line). AllByRecursion Fits l) e.made_of fits)).1.0 in
    some_is_none reason (sym e.error ∙ right_piece e.piece e.bytes exactly small)

-- No line of rows that are stated exactly, with nothing too great, has an error.
pub none_wrong : (rows : List Row) (texts : List Text) (all : List Text) (at column : ℕ) (reason : BuildReason) → AreRows exact start rows texts
    → AllFit (lines_from start rows) → (e : IsErrorAt all at column reason) → (more : List Text) → texts ≡ (e.earlier ++ e.text ∷ []) ++ more
    → ⊥
none_wrong rows texts all at column reason stated fit e more is =
    let p = rows_parted exact start rows (e.earlier ++ e.text ∷ []) more (subst (λ (l : List Text). AreRows exact start rows l) is stated) in
    let s = state_after start e.rows in
    let last = last_stated exact p.first e.earlier e.text (λ spaces. no_row s e.row e.text e.spelled spaces) p.stated in
    let same_rows = one_rows start e.rows last.first e.earlier e.stated (rows_loosely exact start last.first e.earlier last.stated) in
    let here : SpellsLine exact (row_pieces s last.row) e.text =
    subst (λ (l : List Row). SpellsLine exact (row_pieces (state_after start l) last.row) e.text) (sym same_rows) last.spelled in
    let same_row : e.row ≡ last.row = one_line s e.row last.row e.text e.spelled (line_loosely exact (row_pieces s last.row) e.text here) in
    let exactly : SpellsLine exact (row_pieces s e.row) e.text = subst (λ (r : Row). SpellsLine exact (row_pieces s r) e.text) (sym same_row) here in
    let first_is : p.first ≡ e.rows ++ e.row ∷ [] =
    last.is ∙ ap (λ l. l ++ last.row ∷ []) (sym same_rows) ∙ ap (λ r. e.rows ++ r ∷ []) (sym same_row) in
    let lines : lines_from start rows ≡ (lines_from start e.rows ++ row_pieces s e.row ∷ []) ++ lines_from (state_after start p.first) p.later =
    ap (λ l. lines_from start l) p.is ∙ lines_joined start p.first p.later
    ∙ ap (λ l. l ++ lines_from (state_after start p.first) p.later) (ap (λ l. lines_from start l) first_is ∙ lines_joined start e.rows (e.row ∷ [])) in
    let all_fit = subst (λ (l : List Line). AllFit l) lines fit in
    let first_fit = (all_of (λ pieces. AllByRecursion Fits pieces) (lines_from start e.rows ++ row_pieces s e.row ∷ [])
    (lines_from (state_after start p.first) p.later) all_fit).0 in
    let fits = (all_of (λ pieces. AllByRecursion Fits pieces) (lines_from start e.rows) (row_pieces s e.row ∷ []) first_fit).1.0 in
    no_error s e.row e.text column reason exactly fits e.wrong
