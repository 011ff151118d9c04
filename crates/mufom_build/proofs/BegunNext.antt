-- A listing is begun at the beginning of a text, and behind each line that is read; and what holds where the text has ended.
use Rattle.std.proofs.Common.{◌≡◌, ℕ, suc, ◌+◌, ◌-◌, ◌<◌, ◌≤◌, ◌==◌, ◌&&◌, nat_lt, max, Bool, true, false, List, [], ◌∷◌, ◌++◌, length, take, flat_map}
use Rattle.std.proofs.Common.{Some, None, refl, sym, ap, subst, ◌∙◌, inl, inr, ◌⊎◌, append_assoc, append-nil, arith, if◌then◌else◌, length-append}
use Rattle.std.specs.List.{AllByRecursion}
use Rattle.mufom_text.specs.Words.{Text, line}
use Rattle.mufom_refusals.specs.declared.build.BuildReason.TheVariants.{BadText}
use Rattle.mufom_build_text.specs.Pieces.{exact, loose, Spells, AreSpaces}
use Rattle.mufom_build_text.specs.Places.{AreBlank, SpellsLines}
use Rattle.mufom_build_text.specs.Errors.{wrong_line, IsSound}
use Rattle.mufom_build_text.specs.Reads.{Place, beginning, IsRight, IsLineEnd, IsPastBlanks, PassesBlanks, LeavesLine, feeds, column_after}
use Rattle.mufom_build_text.proofs.Loosely.{right_is_sound, exact_passed}
use Rattle.mufom_module.specs.declared.module.Parts.{Parts}
use Rattle.mufom_build.specs.declared.row.Row.{Row as ReadRow}
use Rattle.mufom_build.specs.Lines.{Line, listing_lines, Shape}
use Rattle.mufom_build.specs.ReadRows.{ReadsRow}
use Rattle.mufom_build.specs.Refusals.{text_lines, last_line, AreRight, IsRefusedAt}
use Rattle.mufom_build.specs.Rows.{Row, rows_of}
use Rattle.mufom_build.specs.Shown.{shown_kind}
use Rattle.mufom_build.specs.Order.{State, start, state_after, kind_of, may_come, may_end, row_pieces, lines_from, AreInOrder}
use Rattle.mufom_build.specs.Begun.{IsPlain, AreRows, Fits, AllFit, IsBeforeLine, IsAtEnd, Begun}
use Rattle.mufom_build.proofs.Completed.{listing_is, listing_ends}
use Rattle.mufom_build.proofs.TextLines.{NoFeed, IsDark, all_joined, all_split, spaces_plain, spaces_blank, blank_spaces, IsCut, cut, cut_lines, last_text}
use Rattle.mufom_build.proofs.TextLines.{column_behind, lines_before, only_line, flat_lines, line_before, loose_pieces}
use Rattle.mufom_build.proofs.RowLines.{row_plain, row_dark}
use Rattle.mufom_build.proofs.RowTexts.{run_joined, lines_joined, rows_joined, rows_loosely, one_rows, rows_in_text, text_of_rows}
use Rattle.mufom_build.proofs.BegunRows.{plain_joined, last_plain, text_plain}
use Rattle.mufom_build.proofs.Rightly.{passed_fits, all_and}
use Rattle.mufom_build.proofs.BegunHere.{not_behind, right_so_far}

-- ---- behind blank lines

-- blank lines state nothing
no_rows : (s : State) (texts : List Text) → AllByRecursion AreSpaces texts → AreRows exact s [] texts
no_rows s [] blank = refl
no_rows s (x ∷ texts) (here, blank) = inl (here, no_rows s texts blank)

blank_texts : (texts : List Text) (tail : Text) → AreBlank (flat_map line texts ++ tail) → AllByRecursion IsPlain texts → AllByRecursion AreSpaces texts
    × AreBlank tail
blank_texts [] tail blank plain = (tt, blank)
blank_texts (x ∷ texts) tail blank (here, plain) =
    let all : AreBlank (x ++ (10 ∷ (flat_map line texts ++ tail))) = subst (λ (l : Text). AreBlank l) (line_before x texts tail) blank in
    let (first, rest) = all_split (λ b. (b ≡ 32) ⊎ (b ≡ 10)) x (10 ∷ (flat_map line texts ++ tail)) all in
    let (others, last) = blank_texts texts tail rest.1 plain in
    ((blank_spaces x first here, others), last)

last_blank : (s : State) (tail : Text) → AreSpaces tail → AreRows exact s [] (last_text tail)
last_blank s [] spaces = refl
last_blank s (b ∷ tail) spaces = inl (spaces, refl)

max_one : (n : ℕ) → 1 ≤ n → max 1 n ≡ n
max_one n small = omega (arith, small)

-- the number of the last line, where the text ends behind these lines and spaces
last_number : (place : Place) (texts : List Text) (tail : Text) → place.rest ≡ [] → place.line ≡ length texts + 1 → place.column ≡ length tail + 1
    → wrong_line place ≡ max 1 (length (texts ++ last_text tail))
last_number place texts [] none line_is column_is = go texts refl
  where
    is_none : (length place.rest == 0) ≡ true
    is_none = let h : length place.rest ≡ 0 = ap length none in grind arith

    is_first : (place.column == 1) ≡ true
    is_first = let h : place.column ≡ 0 + 1 = column_is in grind arith

    go : (t : List Text) → t ≡ texts → wrong_line place ≡ max 1 (length (texts ++ []))
    go [] e =
        let one : place.line ≡ 1 = (let zero_long : length texts ≡ 0 = ap length (sym e) in omega (arith, zero_long, line_is)) in
        let none_more : length (texts ++ []) ≡ 0 = ap length (append-nil texts ∙ sym e) in
        ap (λ (b : Bool). if b && ((place.column == 1) && nat_lt 1 place.line) then place.line - 1 else place.line) is_none
        ∙ ap (λ (b : Bool). if b && nat_lt 1 place.line then place.line - 1 else place.line) is_first
        ∙ ap (λ n. if nat_lt 1 n then n - 1 else n) one ∙ ap (λ n. max 1 n) (sym none_more)
    go (x ∷ t) e =
        let some : length texts ≡ suc (length t) = ap length (sym e) in
        let great : nat_lt 1 place.line ≡ true = (let h : 1 < place.line = omega (arith, some, line_is) in grind arith) in
        let all : length (texts ++ []) ≡ length texts = ap length (append-nil texts) in
        ap (λ (b : Bool). if b && ((place.column == 1) && nat_lt 1 place.line) then place.line - 1 else place.line) is_none
        ∙ ap (λ (b : Bool). if b && nat_lt 1 place.line then place.line - 1 else place.line) is_first
        ∙ ap (λ (b : Bool). if b then place.line - 1 else place.line) great
        ∙ (let e : place.line - 1 ≡ length texts = omega (arith, line_is) in e) ∙ sym all
        ∙ sym (max_one (length (texts ++ [])) (omega (arith, all, some)))
last_number place texts (b ∷ tail) none line_is column_is =
    let column : place.column ≡ suc (length tail) + 1 = column_is in
    let all : length (texts ++ (b ∷ tail) ∷ []) ≡ length texts + 1 = length-append texts ((b ∷ tail) ∷ []) in
    not_behind place (omega (arith, column)) ∙ line_is ∙ sym all ∙ sym (max_one _ (omega (arith, all)))

-- Behind rows that are stated exactly, and behind spaces, a listing is begun.
behind_blanks : (text : Text) (rows : List Row) (texts : List Text) (tail : Text) (place : Place) → AllByRecursion IsPlain texts → AreInOrder start rows
    → AreRows exact start rows texts → AllFit (lines_from start rows) → IsRight place → IsPastBlanks place.rest → AreSpaces tail
    → text ≡ flat_map line texts ++ (tail ++ place.rest) → place.line ≡ length texts + 1 → place.column ≡ length tail + 1 → Begun text rows place
behind_blanks text rows texts tail place plain run stated fit right past spaces is line_is column_is = go place.rest refl
  where
    go : (rest : Text) → rest ≡ place.rest → Begun text rows place
    go (b ∷ others) e = record {
      texts = texts;
      plain = plain;
      run = run;
      stated = stated;
      fit = fit;
      right = right;
      past = past;
      here = inl (record {
        lead = tail;
        is = is;
        spaces = spaces;
        first = b;
        others = others;
        some = sym e;
        line_is = line_is;
        column_is = column_is;
      });
    }
    go [] e =
        let whole : text ≡ flat_map line texts ++ tail = is ∙ ap (λ l. flat_map line texts ++ l) (ap (λ l. tail ++ l) (sym e) ∙ append-nil tail) in
        let all : text_lines text ≡ texts ++ last_text tail = ap text_lines whole ∙ lines_before texts tail plain
        ∙ ap (λ l. texts ++ l) (only_line tail (spaces_plain tail spaces)) in
        record {
          texts = texts ++ last_text tail;
          plain = plain_joined texts (last_text tail) plain (last_plain tail (spaces_plain tail spaces));
          run = run;
          stated = subst (λ (l : List Row). AreRows exact start l (texts ++ last_text tail)) (append-nil rows)
              (rows_joined exact start rows [] texts (last_text tail) stated (last_blank (state_after start rows) tail spaces));
          fit = fit;
          right = right;
          past = past;
          here = inr (record {
            none = sym e;
            all = all;
            last = last_number place texts tail (sym e) line_is column_is ∙ ap (λ l. max 1 (length l)) (sym all);
          });
        }

-- ---- the beginning

one_column : (texts : List Text) → column_behind texts 1 ≡ 1
one_column [] = refl
one_column (x ∷ texts) = refl

-- A listing is begun, with no rows, behind the blank lines at the beginning of a text.
pub begun_first : (text : Text) (place : Place) → PassesBlanks text 1 1 place.rest place.line place.column → IsPastBlanks place.rest → IsRight place
    → Begun text [] place
begun_first text place blanks past right =
    let c = cut blanks.front in
    let (others, last) = blank_texts c.texts c.tail (subst (λ (l : Text). AreBlank l) c.is blanks.blank) c.plain in
    behind_blanks text [] c.texts c.tail place c.plain tt (no_rows start c.texts others) tt right past
    (blank_spaces c.tail last c.plain_tail)
    (blanks.is ∙ ap (λ l. l ++ place.rest) c.is ∙ append_assoc (flat_map line c.texts) c.tail place.rest)
    (blanks.line_is ∙ ap (λ n. 1 + n) c.feeds_are ∙ (let e : 1 + length c.texts ≡ length c.texts + 1 = omega arith in e))
    (blanks.column_is ∙ c.column_is 1 ∙ ap (λ n. n + length c.tail) (one_column c.texts)
    ∙ (let e : 1 + length c.tail ≡ length c.tail + 1 = omega arith in e))

-- ---- one line more

-- a line that is read with no error, in a text
record IsReadLine (text : Text) (rows : List Row) (texts : List Text) (row : Row) (here rest : Text) : Type 0 where
  is : text ≡ flat_map line texts ++ (here ++ rest)
  plain : IsPlain here
  some : 0 < length here
  run : AreInOrder start (rows ++ row ∷ [])
  stated : AreRows exact start (rows ++ row ∷ []) (texts ++ here ∷ [])
  fit : AllFit (lines_from start (rows ++ row ∷ []))

line_read : (text : Text) (rows : List Row) (place after : Place) (result : ReadRow) → (begun : Begun text rows place)
    → (before : IsBeforeLine text begun.texts place) → (reads : ReadsRow (state_after start rows) result place after)
    → may_come (state_after start rows) (shown_kind result) ≡ true → IsRight after → (spaces end : Text) → after.rest ≡ spaces ++ end
    → AreSpaces spaces → (here : Text) × IsReadLine text rows begun.texts reads.row here end
    × (length here + length end ≡ length before.lead + length place.rest)
line_read text rows place after result begun before reads may right spaces end is are =
    let s = state_after start rows in
    let row = reads.row in
    let sound = right_is_sound after right in
    let passes = reads.passes sound in
    let p = exact_passed (row_pieces s row) place after passes right in
    let body = loose_pieces (row_pieces s row) p.front p.spelled in
    let here = before.lead ++ (p.front ++ spaces) in
    let place_is : place.rest ≡ p.front ++ (spaces ++ end) = p.is ∙ ap (λ l. p.front ++ l) is in
    let flat : before.lead ++ (p.front ++ (spaces ++ end)) ≡ here ++ end =
    ap (λ l. before.lead ++ l) (sym (append_assoc p.front spaces end)) ∙ sym (append_assoc before.lead (p.front ++ spaces) end) in
    let lead_long = length-append before.lead place.rest in
    let here_long = length-append here end in
    let same_long : length (before.lead ++ place.rest) ≡ length (here ++ end) = ap length (ap (λ l. before.lead ++ l) place_is ∙ flat) in
    let (first, others, dark_is, dark) = row_dark s row p.front body in
    let some : 0 < length here = longer before.lead p.front spaces first others dark_is in (
      here,
      record {
        is = before.is ∙ ap (λ l. flat_map line begun.texts ++ l) (ap (λ l. before.lead ++ l) place_is ∙ flat);
        plain = all_joined NoFeed before.lead (p.front ++ spaces) (spaces_plain before.lead before.spaces)
            (all_joined NoFeed p.front spaces (row_plain s row p.front body) (spaces_plain spaces are));
        some = some;
        run = run_joined start rows (row ∷ []) begun.run (ap (λ k. may_come s k) (sym (reads.kind sound)) ∙ may, reads.few sound, tt);
        stated = rows_joined exact start rows (row ∷ []) begun.texts (here ∷ []) begun.stated
            (inr (row, [], refl, (before.lead, p.front, spaces, refl, before.spaces, p.spelled, are), refl));
        fit = subst (λ (l : List Line). AllFit l) (sym (lines_joined start rows (row ∷ [])))
            (all_and (λ pieces. AllByRecursion Fits pieces) (lines_from start rows) (row_pieces s row ∷ []) begun.fit
            (passed_fits (row_pieces s row) place after passes right, tt));
      },
      omega (arith, lead_long, here_long, same_long),
    )
  where
    longer : (lead front spaces : Text) (first : ℕ) (others : Text) → front ≡ first ∷ others → 0 < length (lead ++ (front ++ spaces))
    longer lead front spaces first others e =
        let a = length-append lead (front ++ spaces) in
        let b = length-append front spaces in
        let c : length front ≡ suc (length others) = ap length e in
        omega (arith, a, b, c)

-- behind the last line of a text, which no line feed ends
at_last : (text : Text) (rows : List Row) (texts : List Text) (row : Row) (here : Text) (last : Place) → AllByRecursion IsPlain texts
    → IsReadLine text rows texts row here [] → IsRight last → last.rest ≡ [] → last.line ≡ length texts + 1 → 1 < last.column
    → Begun text (rows ++ row ∷ []) last
at_last text rows texts row here last plain x right none line_is column_is =
    let whole : text ≡ flat_map line texts ++ here = x.is ∙ ap (λ l. flat_map line texts ++ l) (append-nil here) in
    let all : text_lines text ≡ texts ++ here ∷ [] = ap text_lines whole ∙ lines_before texts here plain
    ∙ ap (λ l. texts ++ l) (only_line here x.plain ∙ one here x.some) in
    let long : length (texts ++ here ∷ []) ≡ length texts + 1 = length-append texts (here ∷ []) in
    let ended : length last.rest ≡ 0 = ap length none in
    record {
      texts = texts ++ here ∷ [];
      plain = plain_joined texts (here ∷ []) plain (x.plain, tt);
      run = x.run;
      stated = x.stated;
      fit = x.fit;
      right = right;
      past = λ b more e blank. let h : [] ≡ b ∷ more = sym none ∙ e in cc;
      here = inr (record {
        none = none;
        all = all;
        last = not_behind last (omega (arith, column_is, ended)) ∙ line_is ∙ sym long ∙ sym (max_one (length (texts ++ here ∷ [])) (omega (arith, long)))
            ∙ ap (λ l. max 1 (length l)) (sym all);
      });
    }
  where
    one : (here : Text) → 0 < length here → last_text here ≡ here ∷ []
    one [] some = absurd (omega (arith, some))
    one (b ∷ here) some = refl

-- behind a line feed and blank lines
after_feed : (text : Text) (rows : List Row) (texts : List Text) (row : Row) (here more front : Text) (last : Place) (column : ℕ)
    → AllByRecursion IsPlain texts → IsReadLine text rows texts row here (10 ∷ more) → IsRight last → IsPastBlanks last.rest
    → more ≡ front ++ last.rest → AreBlank front → last.line ≡ length texts + 1 + (feeds front + 1) → last.column ≡ column_after 1 front
    → Begun text (rows ++ row ∷ []) last
after_feed text rows texts row here more front last column plain x right past is blank line_is column_is =
    let c = cut front in
    let (blanks, last_blanks) = blank_texts c.texts c.tail (subst (λ (l : Text). AreBlank l) c.is blank) c.plain in
    let all = (texts ++ here ∷ []) ++ c.texts in
    let long : length all ≡ length (texts ++ here ∷ []) + length c.texts = length-append (texts ++ here ∷ []) c.texts in
    let one : length (texts ++ here ∷ []) ≡ length texts + 1 = length-append texts (here ∷ []) in
    let stated = rows_joined exact start (rows ++ row ∷ []) [] (texts ++ here ∷ []) c.texts x.stated
    (no_rows (state_after start (rows ++ row ∷ [])) c.texts blanks) in
    let line_text : flat_map line (texts ++ here ∷ []) ≡ flat_map line texts ++ (here ++ 10 ∷ []) =
    flat_lines texts (here ∷ []) ∙ ap (λ l. flat_map line texts ++ l) (append-nil (here ++ 10 ∷ [])) in
    let rest_is : more ≡ flat_map line c.texts ++ (c.tail ++ last.rest) =
    is ∙ ap (λ l. l ++ last.rest) c.is ∙ append_assoc (flat_map line c.texts) c.tail last.rest in
    let text_is : text ≡ flat_map line all ++ (c.tail ++ last.rest) =
    x.is ∙ ap (λ l. flat_map line texts ++ (here ++ 10 ∷ l)) rest_is
    ∙ joined (flat_map line texts) here (flat_map line c.texts) (c.tail ++ last.rest)
    ∙ ap (λ l. (l ++ flat_map line c.texts) ++ (c.tail ++ last.rest)) (sym line_text)
    ∙ ap (λ l. l ++ (c.tail ++ last.rest)) (sym (flat_lines (texts ++ here ∷ []) c.texts)) in
    behind_blanks text (rows ++ row ∷ []) all c.tail last
    (plain_joined (texts ++ here ∷ []) c.texts (plain_joined texts (here ∷ []) plain (x.plain, tt)) c.plain) x.run
    (subst (λ (l : List Row). AreRows exact start l all) (append-nil (rows ++ row ∷ [])) stated) x.fit right past
    (blank_spaces c.tail last_blanks c.plain_tail) text_is
    (let sum : last.line ≡ length all + 1 = omega (arith, line_is, c.feeds_are, long, one) in sum)
    (column_is ∙ c.column_is 1 ∙ ap (λ n. n + length c.tail) (one_column c.texts)
    ∙ (let e : 1 + length c.tail ≡ length c.tail + 1 = omega arith in e))
  where
    joined : (s h t u : Text) → s ++ (h ++ 10 ∷ (t ++ u)) ≡ ((s ++ (h ++ 10 ∷ [])) ++ t) ++ u
    joined s h t u = ap (λ l. s ++ l) (sym (append_assoc h (10 ∷ []) (t ++ u))) ∙ sym (append_assoc s (h ++ 10 ∷ []) (t ++ u))
        ∙ sym (append_assoc (s ++ (h ++ 10 ∷ [])) t u)

-- A listing is begun behind a line that is read with no error and has ended, with the row that it states.
pub next_here : (text : Text) (rows : List Row) (place after last : Place) (result : ReadRow) → (begun : Begun text rows place)
    → IsBeforeLine text begun.texts place → (reads : ReadsRow (state_after start rows) result place after)
    → may_come (state_after start rows) (shown_kind result) ≡ true → IsRight after → LeavesLine after last
    → Begun text (rows ++ reads.row ∷ []) last
next_here text rows place after last result begun before reads may right leaves =
    let (here, x, long) = line_read text rows place after result begun before reads may right leaves.spaces.front leaves.end.rest leaves.spaces.is
    leaves.spaces.spaces in
    go here x long leaves.line_end leaves.blanks.front leaves.blanks.is leaves.blanks.blank leaves.blanks.line_is leaves.blanks.column_is
  where
    is_right : IsRight last
    is_right = leaves.error ∙ right

    end_line : leaves.end.line ≡ length begun.texts + 1
    end_line = leaves.line ∙ reads.moves.line ∙ before.line_is

    go : (here : Text) → IsReadLine text rows begun.texts reads.row here leaves.end.rest
        → length here + length leaves.end.rest ≡ length before.lead + length place.rest → IsLineEnd leaves.end.rest → (front : Text)
        → leaves.end.rest ≡ front ++ last.rest → AreBlank front → last.line ≡ leaves.end.line + feeds front
        → last.column ≡ column_after leaves.end.column front → Begun text (rows ++ reads.row ∷ []) last
    go here x long (inl none) [] is blank line_is column_is =
        let some : length place.rest ≡ suc (length before.others) = ap length before.some in
        let ended : length leaves.end.rest ≡ 0 = ap length none in
        let moved = reads.moves.column in
        let columns = leaves.column in
        at_last text rows begun.texts reads.row here last begun.plain
        (subst (λ (l : Text). IsReadLine text rows begun.texts reads.row here l) none x) is_right (sym is ∙ none)
        (let e : last.line ≡ length begun.texts + 1 = omega (arith, line_is, end_line) in e)
        (omega (arith, some, ended, moved, columns, column_is, before.column_is))
    go here x long (inl none) (b ∷ front) is blank line_is column_is = absurd (let h : [] ≡ b ∷ (front ++ last.rest) = sym none ∙ is in cc)
    go here x long (inr (more, e)) [] is blank line_is column_is = absurd (leaves.past 10 more (sym is ∙ e) (inr refl))
    go here x long (inr (more, e)) (b ∷ front) is (first, blank) line_is column_is =
        let h : 10 ∷ more ≡ b ∷ (front ++ last.rest) = sym e ∙ is in
        let feed : 10 ≡ b = cc in
        let rest : more ≡ front ++ last.rest = cc in
        after_feed text rows begun.texts reads.row here more front last leaves.end.column begun.plain
        (subst (λ (l : Text). IsReadLine text rows begun.texts reads.row here l) e x) is_right leaves.past rest blank
        (line_is ∙ ap (λ c. leaves.end.line + feeds (c ∷ front)) (sym feed) ∙ ap (λ n. n + (feeds front + 1)) end_line)
        (column_is ∙ ap (λ c. column_after leaves.end.column (c ∷ front)) (sym feed))

-- ---- the end of a text

-- Where the text has ended, its lines state the rows.
pub all_stated : (text : Text) (rows : List Row) (place : Place) → Begun text rows place → place.rest ≡ []
    → AreRows exact start rows (text_lines text) × (wrong_line place ≡ last_line text)
all_stated text rows place begun none = go begun.here
  where
    go : IsBeforeLine text begun.texts place ⊎ IsAtEnd text begun.texts place
        → AreRows exact start rows (text_lines text) × (wrong_line place ≡ last_line text)
    go (inl before) = absurd (let h : [] ≡ before.first ∷ before.others = sym none ∙ before.some in cc)
    go (inr end) = (subst (λ (l : List Text). AreRows exact start rows l) (sym end.all) begun.stated, end.last)

-- Where a listing is begun and the text has ended, no line is wrong.
pub all_right : (text : Text) (rows : List Row) (place : Place) → Begun text rows place → place.rest ≡ []
    → AreRight (text_lines text) (length (text_lines text))
all_right text rows place begun none =
    right_so_far rows (text_lines text) [] (text_lines text) (sym (append-nil (text_lines text))) (text_plain text) begun.run
    (all_stated text rows place begun none).0 begun.fit

-- A text in which no line is wrong, but after which a listing may not end, is refused at its last line.
pub missing_here : (text : Text) (rows : List Row) (place : Place) → Begun text rows place → place.rest ≡ []
    → may_end (state_after start rows) ≡ false → IsRefusedAt text (wrong_line place) 1 BadText
missing_here text rows place begun none unfinished =
    let (stated, last) = all_stated text rows place begun none in
    inr (
      last,
      refl,
      refl,
      all_right text rows place begun none,
      λ shape.
          let listed = subst (λ (l : List Line). SpellsLines loose l text) (listing_is shape.parts) shape.listed in
          let same = one_rows start (rows_of shape.parts) rows (text_lines text) (rows_in_text loose start (rows_of shape.parts) text listed)
          (rows_loosely exact start rows (text_lines text) stated) in
          let both : true ≡ false = sym (listing_ends shape.parts) ∙ ap (λ l. may_end (state_after start l)) same ∙ unfinished in
          cc,
    )

-- A text of which all lines are read is the listing of the parts that state the same rows.
pub listed_here : (text : Text) (rows : List Row) (place : Place) (m : Parts) → Begun text rows place → place.rest ≡ [] → rows_of m ≡ rows
    → SpellsLines exact (listing_lines m) text
listed_here text rows place m begun none same =
    let stated = (all_stated text rows place begun none).0 in
    subst (λ (l : List Line). SpellsLines exact l text) (sym (listing_is m))
    (text_of_rows exact start (rows_of m) text (subst (λ (l : List Row). AreRows exact start l (text_lines text)) (sym same) stated))
