-- The rows that the lines of a text state.
use Rattle.std.proofs.Common.{◌≡◌, ℕ, ◌+◌, ◌<◌, Bool, true, false, List, [], ◌∷◌, ◌++◌, length, flat_map, refl, sym, ap, subst}
use Rattle.std.proofs.Common.{◌∙◌, inl, inr, ◌⊎◌, append_assoc, append-nil, arith}
use Rattle.std.specs.List.{AllByRecursion}
use Rattle.mufom_text.specs.Words.{Text, line}
use Rattle.mufom_build_text.specs.Pieces.{Reading, exact, loose, Spells, AreSpaces}
use Rattle.mufom_build_text.specs.Places.{AreBlank, SpellsLines}
use Rattle.mufom_build_text.specs.Loosely.{Avoids}
use Rattle.mufom_build_text.proofs.FirstBytes.{one_run}
use Rattle.mufom_build.specs.Lines.{Line}
use Rattle.mufom_build.specs.Refusals.{text_lines}
use Rattle.mufom_build.specs.Rows.{Row}
use Rattle.mufom_build.specs.Order.{State, next, state_after, row_pieces, lines_from, AreInOrder}
use Rattle.mufom_build.specs.Begun.{IsPlain, SpellsLine, AreRows}
use Rattle.mufom_build.proofs.TextLines.{NoFeed, IsDark, all_joined, all_split, spaces_plain, spaces_blank, blank_spaces, end_avoids_plain, last_text}
use Rattle.mufom_build.proofs.TextLines.{line_before, whole_line, flat_lines, cut, cut_lines, first_blank, loose_pieces, loosely, blank_first, line_ended}
use Rattle.mufom_build.proofs.RowLines.{row_plain, row_dark, row_once}

-- ---- rows one after another

pub run_split : (s : State) (rows more : List Row) → AreInOrder s (rows ++ more) → AreInOrder s rows × AreInOrder (state_after s rows) more
run_split s [] more run = (tt, run)
run_split s (r ∷ rows) more (may, few, run) = let (a, b) = run_split (next s r) rows more run in ((may, few, a), b)

pub run_joined : (s : State) (rows more : List Row) → AreInOrder s rows → AreInOrder (state_after s rows) more → AreInOrder s (rows ++ more)
run_joined s [] more run others = others
run_joined s (r ∷ rows) more (may, few, run) others = (may, few, run_joined (next s r) rows more run others)

pub lines_joined : (s : State) (rows more : List Row) → lines_from s (rows ++ more) ≡ lines_from s rows ++ lines_from (state_after s rows) more
lines_joined s [] more = refl
lines_joined s (r ∷ rows) more = ap (λ l. row_pieces s r ∷ l) (lines_joined (next s r) rows more)

pub states_joined : (s : State) (rows more : List Row) → state_after s (rows ++ more) ≡ state_after (state_after s rows) more
states_joined s [] more = refl
states_joined s (r ∷ rows) more = states_joined (next s r) rows more

pub rows_joined : (reading : Reading) (s : State) (rows more : List Row) (xs ys : List Text) → AreRows reading s rows xs
    → AreRows reading (state_after s rows) more ys → AreRows reading s (rows ++ more) (xs ++ ys)
rows_joined reading s rows more [] ys none others =
    subst (λ (l : List Row). AreRows reading s (l ++ more) ys) (sym none)
    (subst (λ (l : List Row). AreRows reading (state_after s l) more ys) none others)
rows_joined reading s rows more (x ∷ xs) ys (inl (spaces, stated)) others = inl (spaces, rows_joined reading s rows more xs ys stated others)
rows_joined reading s rows more (x ∷ xs) ys (inr (r, rest, is, spelled, stated)) others =
    let after = subst (λ (l : List Row). AreRows reading (state_after s l) more ys) is others in
    inr (r, rest ++ more, ap (λ l. l ++ more) is, spelled, rows_joined reading (next s r) rest more xs ys stated after)

-- the rows of some lines, and of those that follow
pub record AreParted (reading : Reading) (s : State) (rows : List Row) (xs ys : List Text) : Type 0 where
  pub first : List Row
  pub later : List Row
  pub is : rows ≡ first ++ later
  pub stated : AreRows reading s first xs
  pub others : AreRows reading (state_after s first) later ys

pub rows_parted : (reading : Reading) (s : State) (rows : List Row) (xs ys : List Text) → AreRows reading s rows (xs ++ ys)
    → AreParted reading s rows xs ys
rows_parted reading s rows [] ys stated = record { first = []; later = rows; is = refl; stated = refl; others = stated }
rows_parted reading s rows (x ∷ xs) ys (inl (spaces, stated)) =
    let p = rows_parted reading s rows xs ys stated in
    record { first = p.first; later = p.later; is = p.is; stated = inl (spaces, p.stated); others = p.others }
rows_parted reading s rows (x ∷ xs) ys (inr (r, rest, is, spelled, stated)) =
    let p = rows_parted reading (next s r) rest xs ys stated in
    record {
      first = r ∷ p.first;
      later = p.later;
      is = is ∙ ap (λ l. r ∷ l) p.is;
      stated = inr (r, p.first, refl, spelled, p.stated);
      others = p.others;
    }

pub line_loosely : (reading : Reading) (pieces : Line) (text : Text) → SpellsLine reading pieces text → SpellsLine loose pieces text
line_loosely reading pieces text (before, body, after, is, spaces, spelled, others) =
    (before, body, after, is, spaces, loosely reading pieces body spelled, others)

pub rows_loosely : (reading : Reading) (s : State) (rows : List Row) (texts : List Text) → AreRows reading s rows texts → AreRows loose s rows texts
rows_loosely reading s rows [] none = none
rows_loosely reading s rows (x ∷ texts) (inl (spaces, stated)) = inl (spaces, rows_loosely reading s rows texts stated)
rows_loosely reading s rows (x ∷ texts) (inr (r, rest, is, spelled, stated)) =
    inr (r, rest, is, line_loosely reading (row_pieces s r) x spelled, rows_loosely reading (next s r) rest texts stated)

-- ---- one line states one row

-- a text of spaces alone is no line
pub no_row : (s : State) (r : Row) (text : Text) → SpellsLine loose (row_pieces s r) text → AreSpaces text → ⊥
no_row s r text (before, body, after, is, spaces, spelled, others) all =
    let (first, more, e, dark) = row_dark s r body spelled in
    let inside : AreSpaces (before ++ (body ++ after)) = subst (λ (l : Text). AreSpaces l) is all in
    let rest : AreSpaces (body ++ after) = (all_split (λ b. b ≡ 32) before (body ++ after) inside).1 in
    let here : AreSpaces (first ∷ (more ++ after)) = subst (λ (l : Text). AreSpaces l) (ap (λ l. l ++ after) e) rest in
    dark (inl here.0)

-- the body of a line begins with no space
pub body_avoids_space : (s : State) (r : Row) (body more : Text) → Spells loose (row_pieces s r) body → Avoids (λ b. b ≡ 32) (body ++ more)
body_avoids_space s r body more spelled = λ b rest is space.
    let (first, others, e, dark) = row_dark s r body spelled in
    let h : first ∷ (others ++ more) ≡ b ∷ rest = ap (λ l. l ++ more) (sym e) ∙ is in
    let same : first ≡ b = cc in
    dark (inl (same ∙ space))

pub one_line : (s : State) (r q : Row) (text : Text) → SpellsLine loose (row_pieces s r) text → SpellsLine loose (row_pieces s q) text → r ≡ q
one_line s r q text (before, body, after, is, spaces, spelled, others) (front, inner, back, e, leading, too, trailing) =
    let (same, rest) = one_run (λ b. b ≡ 32) before front (body ++ after) (inner ++ back) spaces leading (sym is ∙ e)
    (body_avoids_space s r body after spelled) (body_avoids_space s q inner back too) in
    row_once s r q body inner after back spelled too others trailing rest

-- The same lines state the same rows.
pub one_rows : (s : State) (rows others : List Row) (texts : List Text) → AreRows loose s rows texts → AreRows loose s others texts → rows ≡ others
one_rows s rows others [] p q = p ∙ sym q
one_rows s rows others (x ∷ texts) (inl (spaces, p)) (inl (too, q)) = one_rows s rows others texts p q
one_rows s rows others (x ∷ texts) (inl (spaces, p)) (inr (r, rest, is, spelled, q)) = absurd (no_row s r x spelled spaces)
one_rows s rows others (x ∷ texts) (inr (r, rest, is, spelled, p)) (inl (spaces, q)) = absurd (no_row s r x spelled spaces)
one_rows s rows others (x ∷ texts) (inr (r, rest, is, spelled, p)) (inr (q, more, e, too, others_stated)) =
    let same = one_line s r q x spelled too in
    let there = subst (λ (z : Row). AreRows loose (next s z) more texts) (sym same) others_stated in
    is ∙ ap (λ l. r ∷ l) (one_rows (next s r) rest more texts p there) ∙ ap (λ z. z ∷ more) same ∙ sym e

-- ---- the rows of the lines of a text

-- the first of some rows is in the first of the lines that is not blank
first_row : (reading : Reading) (s : State) (r : Row) (rows : List Row) (x : Text) (texts : List Text) → IsPlain x
    → (before body after rest : Text) → flat_map line (x ∷ texts) ≡ before ++ (body ++ (after ++ rest)) → AreBlank before
    → Spells reading (row_pieces s r) body → AreSpaces after
    → ((rest ≡ []) × (lines_from (next s r) rows ≡ []))
    ⊎ ((more : Text) × (rest ≡ 10 ∷ more) × SpellsLines reading (lines_from (next s r) rows) more)
    → ((b : Text) → SpellsLines reading (lines_from s (r ∷ rows)) b → b ≡ flat_map line texts → AreRows reading s (r ∷ rows) texts)
    → ((b : Text) → SpellsLines reading (lines_from (next s r) rows) b → b ≡ flat_map line texts → AreRows reading (next s r) rows texts)
    → AreSpaces before ⊎ ((front : Text) × (back : Text) × (before ≡ front ++ 10 ∷ back) × AreSpaces front × AreBlank back)
    → AreRows reading s (r ∷ rows) (x ∷ texts)
first_row reading s r rows x texts plain before body after rest is blank spelled spaces end later others (inl leading) =
    let inside = all_joined NoFeed before (body ++ after) (spaces_plain before leading) (all_joined NoFeed body after
    (row_plain s r body (loosely reading (row_pieces s r) body spelled)) (spaces_plain after spaces)) in
    let all : x ++ (10 ∷ flat_map line texts) ≡ (before ++ (body ++ after)) ++ rest =
    sym (whole_line x texts) ∙ is ∙ ap (λ l. before ++ l) (sym (append_assoc body after rest)) ∙ sym (append_assoc before (body ++ after) rest) in
    let (same, feed) = one_run NoFeed x (before ++ (body ++ after)) (10 ∷ flat_map line texts) rest plain inside all
    (end_avoids_plain (10 ∷ flat_map line texts) (inr (flat_map line texts, refl))) (end_avoids_plain rest (ends end)) in
    go end feed same
  where
    Ending : Type 0
    Ending = ((rest ≡ []) × (lines_from (next s r) rows ≡ []))
        ⊎ ((more : Text) × (rest ≡ 10 ∷ more) × SpellsLines reading (lines_from (next s r) rows) more)

    ends : ((rest ≡ []) × (lines_from (next s r) rows ≡ []))
        ⊎ ((more : Text) × (rest ≡ 10 ∷ more) × SpellsLines reading (lines_from (next s r) rows) more)
        → (rest ≡ []) ⊎ ((more : Text) × (rest ≡ 10 ∷ more))
    ends (inl (e, none)) = inl e
    ends (inr (more, e, spelled_more)) = inr (more, e)

    go : ((rest ≡ []) × (lines_from (next s r) rows ≡ []))
        ⊎ ((more : Text) × (rest ≡ 10 ∷ more) × SpellsLines reading (lines_from (next s r) rows) more)
        → 10 ∷ flat_map line texts ≡ rest → x ≡ before ++ (body ++ after) → AreRows reading s (r ∷ rows) (x ∷ texts)
    go (inl (e, none)) feed same = absurd (let h : 10 ∷ flat_map line texts ≡ [] = feed ∙ e in cc)
    go (inr (more, e, spelled_more)) feed same =
        let h : 10 ∷ flat_map line texts ≡ 10 ∷ more = feed ∙ e in
        let left : flat_map line texts ≡ more = cc in
        inr (r, rows, refl, (before, body, after, same, leading, spelled, spaces), others more spelled_more (sym left))
first_row reading s r rows x texts plain before body after rest is blank spelled spaces end later others (inr (front, back, e, leading, more)) =
    let all : x ++ (10 ∷ flat_map line texts) ≡ front ++ (10 ∷ (back ++ (body ++ (after ++ rest)))) =
    sym (whole_line x texts) ∙ is ∙ ap (λ l. l ++ (body ++ (after ++ rest))) e ∙ append_assoc front (10 ∷ back) (body ++ (after ++ rest)) in
    let (same, feed) = one_run NoFeed x front (10 ∷ flat_map line texts) (10 ∷ (back ++ (body ++ (after ++ rest)))) plain
    (spaces_plain front leading) all (end_avoids_plain _ (inr (flat_map line texts, refl))) (end_avoids_plain _ (inr (_, refl))) in
    let left : flat_map line texts ≡ back ++ (body ++ (after ++ rest)) = cc in
    inl (
      subst (λ (l : Text). AreSpaces l) (sym same) leading,
      later (flat_map line texts) (back, body, after, rest, left, more, spelled, spaces, end) refl,
    )

pub rows_in_lines : (reading : Reading) (s : State) (rows : List Row) (texts : List Text) → AllByRecursion IsPlain texts → (text : Text)
    → SpellsLines reading (lines_from s rows) text → text ≡ flat_map line texts → AreRows reading s rows texts
rows_in_lines reading s [] [] plain text blank is = refl
rows_in_lines reading s (r ∷ rows) [] plain text (before, body, after, rest, e, blank, spelled, spaces, end) is =
    let (first, more, f, dark) = row_dark s r body (loosely reading (row_pieces s r) body spelled) in
    let all : before ++ (body ++ (after ++ rest)) ≡ [] = sym e ∙ is in
    let none : body ++ (after ++ rest) ≡ [] = no_rest before _ all in
    let h : first ∷ (more ++ (after ++ rest)) ≡ [] = ap (λ l. l ++ (after ++ rest)) (sym f) ∙ none in
    absurd cc
  where
    no_rest : (s t : Text) → s ++ t ≡ [] → t ≡ []
    no_rest [] t e = e
    no_rest (x ∷ s) t e = cc
rows_in_lines reading s [] (x ∷ texts) (here, plain) text blank is =
    let all : AreBlank (x ++ (10 ∷ flat_map line texts)) = subst (λ (l : Text). AreBlank l) (is ∙ whole_line x texts) blank in
    let (first, rest) = all_split (λ b. (b ≡ 32) ⊎ (b ≡ 10)) x (10 ∷ flat_map line texts) all in
    inl (blank_spaces x first here, rows_in_lines reading s [] texts plain (flat_map line texts) rest.1 refl)
rows_in_lines reading s (r ∷ rows) (x ∷ texts) (here, plain) text (before, body, after, rest, e, blank, spelled, spaces, end) is =
    first_row reading s r rows x texts here before body after rest (sym is ∙ e) blank spelled spaces end
    (λ b lines same. rows_in_lines reading s (r ∷ rows) texts plain b lines same)
    (λ b lines same. rows_in_lines reading (next s r) rows texts plain b lines same) (first_blank before blank)

-- The lines of a text that states the lines of rows state the rows.
pub rows_in_text : (reading : Reading) (s : State) (rows : List Row) (text : Text) → SpellsLines reading (lines_from s rows) text
    → AreRows reading s rows (text_lines text)
rows_in_text reading s rows text spelled =
    let c = cut text in
    subst (λ (l : List Text). AreRows reading s rows l) (sym (cut_lines text c)) (go c.texts c.tail c.plain c.plain_tail c.is)
  where
    go : (texts : List Text) (tail : Text) → AllByRecursion IsPlain texts → IsPlain tail → text ≡ flat_map line texts ++ tail
        → AreRows reading s rows (texts ++ last_text tail)
    go texts [] plain plain_tail is = subst (λ (l : List Text). AreRows reading s rows l) (sym (append-nil texts))
        (rows_in_lines reading s rows texts plain text spelled (is ∙ append-nil (flat_map line texts)))
    go texts (b ∷ tail) plain plain_tail is =
        rows_in_lines reading s rows (texts ++ (b ∷ tail) ∷ []) (plain_more texts plain) (text ++ 10 ∷ [])
        (line_ended reading (lines_from s rows) text spelled)
        (ap (λ l. l ++ 10 ∷ []) is ∙ append_assoc (flat_map line texts) (b ∷ tail) (10 ∷ [])
        ∙ ap (λ l. flat_map line texts ++ l) (sym (append-nil ((b ∷ tail) ++ 10 ∷ []))) ∙ sym (flat_lines texts ((b ∷ tail) ∷ [])))
      where
        plain_more : (xs : List Text) → AllByRecursion IsPlain xs → AllByRecursion IsPlain (xs ++ (b ∷ tail) ∷ [])
        plain_more [] all = (plain_tail, tt)
        plain_more (x ∷ xs) (here, all) = (here, plain_more xs all)

-- ---- back

-- some lines that state rows, and a last one that no line feed ends
pub rows_out : (reading : Reading) (s : State) (rows : List Row) (texts : List Text) (tail : Text) → AreRows reading s rows (texts ++ last_text tail)
    → SpellsLines reading (lines_from s rows) (flat_map line texts ++ tail)
rows_out reading s rows [] [] none = subst (λ (l : List Row). SpellsLines reading (lines_from s l) []) (sym none) tt
rows_out reading s rows [] (b ∷ tail) (inl (spaces, none)) =
    subst (λ (l : List Row). SpellsLines reading (lines_from s l) (b ∷ tail)) (sym none) (spaces_blank (b ∷ tail) spaces)
rows_out reading s rows [] (b ∷ tail) (inr (r, rest, is, (before, body, after, e, spaces, spelled, others), none)) =
    subst (λ (l : List Row). SpellsLines reading (lines_from s l) (b ∷ tail)) (sym is) (
      before,
      body,
      after,
      [],
      e ∙ ap (λ l. before ++ (body ++ l)) (sym (append-nil after)),
      spaces_blank before spaces,
      spelled,
      others,
      inl (refl, ap (λ l. lines_from (next s r) l) none),
    )
rows_out reading s rows (x ∷ texts) tail (inl (spaces, stated)) =
    subst (λ (l : Text). SpellsLines reading (lines_from s rows) l) (sym (line_before x texts tail))
    (blank_first reading (lines_from s rows) x (10 ∷ (flat_map line texts ++ tail)) (spaces_blank x spaces)
    (blank_first reading (lines_from s rows) (10 ∷ []) (flat_map line texts ++ tail) (inr refl, tt) (rows_out reading s rows texts tail stated)))
rows_out reading s rows (x ∷ texts) tail (inr (r, rest, is, (before, body, after, e, spaces, spelled, others), stated)) =
    subst (λ (l : List Row). SpellsLines reading (lines_from s l) (flat_map line (x ∷ texts) ++ tail)) (sym is) (
      before,
      body,
      after,
      10 ∷ (flat_map line texts ++ tail),
      line_before x texts tail ∙ ap (λ l. l ++ (10 ∷ (flat_map line texts ++ tail))) e
          ∙ append_assoc before (body ++ after) (10 ∷ (flat_map line texts ++ tail))
          ∙ ap (λ l. before ++ l) (append_assoc body after (10 ∷ (flat_map line texts ++ tail))),
      spaces_blank before spaces,
      spelled,
      others,
      inr (flat_map line texts ++ tail, refl, rows_out reading (next s r) rest texts tail stated),
    )

-- lines that state rows spell the lines of these
pub lines_of_rows : (reading : Reading) (s : State) (rows : List Row) (texts : List Text) → AreRows reading s rows texts
    → SpellsLines reading (lines_from s rows) (flat_map line texts)
lines_of_rows reading s rows texts stated = subst (λ (l : Text). SpellsLines reading (lines_from s rows) l) (append-nil (flat_map line texts))
    (rows_out reading s rows texts [] (subst (λ (l : List Text). AreRows reading s rows l) (sym (append-nil texts)) stated))

-- a text whose lines state rows spells the lines of these
pub text_of_rows : (reading : Reading) (s : State) (rows : List Row) (text : Text) → AreRows reading s rows (text_lines text)
    → SpellsLines reading (lines_from s rows) text
text_of_rows reading s rows text stated =
    let c = cut text in
    subst (λ (l : Text). SpellsLines reading (lines_from s rows) l) (sym c.is)
    (rows_out reading s rows c.texts c.tail (subst (λ (l : List Text). AreRows reading s rows l) (cut_lines text c) stated))
