-- The lines that begin a listing are those of rows that run from the start.
use Rattle.std.proofs.Common.{◌≡◌, ℕ, suc, zero, ◌+◌, ◌<◌, ◌≤◌, Bool, true, false, List, [], ◌∷◌, ◌++◌, length, take, drop, flat_map, refl, sym, ap, subst}
use Rattle.std.proofs.Common.{◌∙◌, inl, inr, ◌⊎◌, append_assoc, append-nil, arith, length-append}
use Rattle.std.proofs.lemmas.List.{take-append-drop}
use Rattle.std.specs.List.{AllByRecursion}
use Rattle.mufom_text.specs.Words.{Text, line}
use Rattle.mufom_refusals.specs.declared.build.BuildReason.{BuildReason}
use Rattle.mufom_build_text.specs.Pieces.{Reading, exact, loose, Spells, AreSpaces}
use Rattle.mufom_build_text.specs.Places.{SpellsLines}
use Rattle.mufom_build_text.proofs.Spelling.{spells-append, spells-one}
use Rattle.mufom_build.specs.Lines.{Line, listing_lines}
use Rattle.mufom_build.specs.Refusals.{text_lines, AreBegun, HasError, HasErrorAt, BeginWell}
use Rattle.mufom_build.specs.Rows.{Row, rows_of}
use Rattle.mufom_build.specs.Order.{State, start, next, state_after, row_pieces, lines_from, AreInOrder}
use Rattle.mufom_build.specs.Begun.{IsPlain, SpellsLine, AreRows}
use Rattle.mufom_build.proofs.Completed.{listing_is, listing_runs, completed}
use Rattle.mufom_build.proofs.TextLines.{cut, cut_lines, last_text}
use Rattle.mufom_build.proofs.RowTexts.{run_split, lines_joined, rows_joined, AreParted, rows_parted, no_row, one_rows, rows_in_lines, lines_of_rows}

-- ---- lists

pub last_same : {X : Type 0} (xs ys : List X) (x y : X) → xs ++ x ∷ [] ≡ ys ++ y ∷ [] → (xs ≡ ys) × (x ≡ y)
last_same [] [] x y e = let same : x ≡ y = cc in (refl, same)
last_same [] (z ∷ []) x y e = let h : [] ≡ y ∷ [] = cc in absurd cc
last_same [] (z ∷ w ∷ ys) x y e = let h : [] ≡ w ∷ (ys ++ y ∷ []) = cc in absurd cc
last_same (z ∷ []) [] x y e = let h : x ∷ [] ≡ [] = cc in absurd cc
last_same (z ∷ w ∷ xs) [] x y e = let h : w ∷ (xs ++ x ∷ []) ≡ [] = cc in absurd cc
last_same (z ∷ xs) (w ∷ ys) x y e =
    let first : z ≡ w = cc in
    let others : xs ++ x ∷ [] ≡ ys ++ y ∷ [] = cc in
    let (same, last) = last_same xs ys x y others in
    (ap (λ l. z ∷ l) same ∙ ap (λ v. v ∷ ys) first, last)

pub take_front : {X : Type 0} (xs ys : List X) → take (length xs) (xs ++ ys) ≡ xs
take_front [] ys = refl
take_front (x ∷ xs) ys = ap (λ l. x ∷ l) (take_front xs ys)

pub take_next : {X : Type 0} (xs : List X) (x : X) (ys : List X) → take (length xs + 1) (xs ++ x ∷ ys) ≡ xs ++ x ∷ []
take_next xs x ys =
    let long : length (xs ++ x ∷ []) ≡ length xs + 1 = length-append xs (x ∷ []) in
    ap (λ n. take n (xs ++ x ∷ ys)) (sym long) ∙ ap (λ l. take (length (xs ++ x ∷ [])) l) (sym (append_assoc xs (x ∷ []) ys))
    ∙ take_front (xs ++ x ∷ []) ys

-- the first of some elements and of those before them
pub take_fewer : {X : Type 0} (n : ℕ) (xs ys : List X) → n ≤ length xs → take n (xs ++ ys) ≡ take n xs
take_fewer zero xs ys small = refl
take_fewer (suc n) [] ys small = absurd (let h : suc n ≤ 0 = small in omega (arith, h))
take_fewer (suc n) (x ∷ xs) ys small = let h : suc n ≤ suc (length xs) = small in
    ap (λ l. x ∷ l) (take_fewer n xs ys (omega (arith, h)))

pub plain_front : (xs ys : List Text) → AllByRecursion IsPlain (xs ++ ys) → AllByRecursion IsPlain xs
plain_front [] ys plain = tt
plain_front (x ∷ xs) ys (here, plain) = (here, plain_front xs ys plain)

pub plain_joined : (xs ys : List Text) → AllByRecursion IsPlain xs → AllByRecursion IsPlain ys → AllByRecursion IsPlain (xs ++ ys)
plain_joined [] ys plain others = others
plain_joined (x ∷ xs) ys (here, plain) others = (here, plain_joined xs ys plain others)

pub last_plain : (tail : Text) → IsPlain tail → AllByRecursion IsPlain (last_text tail)
last_plain [] plain = tt
last_plain (b ∷ tail) plain = (plain, tt)

-- no line of a text has an end of a line within
pub text_plain : (text : Text) → AllByRecursion IsPlain (text_lines text)
text_plain text = let c = cut text in
    subst (λ (l : List Text). AllByRecursion IsPlain l) (sym (cut_lines text c))
    (plain_joined c.texts (last_text c.tail) c.plain (last_plain c.tail c.plain_tail))

pub plain_first : (n : ℕ) (texts : List Text) → AllByRecursion IsPlain texts → AllByRecursion IsPlain (take n texts)
plain_first n texts plain = plain_front (take n texts) (drop n texts)
    (subst (λ (l : List Text). AllByRecursion IsPlain l) (sym (take-append-drop n texts)) plain)

-- ---- lines and rows

-- the first of the lines of rows are those of the first rows
pub record AreLinesOf (s : State) (rows : List Row) (lines rest : List Line) : Type 0 where
  pub first : List Row
  pub later : List Row
  pub is : rows ≡ first ++ later
  pub are : lines_from s first ≡ lines
  pub others : lines_from (state_after s first) later ≡ rest

pub lines_parted : (s : State) (rows : List Row) (lines rest : List Line) → lines_from s rows ≡ lines ++ rest → AreLinesOf s rows lines rest
lines_parted s rows [] rest e = record { first = []; later = rows; is = refl; are = refl; others = e }
lines_parted s [] (l ∷ lines) rest e = absurd (let h : [] ≡ l ∷ (lines ++ rest) = e in cc)
lines_parted s (r ∷ rows) (l ∷ lines) rest e =
    let here : row_pieces s r ≡ l = cc in
    let there : lines_from (next s r) rows ≡ lines ++ rest = cc in
    let p = lines_parted (next s r) rows lines rest there in
    record {
      first = r ∷ p.first;
      later = p.later;
      is = ap (λ k. r ∷ k) p.is;
      are = ap (λ k. row_pieces s r ∷ k) p.are ∙ ap (λ k. k ∷ lines) here;
      others = p.others;
    }

-- ---- texts that begin a listing

-- Rows that run from the start are stated by the texts, and these are their lines.
pub record AreBegunRows (texts : List Text) (lines : List Line) : Type 0 where
  pub rows : List Row
  pub run : AreInOrder start rows
  pub are : lines_from start rows ≡ lines
  pub stated : AreRows loose start rows texts

pub begun_rows : (texts : List Text) (lines : List Line) → AllByRecursion IsPlain texts → AreBegun texts lines → AreBegunRows texts lines
begun_rows texts lines plain begun =
    let p = lines_parted start (rows_of begun.parts) lines begun.rest (sym (listing_is begun.parts) ∙ begun.begin) in
    let run = subst (λ (l : List Row). AreInOrder start l) p.is (listing_runs begun.parts begun.few) in
    record {
      rows = p.first;
      run = (run_split start p.first p.later run).0;
      are = p.are;
      stated = rows_in_lines loose start p.first texts plain (flat_map line texts)
          (subst (λ (l : List Line). SpellsLines loose l (flat_map line texts)) (sym p.are) begun.listed) refl;
    }

pub rows_begun : (texts : List Text) (rows : List Row) → AreInOrder start rows → AreRows loose start rows texts → AreBegun texts (lines_from start rows)
rows_begun texts rows run stated =
    let (m, more, few, all, ends) = completed rows run in
    record {
      parts = m;
      rest = lines_from (state_after start rows) more;
      begin = listing_is m ∙ ap (λ l. lines_from start l) all ∙ lines_joined start rows more;
      listed = lines_of_rows loose start rows texts stated;
      few = few;
    }

-- the first of texts that begin a listing begin it too
pub fewer_begun : (texts more : List Text) (lines : List Line) → AllByRecursion IsPlain (texts ++ more) → AreBegun (texts ++ more) lines
    → (fewer : List Line) × AreBegun texts fewer
fewer_begun texts more lines plain begun =
    let b = begun_rows (texts ++ more) lines plain begun in
    let p = rows_parted loose start b.rows texts more b.stated in
    let run = (run_split start p.first p.later (subst (λ (l : List Row). AreInOrder start l) p.is b.run)).0 in
    (lines_from start p.first, rows_begun texts p.first run p.stated)

pub begins_well_before : (texts : List Text) (n m : ℕ) → AllByRecursion IsPlain texts → m ≤ n → BeginWell texts n → BeginWell texts m
begins_well_before texts n m plain small (lines, begun) =
    let all : take n texts ≡ take m (take n texts) ++ drop m (take n texts) = sym (take-append-drop m (take n texts)) in
    let whole = subst (λ (l : List Text). AreBegun l lines) all begun in
    let plain' = subst (λ (l : List Text). AllByRecursion IsPlain l) all (plain_first n texts plain) in
    let (fewer, first) = fewer_begun (take m (take n texts)) (drop m (take n texts)) lines plain' whole in
    (fewer, subst (λ (l : List Text). AreBegun l fewer) (take_take m n texts small) first)
  where
    take_take : (m n : ℕ) (xs : List Text) → m ≤ n → take m (take n xs) ≡ take m xs
    take_take zero n xs small = refl
    take_take (suc m) zero xs small = absurd (let h : suc m ≤ 0 = small in omega (arith, h))
    take_take (suc m) (suc n) [] small = refl
    take_take (suc m) (suc n) (x ∷ xs) small = let h : suc m ≤ suc n = small in ap (λ l. x ∷ l) (take_take m n xs (omega (arith, h)))

-- ---- the row of the last line

-- the last text states the last row
pub record IsLast (reading : Reading) (rows : List Row) (texts : List Text) (text : Text) : Type 0 where
  pub first : List Row
  pub row : Row
  pub is : rows ≡ first ++ row ∷ []
  pub stated : AreRows reading start first texts
  pub spelled : SpellsLine reading (row_pieces (state_after start first) row) text

pub last_stated : (reading : Reading) (rows : List Row) (texts : List Text) (text : Text) → (AreSpaces text → ⊥)
    → AreRows reading start rows (texts ++ text ∷ []) → IsLast reading rows texts text
last_stated reading rows texts text dark stated = let p = rows_parted reading start rows texts (text ∷ []) stated in go p p.others
  where
    go : (p : AreParted reading start rows texts (text ∷ [])) → AreRows reading (state_after start p.first) p.later (text ∷ [])
        → IsLast reading rows texts text
    go p (inl (spaces, none)) = absurd (dark spaces)
    go p (inr (r, rest, is, spelled, none)) = record {
      first = p.first;
      row = r;
      is = p.is ∙ ap (λ l. p.first ++ l) (is ∙ ap (λ l. r ∷ l) none);
      stated = p.stated;
      spelled = spelled;
    }

-- ---- the row of a line with an error

-- a text with an error is that of its pieces
pub error_line : (text : Text) (pieces : Line) (column : ℕ) (reason : BuildReason) → HasError text pieces column reason → SpellsLine loose pieces text
error_line text pieces column reason e = (
  e.before,
  e.front ++ (e.bytes ++ e.back),
  e.after,
  e.is ∙ ap (λ l. e.before ++ l) (ap (λ l. e.front ++ l) (sym (append_assoc e.bytes e.back e.after))
      ∙ sym (append_assoc e.front (e.bytes ++ e.back) e.after)),
  e.leading,
  subst (λ (l : Line). Spells loose l (e.front ++ (e.bytes ++ e.back))) (sym e.made_of)
      (spells-append loose e.earlier (e.piece ∷ e.later) e.front (e.bytes ++ e.back) e.spells_front
      (spells-append loose (e.piece ∷ []) e.later e.bytes e.back (spells-one loose e.piece e.bytes e.spells_piece) e.spells_back)),
  e.trailing,
)

-- The text at this position is that of a row, and has the error.
pub record IsErrorAt (texts : List Text) (position column : ℕ) (reason : BuildReason) : Type 0 where
  pub earlier : List Text
  pub text : Text
  pub begin : take (position + 1) texts ≡ earlier ++ text ∷ []
  pub rows : List Row
  pub row : Row
  pub run : AreInOrder start (rows ++ row ∷ [])
  pub stated : AreRows loose start rows earlier
  pub spelled : SpellsLine loose (row_pieces (state_after start rows) row) text
  pub wrong : HasError text (row_pieces (state_after start rows) row) column reason

pub error_of_row : (texts : List Text) (position column : ℕ) (reason : BuildReason) → AllByRecursion IsPlain texts
    → HasErrorAt texts position column reason → IsErrorAt texts position column reason
error_of_row texts position column reason plain e =
    let plain' = subst (λ (l : List Text). AllByRecursion IsPlain l) e.begin (plain_first (position + 1) texts plain) in
    let b = begun_rows (e.earlier ++ e.text ∷ []) (e.lines ++ e.pieces ∷ []) plain' e.begun in
    let p = lines_parted start b.rows e.lines (e.pieces ∷ []) b.are in
    go b p p.later p.is p.others
  where
    go : (b : AreBegunRows (e.earlier ++ e.text ∷ []) (e.lines ++ e.pieces ∷ [])) (p : AreLinesOf start b.rows e.lines (e.pieces ∷ []))
        (later : List Row) → b.rows ≡ p.first ++ later → lines_from (state_after start p.first) later ≡ e.pieces ∷ []
        → IsErrorAt texts position column reason
    go b p [] is are = absurd (let h : [] ≡ e.pieces ∷ [] = are in cc)
    go b p (r ∷ q ∷ later) is are = absurd (let h : lines_from (next (state_after start p.first) r) (q ∷ later) ≡ [] = cc in cc)
    go b p (r ∷ []) is are =
        let pieces_are : row_pieces (state_after start p.first) r ≡ e.pieces = cc in
        let wrong = subst (λ (l : Line). HasError e.text l column reason) (sym pieces_are) e.wrong in
        let spelled = error_line e.text (row_pieces (state_after start p.first) r) column reason wrong in
        let last = last_stated loose b.rows e.earlier e.text (λ spaces. no_row (state_after start p.first) r e.text spelled spaces) b.stated in
        let (same, others) = last_same p.first last.first r last.row (sym is ∙ last.is) in
        record {
          earlier = e.earlier;
          text = e.text;
          begin = e.begin;
          rows = p.first;
          row = r;
          run = subst (λ (l : List Row). AreInOrder start l) is b.run;
          stated = subst (λ (l : List Row). AreRows loose start l e.earlier) (sym same) last.stated;
          spelled = spelled;
          wrong = wrong;
        }
