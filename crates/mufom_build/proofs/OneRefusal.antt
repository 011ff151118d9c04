-- A text is refused at one place at most, and for one reason.
use Rattle.std.proofs.Common.{◌≡◌, ℕ, suc, ◌+◌, ◌<◌, ◌≤◌, ◌&&◌, nat_lt, nat_le, Bool, true, false, List, [], ◌∷◌, ◌++◌, length, take, Some, None, refl, sym, ap}
use Rattle.std.proofs.Common.{subst, ◌∙◌, inl, inr, ◌⊎◌, append_assoc, append-nil, arith, if◌then◌else◌, length-append}
use Rattle.std.specs.List.{AllByRecursion}
use Rattle.mufom_text.specs.Words.{Text}
use Rattle.mufom_refusals.specs.declared.build.BuildReason.{BuildReason}
use Rattle.mufom_refusals.specs.declared.build.BuildReason.TheVariants.{Deep, TooLong}
use Rattle.mufom_build_text.specs.Pieces.{Piece, byte, gap, figure, position, count, name, digits, expression, block, exact, loose, Spells, SpellsPiece}
use Rattle.mufom_build_text.specs.Pieces.{AreSpaces}
use Rattle.mufom_build_text.specs.Errors.{piece_error}
use Rattle.mufom_build_text.proofs.FirstBytes.{no, both_true, one_run}
use Rattle.mufom_build_text.proofs.Spelling.{spells-one}
use Rattle.mufom_build.specs.Lines.{Line, Shape}
use Rattle.mufom_build.specs.Refusals.{text_lines, AreBegun, HasError, HasErrorAt, BeginWell, AreRight, IsWrongAt, IsRefusedAt}
use Rattle.mufom_build.specs.Rows.{Row}
use Rattle.mufom_build.specs.Order.{State, start, state_after, row_pieces, lines_from, AreInOrder}
use Rattle.mufom_build.specs.Begun.{IsPlain, SpellsLine, AreRows}
use Rattle.mufom_build.proofs.Certain.{certain, apart, begins_byte, IsTail, tail_more, one_piece, one_front, same_front, same_rest, certain_later}
use Rattle.mufom_build.proofs.CertainLines.{row_certain, row_apart}
use Rattle.mufom_build.proofs.RowTexts.{body_avoids_space, one_line, one_rows}
use Rattle.mufom_build.proofs.BegunRows.{last_same, text_plain, begins_well_before, IsErrorAt, error_of_row}
use Rattle.mufom_build.proofs.Rightly.{back_tail, spells_parted}
use Rattle.mufom_build.proofs.BegunHere.{error_avoids}

-- ---- two errors of one line

-- two pieces of one line are one, or one of them is before the other
abbrev IsOrdered : List Piece → Piece → List Piece → List Piece → Piece → List Piece → Type 0
IsOrdered xs x more ys y others = ((xs ≡ ys) × (x ≡ y) × (more ≡ others)) ⊎ (((middle : List Piece) × (ys ≡ xs ++ x ∷ middle)
    × (more ≡ middle ++ y ∷ others)) ⊎ ((middle : List Piece) × (xs ≡ ys ++ y ∷ middle) × (others ≡ middle ++ x ∷ more)))

ordered : (xs : List Piece) (x : Piece) (more ys : List Piece) (y : Piece) (others : List Piece) → xs ++ x ∷ more ≡ ys ++ y ∷ others
    → IsOrdered xs x more ys y others
ordered [] x more [] y others e = let first : x ≡ y = cc in let rest : more ≡ others = cc in inl (refl, first, rest)
ordered [] x more (z ∷ ys) y others e =
    let first : x ≡ z = cc in
    let rest : more ≡ ys ++ y ∷ others = cc in
    inr (inl (ys, ap (λ w. w ∷ ys) (sym first), rest))
ordered (z ∷ xs) x more [] y others e =
    let first : z ≡ y = cc in
    let rest : xs ++ x ∷ more ≡ others = cc in
    inr (inr (xs, ap (λ w. w ∷ xs) first, sym rest))
ordered (z ∷ xs) x more (w ∷ ys) y others e =
    let first : z ≡ w = cc in
    let rest : xs ++ x ∷ more ≡ ys ++ y ∷ others = cc in
    go first (ordered xs x more ys y others rest)
  where
    go : z ≡ w → IsOrdered xs x more ys y others → IsOrdered (z ∷ xs) x more (w ∷ ys) y others
    go first (inl (same, e, f)) = inl (ap (λ l. z ∷ l) same ∙ ap (λ v. v ∷ ys) first, e, f)
    go first (inr (inl (middle, e, f))) = inr (inl (middle, ap (λ l. w ∷ l) e ∙ ap (λ v. v ∷ (xs ++ x ∷ middle)) (sym first), f))
    go first (inr (inr (middle, e, f))) = inr (inr (middle, ap (λ l. z ∷ l) e ∙ ap (λ v. v ∷ (ys ++ y ∷ middle)) first, f))

-- a piece of no bytes with an error is before a byte of its own
empty_error : (piece : Piece) (more : List Piece) (reason : BuildReason) → SpellsPiece loose piece [] → piece_error piece [] ≡ Some reason
    → apart (piece ∷ more) ≡ true → begins_byte more ≡ true
empty_error (byte v) more reason spelled error h = absurd (let k : [] ≡ v ∷ [] = spelled in cc)
empty_error gap more reason spelled error h = absurd (let k : 0 < 0 = spelled.0 in omega (arith, k))
empty_error (figure most n) more reason spelled error h = absurd (let k : 0 < 0 = spelled.0.0 in omega (arith, k))
empty_error (position n) more reason spelled error h = absurd (let k : 0 < 0 = spelled.0 in omega (arith, k))
empty_error (count n) more reason spelled error h = absurd (let k : 0 < 0 = spelled.0 in omega (arith, k))
empty_error (name bytes) more reason spelled error h = absurd (let k : None ≡ Some reason = error in cc)
empty_error (digits bytes) more reason spelled error h = absurd (let k : None ≡ Some reason = error in cc)
empty_error (expression n) more reason spelled error h =
    go (nat_lt 255 n) (nat_le n 255) refl refl error (both_true (if nat_le n 255 then true else begins_byte more) (apart more) h).0
  where
    go : (a b : Bool) → nat_lt 255 n ≡ a → nat_le n 255 ≡ b → (if a then Some TooLong else None) ≡ Some reason
        → (if b then true else begins_byte more) ≡ true → begins_byte more ≡ true
    go false b e f error k = absurd (let z : None ≡ Some reason = error in cc)
    go true true e f error k = absurd (let great : 255 < n = grind arith in let small : n ≤ 255 = grind arith in omega (arith, great, small))
    go true false e f error k = k
empty_error (block n) more reason spelled error h = (both_true (begins_byte more) (apart more) h).0

apart_later : (xs ys : List Piece) → apart (xs ++ ys) ≡ true → apart ys ≡ true
apart_later [] ys h = h
apart_later (byte v ∷ xs) ys h = apart_later xs ys h
apart_later (gap ∷ xs) ys h = apart_later xs ys h
apart_later (figure most n ∷ xs) ys h = apart_later xs ys h
apart_later (position n ∷ xs) ys h = apart_later xs ys h
apart_later (count n ∷ xs) ys h = apart_later xs ys h
apart_later (name bytes ∷ xs) ys h = apart_later xs ys h
apart_later (digits bytes ∷ xs) ys h = apart_later xs ys h
apart_later (expression n ∷ xs) ys h =
    apart_later xs ys (both_true (if nat_le n 255 then true else begins_byte (xs ++ ys)) (apart (xs ++ ys)) h).1
apart_later (block n ∷ xs) ys h = apart_later xs ys (both_true (begins_byte (xs ++ ys)) (apart (xs ++ ys)) h).1

-- a byte is no nothing, and has no error
byte_between : (middle : List Piece) (piece : Piece) (more : List Piece) (bytes : Text) (reason : BuildReason) → Spells loose middle []
    → begins_byte (middle ++ piece ∷ more) ≡ true → piece_error piece bytes ≡ Some reason → ⊥
byte_between [] (byte v) more bytes reason spelled h error = let k : None ≡ Some reason = error in cc
byte_between [] gap more bytes reason spelled h error = no h
byte_between [] (figure most n) more bytes reason spelled h error = no h
byte_between [] (position n) more bytes reason spelled h error = no h
byte_between [] (count n) more bytes reason spelled h error = no h
byte_between [] (name title) more bytes reason spelled h error = no h
byte_between [] (digits inside) more bytes reason spelled h error = no h
byte_between [] (expression n) more bytes reason spelled h error = no h
byte_between [] (block n) more bytes reason spelled h error = no h
byte_between (byte v ∷ middle) piece more bytes reason (first, rest, e, f, others) h error =
    let k : [] ≡ v ∷ rest = e ∙ ap (λ l. l ++ rest) f in cc
byte_between (gap ∷ middle) piece more bytes reason spelled h error = no h
byte_between (figure most n ∷ middle) piece more bytes reason spelled h error = no h
byte_between (position n ∷ middle) piece more bytes reason spelled h error = no h
byte_between (count n ∷ middle) piece more bytes reason spelled h error = no h
byte_between (name title ∷ middle) piece more bytes reason spelled h error = no h
byte_between (digits inside ∷ middle) piece more bytes reason spelled h error = no h
byte_between (expression n ∷ middle) piece more bytes reason spelled h error = no h
byte_between (block n ∷ middle) piece more bytes reason spelled h error = no h

empty_text : (s : Text) → length s ≡ 0 → s ≡ []
empty_text [] e = refl
empty_text (b ∷ s) e = absurd (omega (arith, e))

no_front : (s t : Text) → s ++ t ≡ [] → (s ≡ []) × (t ≡ [])
no_front [] t e = (refl, e)
no_front (b ∷ s) t e = absurd cc

-- of two pieces with errors none is behind the other, where as many bytes are before them
not_before : (pieces earlier : List Piece) (piece : Piece) (later middle : List Piece) (other : Piece) (more : List Piece)
    (front bytes back after begin found rest : Text) (reason kind : BuildReason) → certain pieces ≡ true → apart pieces ≡ true
    → pieces ≡ earlier ++ piece ∷ later → later ≡ middle ++ other ∷ more → Spells loose earlier front → SpellsPiece loose piece bytes
    → Spells loose later back → AreSpaces after → piece_error piece bytes ≡ Some reason → Spells loose (earlier ++ piece ∷ middle) begin
    → IsTail (other ∷ more) rest → front ++ (bytes ++ (back ++ after)) ≡ begin ++ rest → length front ≡ length begin
    → piece_error other found ≡ Some kind → ⊥
not_before pieces earlier piece later middle other more front bytes back after begin found rest reason kind certain_is apart_is made of spells_front
    spells_piece spells_back spaces error spells_begin tail all same wrong =
    let (first, inside, e, first_spelled, (one, between, f, one_spelled, between_spelled)) =
    spells_parted loose earlier (piece ∷ middle) begin spells_begin in
    let certain_here = subst (λ (l : List Piece). certain l ≡ true) made certain_is in
    let between_tail = subst (λ (l : List Piece). IsTail l (between ++ rest)) (sym of) (tail_more middle (other ∷ more) between rest between_spelled
    tail) in
    let inside_tail = subst (λ (l : Text). IsTail (piece ∷ later) l) (sym (append_assoc one between rest) ∙ ap (λ l. l ++ rest) (sym f))
    (tail_more (piece ∷ []) later one (between ++ rest) (spells-one loose piece one one_spelled) between_tail) in
    let back_there = back_tail later back after spells_back spaces in
    let front_tail = tail_more (piece ∷ []) later bytes (back ++ after) (spells-one loose piece bytes spells_piece) back_there in
    let whole : front ++ (bytes ++ (back ++ after)) ≡ first ++ (inside ++ rest) =
    all ∙ ap (λ l. l ++ rest) e ∙ append_assoc first inside rest in
    let fronts = one_front earlier (piece ∷ later) front first (bytes ++ (back ++ after)) (inside ++ rest) certain_here spells_front first_spelled
    front_tail inside_tail whole in
    let begin_long : length begin ≡ length first + length inside = ap length e ∙ length-append first inside in
    let front_long : length front ≡ length first = ap length fronts in
    let none : inside ≡ [] = empty_text inside (omega (arith, same, begin_long, front_long)) in
    let (one_none, between_none) = no_front one between (sym f ∙ none) in
    let rests = same_rest front first (bytes ++ (back ++ after)) (inside ++ rest) whole fronts in
    let pieces_are = one_piece piece later bytes one (back ++ after) (between ++ rest) (certain_later earlier (piece ∷ later) certain_here) spells_piece
    one_spelled back_there between_tail (rests ∙ ap (λ l. l ++ rest) f ∙ append_assoc one between rest) in
    let bytes_none : bytes ≡ [] = pieces_are ∙ one_none in
    let byte_next = empty_error piece later reason (subst (λ (l : Text). SpellsPiece loose piece l) bytes_none spells_piece)
    (ap (λ l. piece_error piece l) (sym bytes_none) ∙ error)
    (apart_later earlier (piece ∷ later) (subst (λ (l : List Piece). apart l ≡ true) made apart_is)) in
    byte_between middle other more found kind (subst (λ (l : Text). Spells loose middle l) between_none between_spelled)
    (subst (λ (l : List Piece). begins_byte l ≡ true) of byte_next) wrong

-- at one column of a line is one error
one_reason : (s : State) (r : Row) (text : Text) (column : ℕ) (reason kind : BuildReason) → HasError text (row_pieces s r) column reason
    → HasError text (row_pieces s r) column kind → reason ≡ kind
one_reason s r text column reason kind a b =
    let (before, inside) = one_run (λ b. b ≡ 32) a.before b.before (a.front ++ (a.bytes ++ (a.back ++ a.after)))
    (b.front ++ (b.bytes ++ (b.back ++ b.after))) a.leading b.leading (sym a.is ∙ b.is) (error_avoids s r text column reason a)
    (error_avoids s r text column kind b) in
    let before_long : length a.before ≡ length b.before = ap length before in
    let same : length a.front ≡ length b.front = omega (arith, before_long, a.place, b.place) in
    go inside same (ordered a.earlier a.piece a.later b.earlier b.piece b.later (sym a.made_of ∙ b.made_of))
  where
    tail_of : (e : HasError text (row_pieces s r) column reason) → IsTail (e.piece ∷ e.later) (e.bytes ++ (e.back ++ e.after))
    tail_of e = tail_more (e.piece ∷ []) e.later e.bytes (e.back ++ e.after) (spells-one loose e.piece e.bytes e.spells_piece)
        (back_tail e.later e.back e.after e.spells_back e.trailing)

    tail_of_other : (e : HasError text (row_pieces s r) column kind) → IsTail (e.piece ∷ e.later) (e.bytes ++ (e.back ++ e.after))
    tail_of_other e = tail_more (e.piece ∷ []) e.later e.bytes (e.back ++ e.after) (spells-one loose e.piece e.bytes e.spells_piece)
        (back_tail e.later e.back e.after e.spells_back e.trailing)

    go : a.front ++ (a.bytes ++ (a.back ++ a.after)) ≡ b.front ++ (b.bytes ++ (b.back ++ b.after)) → length a.front ≡ length b.front
        → IsOrdered a.earlier a.piece a.later b.earlier b.piece b.later → reason ≡ kind
    go inside same (inl (earlier_is, piece_is, later_is)) =
        let fronts = same_front a.front b.front (a.bytes ++ (a.back ++ a.after)) (b.bytes ++ (b.back ++ b.after)) inside same in
        let rests = same_rest a.front b.front (a.bytes ++ (a.back ++ a.after)) (b.bytes ++ (b.back ++ b.after)) inside fronts in
        let certain_here = certain_later a.earlier (a.piece ∷ a.later) (subst (λ (l : List Piece). certain l ≡ true) a.made_of (row_certain s r)) in
        let bytes_are = one_piece a.piece a.later a.bytes b.bytes (a.back ++ a.after) (b.back ++ b.after) certain_here a.spells_piece
        (subst (λ (p : Piece). SpellsPiece loose p b.bytes) (sym piece_is) b.spells_piece)
        (back_tail a.later a.back a.after a.spells_back a.trailing)
        (subst (λ (l : List Piece). IsTail l (b.back ++ b.after)) (sym later_is) (back_tail b.later b.back b.after b.spells_back b.trailing)) rests in
        let both : Some reason ≡ Some kind =
        sym a.error ∙ ap (λ (p : Piece). piece_error p a.bytes) piece_is ∙ ap (λ l. piece_error b.piece l) bytes_are ∙ b.error in
        cc
    go inside same (inr (inl (middle, earlier_is, later_is))) =
        absurd (not_before (row_pieces s r) a.earlier a.piece a.later middle b.piece b.later a.front a.bytes a.back a.after b.front b.bytes
        (b.bytes ++ (b.back ++ b.after)) reason kind (row_certain s r) (row_apart s r) a.made_of later_is a.spells_front a.spells_piece a.spells_back
        a.trailing a.error (subst (λ (l : List Piece). Spells loose l b.front) earlier_is b.spells_front) (tail_of_other b) inside same b.error)
    go inside same (inr (inr (middle, earlier_is, later_is))) =
        absurd (not_before (row_pieces s r) b.earlier b.piece b.later middle a.piece a.later b.front b.bytes b.back b.after a.front a.bytes
        (a.bytes ++ (a.back ++ a.after)) kind reason (row_certain s r) (row_apart s r) b.made_of later_is b.spells_front b.spells_piece b.spells_back
        b.trailing b.error (subst (λ (l : List Piece). Spells loose l a.front) earlier_is a.spells_front) (tail_of a) (sym inside) (sym same) a.error)

-- the same, of the text at one position
one_reason_at : (texts : List Text) (at column : ℕ) (reason kind : BuildReason) → AllByRecursion IsPlain texts
    → HasErrorAt texts at column reason → HasErrorAt texts at column kind → reason ≡ kind
one_reason_at texts at column reason kind plain p q =
    let a = error_of_row texts at column reason plain p in
    let b = error_of_row texts at column kind plain q in
    let (same_texts, same_text) = last_same a.earlier b.earlier a.text b.text (sym a.begin ∙ b.begin) in
    let stated = subst (λ (l : List Text). AreRows loose start b.rows l) (sym same_texts) b.stated in
    let same_rows = one_rows start b.rows a.rows a.earlier stated a.stated in
    let spelled = subst (λ (l : List Row). SpellsLine loose (row_pieces (state_after start l) b.row) a.text) same_rows
    (subst (λ (t : Text). SpellsLine loose (row_pieces (state_after start b.rows) b.row) t) (sym same_text) b.spelled) in
    let same_row = one_line (state_after start a.rows) b.row a.row a.text spelled a.spelled in
    let wrong = subst (λ (l : List Row). HasError a.text (row_pieces (state_after start l) b.row) column kind) same_rows
    (subst (λ (t : Text). HasError t (row_pieces (state_after start b.rows) b.row) column kind) (sym same_text) b.wrong) in
    one_reason (state_after start a.rows) a.row a.text column reason kind a.wrong
    (subst (λ (z : Row). HasError a.text (row_pieces (state_after start a.rows) z) column kind) same_row wrong)

-- ---- refusals of one text

-- a line before which all is right is not wrong before them
pub right_is_not_wrong : (texts : List Text) (n at column : ℕ) (reason : BuildReason) → AllByRecursion IsPlain texts → AreRight texts n → at < n
    → IsWrongAt texts at column reason → ⊥
right_is_not_wrong texts n at column reason plain right less (inl (none, c, r)) =
    none (begins_well_before texts n (at + 1) plain (omega (arith, less)) right.begin)
right_is_not_wrong texts n at column reason plain right less (inr (wrong, least)) = right.right at column reason less wrong

-- a text with an error begins well up to it
error_begins : (texts : List Text) (at column : ℕ) (reason : BuildReason) → HasErrorAt texts at column reason → BeginWell texts (at + 1)
error_begins texts at column reason e =
    (e.lines ++ e.pieces ∷ [], subst (λ (l : List Text). AreBegun l (e.lines ++ e.pieces ∷ [])) (sym e.begin) e.begun)

one_wrong : (texts : List Text) (at column other : ℕ) (reason kind : BuildReason) → AllByRecursion IsPlain texts → IsWrongAt texts at column reason
    → IsWrongAt texts at other kind → (column ≡ other) × (reason ≡ kind)
one_wrong texts at column other reason kind plain (inl (none, c, r)) (inl (too, d, q)) = (c ∙ sym d, r ∙ sym q)
one_wrong texts at column other reason kind plain (inl (none, c, r)) (inr (wrong, least)) = absurd (none (error_begins texts at other kind wrong))
one_wrong texts at column other reason kind plain (inr (wrong, least)) (inl (none, d, q)) = absurd (none (error_begins texts at column reason wrong))
one_wrong texts at column other reason kind plain (inr (wrong, least)) (inr (too, no_less)) =
    go (nat_lt column other) (nat_lt other column) refl refl
  where
    go : (a b : Bool) → nat_lt column other ≡ a → nat_lt other column ≡ b → (column ≡ other) × (reason ≡ kind)
    go true b e f = let less : column < other = grind arith in absurd (no_less column reason less wrong)
    go false true e f = let less : other < column = grind arith in absurd (least other kind less too)
    go false false e f =
        let same : column ≡ other = grind arith in
        (same, one_reason_at texts at other reason kind plain (subst (λ (c : ℕ). HasErrorAt texts at c reason) same wrong) too)

-- A text is refused at one line and column at most, and for one reason.
pub one_refusal : (text : Text) (line column other_line other : ℕ) (reason kind : BuildReason) → IsRefusedAt text line column reason
    → IsRefusedAt text other_line other kind → (line ≡ other_line) × (column ≡ other) × (reason ≡ kind)
one_refusal text line column other_line other reason kind (inl (n, e, small, right, wrong)) (inl (m, f, less, well, bad)) =
    go (nat_lt n m) (nat_lt m n) refl refl
  where
    go : (a b : Bool) → nat_lt n m ≡ a → nat_lt m n ≡ b → (line ≡ other_line) × (column ≡ other) × (reason ≡ kind)
    go true b p q = let before : n < m = grind arith in
        absurd (right_is_not_wrong (text_lines text) m n column reason (text_plain text) well before wrong)
    go false true p q = let before : m < n = grind arith in
        absurd (right_is_not_wrong (text_lines text) n m other kind (text_plain text) right before bad)
    go false false p q =
        let same : n ≡ m = grind arith in
        let here = subst (λ (k : ℕ). IsWrongAt (text_lines text) k column reason) same wrong in
        let (columns, reasons) = one_wrong (text_lines text) m column other reason kind (text_plain text) here bad in
        (e ∙ ap (λ k. k + 1) same ∙ sym f, columns, reasons)
one_refusal text line column other_line other reason kind (inl (n, e, small, right, wrong)) (inr (f, c, r, well, shapeless)) =
    absurd (right_is_not_wrong (text_lines text) (length (text_lines text)) n column reason (text_plain text) well small wrong)
one_refusal text line column other_line other reason kind (inr (e, c, r, right, shapeless)) (inl (m, f, less, well, bad)) =
    absurd (right_is_not_wrong (text_lines text) (length (text_lines text)) m other kind (text_plain text) right less bad)
one_refusal text line column other_line other reason kind (inr (e, c, r, right, shapeless)) (inr (f, d, q, well, unshaped)) =
    (e ∙ sym f, c ∙ sym d, r ∙ sym q)

-- A text in which no line is wrong, and which has the shape of a listing, is not refused.
pub right_not_refused : (text : Text) (line column : ℕ) (reason : BuildReason) → AreRight (text_lines text) (length (text_lines text)) → Shape text
    → IsRefusedAt text line column reason → ⊥
right_not_refused text line column reason right shape (inl (n, e, small, well, wrong)) =
    right_is_not_wrong (text_lines text) (length (text_lines text)) n column reason (text_plain text) right small wrong
right_not_refused text line column reason right shape (inr (e, c, r, well, shapeless)) = shapeless shape
