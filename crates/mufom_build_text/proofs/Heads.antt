-- What the first bytes of an expression tell of it.
use Rattle.std.proofs.Common.{◌≡◌, ℕ, ◌<◌, ◌==◌, Bool, true, false, List, [], ◌∷◌, ◌++◌, length, Option, Some, None}
use Rattle.std.proofs.Common.{refl, sym, ap, subst, ◌∙◌, arith, append_assoc, if◌then◌else◌, eqb-true}
use Rattle.mufom_text.specs.Words.{Text}
use Rattle.mufom_expr.specs.declared.token.Function.{Function}
use Rattle.mufom_expr.specs.declared.token.Function.TheVariants as functions
use Rattle.mufom_expr.specs.declared.token.Letter.{Letter}
use Rattle.mufom_expr.specs.declared.token.Letter.TheVariants as letters
use Rattle.mufom_expr.specs.Tree.{Tree, number, variable, one, two, TwoOperands, function_of_two}
use Rattle.mufom_expr.specs.Tree.{absolute, negated, plus, minus, divided, times, larger, smaller, modulo, is_less, is_greater, is_equal, is_unequal}
use Rattle.mufom_expr.specs.Tree.{and_bits, or_bits, xor_bits}
use Rattle.mufom_expr.specs.InfixText.{middle_text}
use Rattle.mufom_build_text.specs.declared.expression.Frame.{Frame}
use Rattle.mufom_build_text.specs.declared.expression.Frame.TheVariants.{First, Last}
use Rattle.mufom_build_text.specs.declared.expression.Middle.TheVariants.{Operator, Comma}
use Rattle.mufom_build_text.specs.Pieces.{Piece, byte, gap, figure, AreSpaces, words, infix_pieces}
use Rattle.mufom_build_text.specs.Reads.{Place, IsSpaceFront}
use Rattle.mufom_build_text.specs.Loosely.{Avoids, IsSpace, IsFigure, Goes}
use Rattle.mufom_build_text.specs.Infix.{frame_by, operator_by, letter_by, byte_at, frame_before, letter_before, middle_of}
use Rattle.mufom_build_text.proofs.FirstBytes.{one_run, numeral_first}

-- ---- texts by their first pieces

goes_byte : (c : ℕ) {ps : List Piece} {a : Place} → Goes (byte c ∷ ps) a → (rest : Text) × (a.rest ≡ c ∷ rest)
goes_byte c {ps} {a} goes =
    let (first, rest, e, is, others) = goes.spelled in
    (rest ++ (goes.spaces ++ goes.end), goes.is ∙ ap (λ l. l ++ (goes.spaces ++ goes.end)) (e ∙ ap (λ l. l ++ rest) is))

goes_bytes : (c d : ℕ) {ps : List Piece} {a : Place} → Goes (byte c ∷ byte d ∷ ps) a → (rest : Text) × (a.rest ≡ c ∷ d ∷ rest)
goes_bytes c d {ps} {a} goes =
    let (first, rest, e, is, (second, more, f, is_second, others)) = goes.spelled in
    let tail : rest ≡ d ∷ more = f ∙ ap (λ l. l ++ more) is_second in
    let front : goes.front ≡ c ∷ d ∷ more = e ∙ ap (λ l. l ++ rest) is ∙ ap (λ l. c ∷ l) tail in
    (more ++ (goes.spaces ++ goes.end), goes.is ∙ ap (λ l. l ++ (goes.spaces ++ goes.end)) front)

some_spaces : (front : Text) → 0 < length front → AreSpaces front → (more : Text) × (front ≡ 32 ∷ more)
some_spaces [] some are = absurd (omega (arith, some))
some_spaces (x ∷ front) some (here, are) = (front, ap (λ b. b ∷ front) here)

goes_byte_gap : (c : ℕ) {ps : List Piece} {a : Place} → Goes (byte c ∷ gap ∷ ps) a → (rest : Text) × (a.rest ≡ c ∷ 32 ∷ rest)
goes_byte_gap c {ps} {a} goes =
    let (first, rest, e, is, (second, more, f, (some, are), others)) = goes.spelled in
    let (inside, begins) = some_spaces second some are in
    let tail : rest ≡ 32 ∷ (inside ++ more) = f ∙ ap (λ l. l ++ more) begins in
    let front : goes.front ≡ c ∷ 32 ∷ (inside ++ more) = e ∙ ap (λ l. l ++ rest) is ∙ ap (λ l. c ∷ l) tail in
    ((inside ++ more) ++ (goes.spaces ++ goes.end), goes.is ∙ ap (λ l. l ++ (goes.spaces ++ goes.end)) front)

goes_number : {most n : ℕ} {ps : List Piece} {a : Place} → Goes (figure most n ∷ ps) a
    → (x : ℕ) × (rest : Text) × (a.rest ≡ x ∷ rest) × IsFigure x
goes_number {most} {n} {ps} {a} goes =
    let (first, rest, e, (numeral, value), others) = goes.spelled in
    let (x, tail, begins, small) = numeral_first first numeral in
    let front : goes.front ≡ x ∷ (tail ++ rest) = e ∙ ap (λ l. l ++ rest) begins in
    (x, (tail ++ rest) ++ (goes.spaces ++ goes.end), goes.is ∙ ap (λ l. l ++ (goes.spaces ++ goes.end)) front, small)

-- the place behind a space and any more
abbrev at_text : Place → Text → Place
at_text a text = record { rest = text; line = a.line; column = a.column; error = a.error }

behind_gap : (c : ℕ) {ps : List Piece} {a : Place} (end : Text) → (c ≡ 32 → ⊥) → IsSpaceFront a.rest end → ((more : Text) → end ≡ 32 ∷ more → ⊥)
    → Goes (gap ∷ byte c ∷ ps) a → Goes (byte c ∷ ps) (at_text a end)
behind_gap c {ps} {a} end solid spaces last goes =
    let (first, rest, e, (some, are), others) = goes.spelled in
    let (inside, more, f, is, tail) = others in
    let behind = goes.spaces ++ goes.end in
    let all : a.rest ≡ first ++ (rest ++ behind) = goes.is ∙ ap (λ l. l ++ behind) e ∙ append_assoc first rest behind in
    let begins : rest ++ behind ≡ c ∷ (more ++ behind) = ap (λ l. l ++ behind) (f ∙ ap (λ l. l ++ more) is) in
    let here : Avoids IsSpace end = λ b after g is_space. last after (g ∙ ap (λ z. z ∷ after) is_space) in
    let there : Avoids IsSpace (rest ++ behind) = λ b after g is_space.
    let h : c ∷ (more ++ behind) ≡ b ∷ after = sym begins ∙ g in
    let same : c ≡ b = cc in
    solid (same ∙ is_space) in
    let (run, ended) = one_run IsSpace spaces.front first end (rest ++ behind) spaces.spaces are (sym spaces.is ∙ all) here there in
    record {
      sound = goes.sound;
      front = rest;
      spaces = goes.spaces;
      end = goes.end;
      is = ended;
      spelled = others;
      are = goes.are;
      line_end = goes.line_end;
    }

-- ---- what digits tell

-- a digit is no other byte
no_test : (x c : ℕ) → IsFigure x → (IsFigure c → ⊥) → (x == c) ≡ false
no_test x c small other = go (x == c) (eqb-true x c)
  where
    go : (b : Bool) → (b ≡ true → x ≡ c) → b ≡ false
    go true same = absurd (other (subst IsFigure (same refl) small))
    go false same = refl

skip : {X : Type 0} (y z : X) {b : Bool} → b ≡ false → (if b then y else z) ≡ z
skip {X} y z {b} e = ap (λ (c : Bool). if c then y else z) e

digit_frame : (x second : ℕ) → IsFigure x → frame_by x second ≡ None
digit_frame x second small = skip _ _ (no_test x 40 small (λ f. omega (arith, f)))
    ∙ skip _ _ (no_test x 97 small (λ f. omega (arith, f)))
    ∙ skip _ _ (no_test x 109 small (λ f. omega (arith, f)))
    ∙ skip _ _ (no_test x 110 small (λ f. omega (arith, f)))
    ∙ skip _ _ (no_test x 111 small (λ f. omega (arith, f)))
    ∙ skip _ _ (no_test x 120 small (λ f. omega (arith, f)))

digit_letter : (x : ℕ) → IsFigure x → letter_by x ≡ None
digit_letter x small = skip _ _ (no_test x 73 small (λ f. omega (arith, f)))
    ∙ skip _ _ (no_test x 76 small (λ f. omega (arith, f)))
    ∙ skip _ _ (no_test x 80 small (λ f. omega (arith, f)))
    ∙ skip _ _ (no_test x 82 small (λ f. omega (arith, f)))
    ∙ skip _ _ (no_test x 83 small (λ f. omega (arith, f)))
    ∙ skip _ _ (no_test x 88 small (λ f. omega (arith, f)))

-- ---- what comes before the operands

-- the function that the first bytes of a text tell
abbrev pub frame_at : Text → Option Frame
frame_at text = frame_by (byte_at text 0) (byte_at text 1)

by_byte : (c : ℕ) (frame : Option Frame) → ((second : ℕ) → frame_by c second ≡ frame) → {ps : List Piece} {a : Place} → Goes (byte c ∷ ps) a
    → frame_at a.rest ≡ frame
by_byte c frame told {ps} {a} goes = let (rest, is) = goes_byte c goes in ap frame_at is ∙ told (byte_at (c ∷ rest) 1)

by_bytes : (c d : ℕ) (frame : Option Frame) → frame_by c d ≡ frame → {ps : List Piece} {a : Place} → Goes (byte c ∷ byte d ∷ ps) a
    → frame_at a.rest ≡ frame
by_bytes c d frame told {ps} {a} goes = let (rest, is) = goes_bytes c d goes in ap frame_at is ∙ told

by_digit : {most n : ℕ} {ps : List Piece} {a : Place} → Goes (figure most n ∷ ps) a → frame_at a.rest ≡ None
by_digit {most} {n} {ps} {a} goes = let (x, rest, is, small) = goes_number goes in ap frame_at is ∙ digit_frame x (byte_at (x ∷ rest) 1) small

bracketed : {ps : List Piece} {a : Place} → Goes (byte 40 ∷ ps) a → frame_at a.rest ≡ Some (First Operator)
bracketed {ps} {a} goes = by_byte 40 (Some (First Operator)) (λ s. refl) goes

pub frame_told : (t : Tree) (more : List Piece) {a : Place} → Goes (infix_pieces t ++ more) a → frame_at a.rest ≡ frame_before t
frame_told (number n) more goes = by_digit goes
frame_told (variable letters.I p) more goes = by_byte 73 None (λ s. refl) goes
frame_told (variable letters.L p) more goes = by_byte 76 None (λ s. refl) goes
frame_told (variable letters.P p) more goes = by_byte 80 None (λ s. refl) goes
frame_told (variable letters.R p) more goes = by_byte 82 None (λ s. refl) goes
frame_told (variable letters.S p) more goes = by_byte 83 None (λ s. refl) goes
frame_told (variable letters.X p) more goes = by_byte 88 None (λ s. refl) goes
frame_told (one absolute x) more goes = by_bytes 97 98 (Some (Last functions.Abs)) refl goes
frame_told (one negated x) more goes = by_byte 110 (Some (Last functions.Neg)) (λ s. refl) goes
frame_told (two plus x y) more goes = bracketed goes
frame_told (two minus x y) more goes = bracketed goes
frame_told (two divided x y) more goes = bracketed goes
frame_told (two times x y) more goes = bracketed goes
frame_told (two larger x y) more goes = by_bytes 109 97 (Some (First (Comma functions.Max))) refl goes
frame_told (two smaller x y) more goes = by_bytes 109 105 (Some (First (Comma functions.Min))) refl goes
frame_told (two modulo x y) more goes = by_bytes 109 111 (Some (First (Comma functions.Mod))) refl goes
frame_told (two is_less x y) more goes = bracketed goes
frame_told (two is_greater x y) more goes = bracketed goes
frame_told (two is_equal x y) more goes = bracketed goes
frame_told (two is_unequal x y) more goes = bracketed goes
frame_told (two and_bits x y) more goes = by_bytes 97 110 (Some (First (Comma functions.And))) refl goes
frame_told (two or_bits x y) more goes = by_byte 111 (Some (First (Comma functions.Or))) (λ s. refl) goes
frame_told (two xor_bits x y) more goes = by_byte 120 (Some (First (Comma functions.Xor))) (λ s. refl) goes

-- ---- letters

-- the letter that the first byte of a text tells
abbrev pub letter_at : Text → Option Letter
letter_at text = letter_by (byte_at text 0)

by_letter : (c : ℕ) (letter : Option Letter) → letter ≡ letter_by c → {ps : List Piece} {a : Place} → Goes (byte c ∷ ps) a
    → letter ≡ letter_at a.rest
by_letter c letter told {ps} {a} goes = let (rest, is) = goes_byte c goes in told ∙ ap letter_at (sym is)

by_no_letter : {most n : ℕ} {ps : List Piece} {a : Place} → Goes (figure most n ∷ ps) a → None ≡ letter_at a.rest
by_no_letter {most} {n} {ps} {a} goes = let (x, rest, is, small) = goes_number goes in sym (digit_letter x small) ∙ ap letter_at (sym is)

pub letter_told : (t : Tree) (more : List Piece) {a : Place} → Goes (infix_pieces t ++ more) a → frame_before t ≡ None
    → letter_before t ≡ letter_at a.rest
letter_told (number n) more goes none = by_no_letter goes
letter_told (variable letters.I p) more goes none = by_letter 73 (Some letters.I) refl goes
letter_told (variable letters.L p) more goes none = by_letter 76 (Some letters.L) refl goes
letter_told (variable letters.P p) more goes none = by_letter 80 (Some letters.P) refl goes
letter_told (variable letters.R p) more goes none = by_letter 82 (Some letters.R) refl goes
letter_told (variable letters.S p) more goes none = by_letter 83 (Some letters.S) refl goes
letter_told (variable letters.X p) more goes none = by_letter 88 (Some letters.X) refl goes
letter_told (one f x) more goes none = absurd (cc)
letter_told (two f x y) more goes none = absurd (cc)

-- ---- what comes between the operands

-- the function that the first bytes of a text tell
abbrev pub operator_at : Text → Function
operator_at text = operator_by (byte_at text 0) (byte_at text 1)

pub operator_told : (g : TwoOperands) (more : List Piece) {a : Place} (end : Text) → IsSpaceFront a.rest end
    → ((after : Text) → end ≡ 32 ∷ after → ⊥) → middle_of g ≡ Operator → Goes (words (middle_text (function_of_two g)) ++ more) a
    → function_of_two g ≡ operator_at end
operator_told g more {a} end spaces last has goes = told g has goes
  where
    by_operator : (c : ℕ) (f : Function) → (c ≡ 32 → ⊥) → ((second : ℕ) → f ≡ operator_by c second) → {ps : List Piece}
        → Goes (gap ∷ byte c ∷ ps) a → f ≡ operator_at end
    by_operator c f solid is {ps} goes =
        let (rest, begins) = goes_byte c (behind_gap c end solid spaces last goes) in
        is (byte_at (c ∷ rest) 1) ∙ ap operator_at (sym begins)

    told : (g : TwoOperands) → middle_of g ≡ Operator → Goes (words (middle_text (function_of_two g)) ++ more) a → function_of_two g ≡ operator_at end
    told plus has goes = by_operator 43 functions.Plus (λ e. omega (arith, e)) (λ s. refl) goes
    told minus has goes = by_operator 45 functions.Minus (λ e. omega (arith, e)) (λ s. refl) goes
    told divided has goes = by_operator 47 functions.Divide (λ e. omega (arith, e)) (λ s. refl) goes
    told times has goes = by_operator 42 functions.Times (λ e. omega (arith, e)) (λ s. refl) goes
    told is_greater has goes = by_operator 62 functions.Greater (λ e. omega (arith, e)) (λ s. refl) goes
    told is_equal has goes = by_operator 61 functions.Equal (λ e. omega (arith, e)) (λ s. refl) goes
    told is_less has goes =
        let (rest, begins) = goes_byte_gap 60 (behind_gap 60 end (λ e. omega (arith, e)) spaces last goes) in
        ap operator_at (sym begins)
    told is_unequal has goes =
        let (rest, begins) = goes_bytes 60 62 (behind_gap 60 end (λ e. omega (arith, e)) spaces last goes) in
        ap operator_at (sym begins)
    told larger has goes = absurd (cc)
    told smaller has goes = absurd (cc)
    told modulo has goes = absurd (cc)
    told and_bits has goes = absurd (cc)
    told or_bits has goes = absurd (cc)
    told xor_bits has goes = absurd (cc)
