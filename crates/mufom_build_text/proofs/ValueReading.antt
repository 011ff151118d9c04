-- An expression with the piece that marks its begin.
use Rattle.std.proofs.Common.{◌≡◌, ℕ, ◌+◌, ◌<◌, ◌≤◌, nat_le, nat_lt, Bool, true, false, List, [], ◌∷◌, ◌++◌, codes, length, Option, Some, None}
use Rattle.std.proofs.Common.{refl, sym, ap, subst, ◌∙◌, arith, ◌⊎◌, inl, inr, if◌then◌else◌, Result, Ok, Err, IfOk}
use Rattle.std.proofs.lemmas.List.{take_all}
use Rattle.mufom_expr.specs.declared.token.Function.{Function}
use Rattle.mufom_expr.specs.declared.token.Function.TheVariants as functions
use Rattle.mufom_expr.specs.declared.token.Token.{Token}
use Rattle.mufom_expr.specs.Tree.{Tree, number, variable, one, two, function_of_one, function_of_two, tokens_of}
use Rattle.mufom_expr.specs.InfixText.{opening_text, middle_text}
use Rattle.mufom_expr.specs.Terms.{the_term, LeavesMoreThanOne}
use Rattle.mufom_expr.specs.TreeCode.{the_term-tokens_of}
use Rattle.mufom_build_text.specs.declared.cursor.LineError.{LineError}
use Rattle.mufom_refusals.specs.declared.build.BuildReason.{BuildReason}
use Rattle.mufom_refusals.specs.declared.build.BuildReason.TheVariants.{TooLong}
use Rattle.mufom_build_text.specs.declared.expression.Infix.{Infix}
use Rattle.mufom_build_text.specs.Pieces.{Piece, byte, expression, words, infix_pieces, value_pieces}
use Rattle.mufom_build_text.specs.Reads.{Place}
use Rattle.mufom_build_text.specs.Errors.{error_at, first_error, noted, is_bad, piece_error, IsSound}
use Rattle.mufom_build_text.specs.Loosely.{PassesOne, Passes, Goes, ReadsLoosely, NoFigure}
use Rattle.mufom_build_text.specs.Infix.{ReadsTree, IsRead, IsWhole}
use Rattle.mufom_build_text.proofs.Noted.{le_true, le_false, lt_yes, lt_no, some_first_error, same_bad}
use Rattle.mufom_build_text.proofs.InfixReading.{one_term}
use Rattle.mufom_build_text.proofs.Loosely.{Stays, moves_then, moves_stays, right_is_sound}

-- ---- two errors of a line, noted in either order

pushed : (f x y : LineError) (b : Bool) → first_error (if b then Some f else Some x) y
    ≡ (if b then first_error (Some f) y else first_error (Some x) y)
pushed f x y true = refl
pushed f x y false = refl

first_swaps : (e : Option LineError) (x y : LineError) → (x.column ≡ y.column → ⊥)
    → first_error (first_error e x) y ≡ first_error (first_error e y) x
first_swaps None x y unlike = go (nat_le x.column y.column) (nat_le y.column x.column) refl refl
  where
    go : (r s : Bool) → nat_le x.column y.column ≡ r → nat_le y.column x.column ≡ s
        → (if r then Some x else Some y) ≡ (if s then Some y else Some x)
    go true false d e = refl
    go false true d e = refl
    go true true d e = absurd (unlike (omega (arith, le_true x.column y.column d, le_true y.column x.column e)))
    go false false d e = absurd (omega (arith, le_false x.column y.column d, le_false y.column x.column e))
first_swaps (Some f) x y unlike = pushed f x y (nat_le f.column x.column)
    ∙ go (nat_le f.column x.column) (nat_le f.column y.column) (nat_le x.column y.column) (nat_le y.column x.column) refl refl refl refl
    ∙ sym (pushed f y x (nat_le f.column y.column))
  where
    go : (p q r s : Bool) → nat_le f.column x.column ≡ p → nat_le f.column y.column ≡ q → nat_le x.column y.column ≡ r
        → nat_le y.column x.column ≡ s → (if p then (if q then Some f else Some y) else (if r then Some x else Some y))
        ≡ (if q then (if p then Some f else Some x) else (if s then Some y else Some x))
    go true true r s a b c d = refl
    go true false r true a b c d = refl
    go true false r false a b c d =
        absurd (omega (arith, le_true f.column x.column a, le_false f.column y.column b, le_false y.column x.column d))
    go false true true s a b c d = refl
    go false true false s a b c d =
        absurd (omega (arith, le_false f.column x.column a, le_true f.column y.column b, le_false x.column y.column c))
    go false false true false a b c d = refl
    go false false false true a b c d = refl
    go false false true true a b c d = absurd (unlike (omega (arith, le_true x.column y.column c, le_true y.column x.column d)))
    go false false false false a b c d = absurd (omega (arith, le_false x.column y.column c, le_false y.column x.column d))

noted_swaps : (e : Option LineError) (column : ℕ) (reason : Option BuildReason) (x : LineError) → (reason ≡ None) ⊎ (x.column < column)
    → first_error (noted e column reason) x ≡ noted (first_error e x) column reason
noted_swaps e column None x apart = refl
noted_swaps e column (Some reason) x (inl none) = let k : Some reason ≡ None = none in absurd (cc)
noted_swaps e column (Some reason) x (inr before) = first_swaps e (error_at column reason) x (λ same. omega (arith, same, before))

-- the place, with one error more
abbrev also : Place → LineError → Place
also p x = record { rest = p.rest; line = p.line; column = p.column; error = first_error p.error x }

one_also : (piece : Piece) (x : LineError) (a b : Place) (p : PassesOne piece a b)
    → (piece_error piece p.front ≡ None) ⊎ (x.column < a.column) → PassesOne piece (also a x) (also b x)
one_also piece x a b p apart = record {
  front = p.front;
  is = p.is;
  spelled = p.spelled;
  line = p.line;
  column = p.column;
  error = ap (λ e. first_error e x) p.error ∙ noted_swaps a.error a.column (piece_error piece p.front) x apart;
}

passes_also : (pieces : List Piece) (x : LineError) (a b : Place) → x.column < a.column → Passes pieces a b → Passes pieces (also a x) (also b x)
passes_also [] x a b before same = ap (λ (p : Place). also p x) same
passes_also (piece ∷ pieces) x a b before (next, p, more) =
    let column : next.column ≡ a.column + length p.front = p.column in
    (also next x, one_also piece x a next p (inr before), passes_also pieces x next b (omega (arith, before, column)) more)

-- where the first piece is a byte, the error may be noted there
byte_also : (v : ℕ) (pieces : List Piece) (x : LineError) (a b : Place) → x.column ≡ a.column → Passes (byte v ∷ pieces) a b
    → Passes (byte v ∷ pieces) (also a x) (also b x)
byte_also v pieces x a b here (next, p, more) =
    let column : next.column ≡ a.column + length p.front = p.column in
    let long : length p.front ≡ 1 = ap length p.spelled in
    (also next x, one_also (byte v) x a next p (inl refl), passes_also pieces x next b (omega (arith, here, column, long)) more)

-- ---- an expression of two tokens or more begins with a byte

abbrev BeginsByByte : List Piece → Type 0
BeginsByByte pieces = (v : ℕ) × (more : List Piece) × (pieces ≡ byte v ∷ more)

opening_byte : (f : Function) → BeginsByByte (words (opening_text f))
opening_byte functions.Abs = (97, words (codes "bs("), refl)
opening_byte functions.Neg = (110, words (codes "eg("), refl)
opening_byte functions.Max = (109, words (codes "ax("), refl)
opening_byte functions.Min = (109, words (codes "in("), refl)
opening_byte functions.Mod = (109, words (codes "od("), refl)
opening_byte functions.And = (97, words (codes "nd("), refl)
opening_byte functions.Or = (111, words (codes "r("), refl)
opening_byte functions.Xor = (120, words (codes "or("), refl)
opening_byte functions.Plus = (40, [], refl)
opening_byte functions.Minus = (40, [], refl)
opening_byte functions.Divide = (40, [], refl)
opening_byte functions.Times = (40, [], refl)
opening_byte functions.Less = (40, [], refl)
opening_byte functions.Greater = (40, [], refl)
opening_byte functions.Equal = (40, [], refl)
opening_byte functions.Unequal = (40, [], refl)

long_byte : (t : Tree) → 1 < length (tokens_of t) → BeginsByByte (infix_pieces t)
long_byte (number n) long = absurd (omega (arith, long))
long_byte (variable letter p) long = absurd (omega (arith, long))
long_byte (one f a) long =
    let (v, more, is) = opening_byte (function_of_one f) in
    (v, (more ++ infix_pieces a) ++ words (codes ")"), ap (λ l. (l ++ infix_pieces a) ++ words (codes ")")) is)
long_byte (two f a b) long =
    let (v, more, is) = opening_byte (function_of_two f) in
    let m = words (middle_text (function_of_two f)) in (
      v,
      (((more ++ infix_pieces a) ++ m) ++ infix_pieces b) ++ words (codes ")"),
      ap (λ l. (((l ++ infix_pieces a) ++ m) ++ infix_pieces b) ++ words (codes ")")) is,
    )

tree_also : (t : Tree) (x : LineError) (a b : Place) → 1 < length (tokens_of t) → x.column ≡ a.column → Passes (infix_pieces t) a b
    → Passes (infix_pieces t) (also a x) (also b x)
tree_also t x a b long here passes =
    let (v, more, is) = long_byte t long in
    subst (λ (l : List Piece). Passes l (also a x) (also b x)) (sym is)
    (byte_also v more x a b here (subst (λ (l : List Piece). Passes l a b) is passes))

-- ---- the piece that marks the begin

-- it has no bytes
behind_mark : (n : ℕ) (pieces : List Piece) (a : Place) → Goes (expression n ∷ pieces) a → Goes pieces a
behind_mark n pieces a goes =
    let (first, rest, e, none, others) = goes.spelled in
    record {
      sound = goes.sound;
      front = rest;
      spaces = goes.spaces;
      end = goes.end;
      is = goes.is ∙ ap (λ l. l ++ (goes.spaces ++ goes.end)) (e ∙ ap (λ l. l ++ rest) none);
      spelled = others;
      are = goes.are;
      line_end = goes.line_end;
    }

mark_passed : (n : ℕ) (a b : Place) → b.rest ≡ a.rest → b.line ≡ a.line → b.column ≡ a.column
    → b.error ≡ noted a.error a.column (if nat_lt 255 n then Some TooLong else None) → PassesOne (expression n) a b
mark_passed n a b rest line column error = record {
  front = [];
  is = sym rest;
  spelled = refl;
  line = line;
  column = omega (arith, column);
  error = error;
}

-- ---- the whole

-- a piece of the expression is missing
pub value_missing : (p : Tree) (start now : Place) (i : Infix) → IsWhole start now i → (IsSound now → ⊥) → ReadsLoosely value_pieces NoFigure p start now
value_missing p start now i whole bad = record {
  value = p;
  moves = whole.moves;
  passes = λ sound. absurd (bad sound);
  same = λ right. absurd (bad (right_is_sound now right));
  takes = λ t more tail goes. absurd (bad (whole.takes t more tail (behind_mark (length (tokens_of t)) (infix_pieces t ++ more) start goes)));
}

-- it has at most 255 tokens
short_value : (tree p : Tree) (a b : Place) → ReadsTree tree a b → length (tokens_of tree) ≤ 255 → p ≡ tree → ReadsLoosely value_pieces NoFigure p a b
short_value tree p a b r small is =
    let n = length (tokens_of r.reads.value) in
    let few : nat_lt 255 n ≡ false = lt_no 255 n (omega (arith, small, r.count)) in
    let mark : PassesOne (expression n) a a = mark_passed n a a refl refl refl
    (ap (λ (b : Bool). noted a.error a.column (if b then Some TooLong else None)) (sym few)) in
    record {
      value = r.reads.value;
      moves = r.reads.moves;
      passes = λ sound. (a, mark, r.reads.passes sound);
      same = λ right. is ∙ r.reads.same right;
      takes = λ t more tail goes. r.reads.takes t more tail (behind_mark (length (tokens_of t)) (infix_pieces t ++ more) a goes);
    }

same_place : {p q : Place} → p.rest ≡ q.rest → p.line ≡ q.line → p.column ≡ q.column → p.error ≡ q.error → p ≡ q
same_place {p} {q} rest line column error = λ i. record { rest = rest i; line = line i; column = column i; error = error i }

-- it has more
long_value : (tree p : Tree) (a b c : Place) → ReadsTree tree a b → 255 < length (tokens_of tree) → 0 < a.column → c.rest ≡ b.rest → c.line ≡ b.line
    → c.column ≡ b.column → c.error ≡ first_error b.error (error_at a.column TooLong) → ReadsLoosely value_pieces NoFigure p a c
long_value tree p a b c r great some rest line column error =
    let x = error_at a.column TooLong in
    let n = length (tokens_of r.reads.value) in
    let more_than : 255 < n = omega (arith, great, r.count) in
    let many : nat_lt 255 n ≡ true = lt_yes 255 n more_than in
    let s : Stays b c = record {
      rest = rest;
      line = line;
      column = column;
      same = ap is_bad error ∙ same_bad b.error a.column TooLong some;
      right = λ right. absurd (some_first_error b.error x (sym error ∙ right));
    } in
    let mark : PassesOne (expression n) a (also a x) = mark_passed n a (also a x) refl refl refl
    (ap (λ (b : Bool). noted a.error a.column (if b then Some TooLong else None)) (sym many)) in
    let end : also b x ≡ c = same_place (sym rest) (sym line) (sym column) (sym error) in
    record {
      value = r.reads.value;
      moves = moves_then r.reads.moves (moves_stays s);
      passes = λ sound.
          let all = tree_also r.reads.value x a b (omega (arith, more_than)) refl (r.reads.passes (sym s.same ∙ sound)) in
          (also a x, mark, subst (λ (q : Place). Passes (infix_pieces r.reads.value) (also a x) q) end all);
      same = λ right. absurd (some_first_error b.error x (sym error ∙ right));
      takes = λ t more tail goes.
          let (same, ended) = r.reads.takes t more tail (behind_mark (length (tokens_of t)) (infix_pieces t ++ more) a goes) in (
            same,
            record {
              sound = s.same ∙ ended.sound;
              front = ended.front;
              spaces = ended.spaces;
              end = ended.end;
              is = rest ∙ ended.is;
              spelled = ended.spelled;
              are = ended.are;
              line_end = ended.line_end;
            },
          );
    }

pub value_long : (p : Tree) (start now after : Place) (i : Infix) (column : ℕ) → IsRead start now i → i.is_long ≡ true → column ≡ start.column
    → 0 < column → after.rest ≡ now.rest → after.line ≡ now.line → after.column ≡ now.column
    → after.error ≡ first_error now.error (error_at column TooLong) → ReadsLoosely value_pieces NoFigure p start after
value_long p start now after i column read long here some rest line same error =
    let great : 255 < length (tokens_of read.tree) = above (sym read.keeps.long ∙ long) in
    long_value read.tree p start now after read.reads great (omega (arith, here, some)) rest line same
    (error ∙ ap (λ k. first_error now.error (error_at k TooLong)) here)
  where
    above : {m : ℕ} → nat_lt 255 m ≡ true → 255 < m
    above {m} h = grind arith

below : {m : ℕ} → nat_lt 255 m ≡ false → m ≤ 255
below {m} h = grind arith

-- the tokens are those of the expression
pub short_tokens : (start now : Place) (i : Infix) (read : IsRead start now i) → i.is_long ≡ false → i.tokens ≡ tokens_of read.tree
short_tokens start now i read short =
    read.keeps.tokens ∙ take_all 255 (tokens_of read.tree) (below (sym read.keeps.long ∙ short))

pub value_short : (p : Tree) (start now : Place) (i : Infix) → IsRead start now i → i.is_long ≡ false → tokens_of p ≡ i.tokens
    → ReadsLoosely value_pieces NoFigure p start now
value_short p start now i read short tokens =
    let same : p ≡ read.tree = sym (the_term-tokens_of p) ∙ ap the_term (tokens ∙ short_tokens start now i read short)
    ∙ the_term-tokens_of read.tree in
    short_value read.tree p start now read.reads (below (sym read.keeps.long ∙ short)) same

-- so that an expression is made of them
pub never_fails : (start now : Place) (i : Infix) → IsRead start now i → i.is_long ≡ false → ((i.tokens ≡ []) ⊎ LeavesMoreThanOne i.tokens) → ⊥
never_fails start now i read short wrong = one_term read.tree
    (subst (λ (l : List Token). (l ≡ []) ⊎ LeavesMoreThanOne l) (short_tokens start now i read short) wrong)

-- what holds of any expression holds of the one that is made, if one is
pub any_value : {E : Type 0} (P : Tree → Type 0) (made : Result Tree E) → ((p : Tree) → P p) → IfOk made P
any_value {E} P (Ok p) all = all p
any_value {E} P (Err e) all = tt
