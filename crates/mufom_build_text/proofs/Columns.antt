-- The line and the column after blanks that grow by what comes next.
use Rattle.std.proofs.Common.{◌≡◌, ℕ, ◌+◌, ◌==◌, Bool, true, false, List, [], ◌∷◌, ◌++◌, refl, sym, ap, ◌∙◌, ◌⊎◌, arith, append_assoc, if◌then◌else◌}
use Rattle.mufom_text.specs.Words.{Text}
use Rattle.mufom_build_text.specs.Places.{AreBlank}
use Rattle.mufom_build_text.specs.Reads.{feeds, column_after, PassesBlanks}

feeds_more : (front : Text) (b : ℕ) → feeds (front ++ b ∷ []) ≡ (if b == 10 then feeds front + 1 else feeds front)
feeds_more [] b = refl
feeds_more (x ∷ front) b = go (x == 10) (b == 10) (feeds_more front b)
  where
    go : (here last : Bool) → feeds (front ++ b ∷ []) ≡ (if last then feeds front + 1 else feeds front)
        → (if here then feeds (front ++ b ∷ []) + 1 else feeds (front ++ b ∷ []))
        ≡ (if last then (if here then feeds front + 1 else feeds front) + 1 else (if here then feeds front + 1 else feeds front))
    go true true e = ap (λ n. n + 1) e
    go true false e = ap (λ n. n + 1) e
    go false true e = e
    go false false e = e

column_more : (front : Text) (b column : ℕ) → column_after column (front ++ b ∷ [])
    ≡ (if b == 10 then 1 else column_after column front + 1)
column_more [] b column = refl
column_more (x ∷ front) b column = go (x == 10) (λ k. column_more front b k)
  where
    go : (here : Bool) → ((k : ℕ) → column_after k (front ++ b ∷ []) ≡ (if b == 10 then 1 else column_after k front + 1))
        → (if here then column_after 1 (front ++ b ∷ []) else column_after (column + 1) (front ++ b ∷ []))
        ≡ (if b == 10 then 1 else (if here then column_after 1 front else column_after (column + 1) front) + 1)
    go true more = more 1
    go false more = more (column + 1)

blank_more : (front : Text) (b : ℕ) → AreBlank front → (b ≡ 32) ⊎ (b ≡ 10) → AreBlank (front ++ b ∷ [])
blank_more [] b none here = (here, tt)
blank_more (x ∷ front) b (first, rest) here = (first, blank_more front b rest here)

pub no_blanks : (text : Text) (line column : ℕ) → PassesBlanks text line column text line column
no_blanks text line column = record { front = []; is = refl; blank = tt; line_is = omega arith; column_is = refl }

-- a blank more
pub blank_passed : (text rest after : Text) (b from_line from_column line column next_line next_column : ℕ)
    → PassesBlanks text from_line from_column rest line column → rest ≡ b ∷ after → (b ≡ 32) ⊎ (b ≡ 10)
    → next_line ≡ (if b == 10 then line + 1 else line) → next_column ≡ (if b == 10 then 1 else column + 1)
    → PassesBlanks text from_line from_column after next_line next_column
blank_passed text rest after b from_line from_column line column next_line next_column p e is_blank lines columns = record {
  front = p.front ++ b ∷ [];
  is = p.is ∙ ap (λ l. p.front ++ l) e ∙ sym (append_assoc p.front (b ∷ []) after);
  blank = blank_more p.front b p.blank is_blank;
  line_is = lines ∙ sums (b == 10) ∙ ap (λ n. from_line + n) (sym (feeds_more p.front b));
  column_is = columns ∙ ap (λ n. if b == 10 then 1 else n + 1) p.column_is ∙ sym (column_more p.front b from_column);
}
  where
    sums : (last : Bool) → (if last then line + 1 else line) ≡ from_line + (if last then feeds p.front + 1 else feeds p.front)
    sums true = omega (arith, p.line_is)
    sums false = p.line_is
