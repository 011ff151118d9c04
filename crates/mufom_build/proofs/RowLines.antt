-- The bytes of the line of a row.
use Rattle.std.proofs.Common.{◌≡◌, ℕ, ◌==◌, ◌&&◌, not, Bool, true, false, List, [], ◌∷◌, ◌++◌, refl, sym, ap, subst, ◌∙◌, inl, inr, ◌⊎◌}
use Rattle.mufom_text.specs.Words.{Text}
use Rattle.mufom_build_text.specs.Pieces.{Piece, block, loose, Spells, AreSpaces, words}
use Rattle.mufom_build_text.proofs.FirstBytes.{no}
use Rattle.mufom_build.specs.Begun.{IsPlain}
use Rattle.mufom_build.specs.Order.{State, before_word, stated_by, row_pieces}
use Rattle.mufom_build.specs.Rows.{word_of, rest_pieces, Row, line_of}
use Rattle.mufom_build.proofs.OneText.{spelled_no_feed, line_feedless, begins_dark, word_dark, dark_is_not_blank, one_spelled}
use Rattle.mufom_build.proofs.OneWord.{word_first}
use Rattle.mufom_build.proofs.TextLines.{IsDark}
use Rattle.mufom_build.proofs.CertainLines.{before_line}

-- what the line of a row spells, without the begin of a block
row_line : (s : State) (r : Row) (body : Text) → Spells loose (row_pieces s r) body → Spells loose (line_of (stated_by s r) r) body
row_line s r body spelled = go (before_line s r)
  where
    go : (before_word s r ≡ []) ⊎ ((d : ℕ) × (before_word s r ≡ block d ∷ [])) → Spells loose (line_of (stated_by s r) r) body
    go (inl e) = subst (λ (l : List Piece). Spells loose (l ++ line_of (stated_by s r) r) body) e spelled
    go (inr (d, e)) =
        let (first, rest, is, none, more) = subst (λ (l : List Piece). Spells loose (l ++ line_of (stated_by s r) r) body) e spelled in
        subst (λ (t : Text). Spells loose (line_of (stated_by s r) r) t) (sym (is ∙ ap (λ l. l ++ rest) none)) more

-- no line has an end of a line within
pub row_plain : (s : State) (r : Row) (body : Text) → Spells loose (row_pieces s r) body → IsPlain body
row_plain s r body spelled = spelled_no_feed (line_of (stated_by s r) r) (line_feedless (stated_by s r) r) body (row_line s r body spelled)

dark_word : (w : Text) (rest : List Piece) (body : Text) → begins_dark w ≡ true → Spells loose (words w ++ rest) body
    → (first : ℕ) × (others : Text) × (body ≡ first ∷ others) × IsDark first
dark_word [] rest body h spelled = absurd (no h)
dark_word (c ∷ w) rest body h spelled =
    let (tail, e) = word_first c (words w ++ rest) body spelled in
    (c, tail, e, dark_is_not_blank c h)

-- the line of a row begins with a byte that is neither a space nor an end of a line
pub row_dark : (s : State) (r : Row) (body : Text) → Spells loose (row_pieces s r) body
    → (first : ℕ) × (others : Text) × (body ≡ first ∷ others) × IsDark first
row_dark s r body spelled = at r (row_line s r body spelled)
  where
    at : (q : Row) → Spells loose (line_of (stated_by s r) q) body → (first : ℕ) × (others : Text) × (body ≡ first ∷ others) × IsDark first
    at (k, p) line = dark_word (word_of k) (rest_pieces (stated_by s r) k p) body (word_dark k) line

-- two lines of the same bytes are of one row
pub row_once : (s : State) (r q : Row) (body inner after trailing : Text) → Spells loose (row_pieces s r) body → Spells loose (row_pieces s q) inner
    → AreSpaces after → AreSpaces trailing → body ++ after ≡ inner ++ trailing → r ≡ q
row_once s r q body inner after trailing p t spaces others same =
    one_spelled r q body inner after trailing (stated_by s r, row_line s r body p) (stated_by s q, row_line s q inner t) spaces others same
