-- Pieces that the same bytes spell in one way.
use Rattle.std.proofs.Common.{◌≡◌, ℕ, suc, ◌+◌, ◌*◌, ◌<◌, ◌==◌, ◌&&◌, not, nat_le, Bool, true, false, List, [], ◌∷◌, ◌++◌, length, refl, sym, ap, subst}
use Rattle.std.proofs.Common.{◌∙◌, inl, inr, ◌⊎◌, append_assoc, append-nil, arith, length-append, if◌then◌else◌}
use Rattle.mufom_text.specs.Words.{Text}
use Rattle.mufom_build_text.specs.Pieces.{Piece, byte, gap, figure, position, count, name, digits, expression, block, loose, Spells, SpellsPiece}
use Rattle.mufom_build_text.specs.Pieces.{SpellsDigits, SpellsName, AreSpaces}
use Rattle.mufom_build_text.specs.Reads.{IsLineEnd}
use Rattle.mufom_build_text.specs.Loosely.{Avoids, IsSpace, IsFigure, no_space, no_figure}
use Rattle.mufom_build_text.proofs.FirstBytes.{no, both_true, one_run, all_figures, no_space_spelled, no_figure_spelled, avoids_after}
use Rattle.mufom_build_text.proofs.Spelling.{spells-append}
use Rattle.mufom_build.proofs.OnePiece.{one_name as one_name_bytes}

-- ---- what is tested

-- the pieces begin with a byte, and it is no space
abbrev pub begins_some : List Piece → Bool
begins_some [] = false
begins_some (byte v ∷ more) = not (v == 32)
begins_some (gap ∷ more) = false
begins_some (figure most n ∷ more) = true
begins_some (position n ∷ more) = true
begins_some (count n ∷ more) = true
begins_some (name bytes ∷ more) = true
begins_some (digits [] ∷ more) = begins_some more
begins_some (digits (b ∷ bytes) ∷ more) = true
begins_some (expression n ∷ more) = begins_some more
begins_some (block n ∷ more) = begins_some more

-- each space is before something else, and each number before something that is no digit
abbrev pub certain : List Piece → Bool
certain [] = true
certain (byte v ∷ more) = certain more
certain (gap ∷ more) = begins_some more && certain more
certain (figure most n ∷ more) = no_figure more && certain more
certain (position n ∷ more) = no_figure more && certain more
certain (count n ∷ more) = no_figure more && certain more
certain (name bytes ∷ more) = certain more
certain (digits bytes ∷ more) = certain more
certain (expression n ∷ more) = certain more
certain (block n ∷ more) = certain more

-- the pieces begin with this very byte
abbrev pub begins_byte : List Piece → Bool
begins_byte [] = false
begins_byte (byte v ∷ more) = true
begins_byte (piece ∷ more) = false

-- no two pieces with an error begin at one column: a long expression and a block begin with a byte of their own
abbrev pub apart : List Piece → Bool
apart [] = true
apart (expression n ∷ more) = (if nat_le n 255 then true else begins_byte more) && apart more
apart (block n ∷ more) = begins_byte more && apart more
apart (piece ∷ more) = apart more

-- ---- what follows pieces on a line

-- the text is that of the pieces, spaces after them, and the end of the line
pub record IsTail (pieces : List Piece) (text : Text) : Type 0 where
  pub front : Text
  pub spaces : Text
  pub end : Text
  pub is : text ≡ front ++ (spaces ++ end)
  pub spelled : Spells loose pieces front
  pub are : AreSpaces spaces
  pub line_end : IsLineEnd end

pub tail_more : (xs ys : List Piece) (s u : Text) → Spells loose xs s → IsTail ys u → IsTail (xs ++ ys) (s ++ u)
tail_more xs ys s u spelled t = record {
  front = s ++ t.front;
  spaces = t.spaces;
  end = t.end;
  is = ap (λ l. s ++ l) t.is ∙ sym (append_assoc s t.front (t.spaces ++ t.end));
  spelled = spells-append loose xs ys s t.front spelled t.spelled;
  are = t.are;
  line_end = t.line_end;
}

-- pieces that begin with a byte are no nothing
begins_bytes : (pieces : List Piece) → begins_some pieces ≡ true → (s : Text) → Spells loose pieces s → 0 < length s
begins_bytes [] h s spelled = absurd (no h)
begins_bytes (byte v ∷ ps) h s (first, rest, e, f, others) =
    let long : length s ≡ length (v ∷ rest) = ap length (e ∙ ap (λ l. l ++ rest) f) in omega (arith, long)
begins_bytes (gap ∷ ps) h s spelled = absurd (no h)
begins_bytes (figure most n ∷ ps) h s (first, rest, e, f, others) =
    let some : 0 < length first = f.0.0 in
    let long : length s ≡ length first + length rest = ap length e ∙ length-append first rest in omega (arith, some, long)
begins_bytes (position n ∷ ps) h s (first, rest, e, f, others) =
    let some : 0 < length first = f.0 in
    let long : length s ≡ length first + length rest = ap length e ∙ length-append first rest in omega (arith, some, long)
begins_bytes (count n ∷ ps) h s (first, rest, e, f, others) =
    let some : 0 < length first = f.0 in
    let long : length s ≡ length first + length rest = ap length e ∙ length-append first rest in omega (arith, some, long)
begins_bytes (name bytes ∷ ps) h s (first, rest, e, (inside, f, spelled), others) =
    let long : length s ≡ length (0x22 ∷ ((inside ++ 0x22 ∷ []) ++ rest)) = ap length (e ∙ ap (λ l. l ++ rest) f) in omega (arith, long)
begins_bytes (digits [] ∷ ps) h s (first, rest, e, f, others) =
    subst (λ (l : Text). 0 < length l) (sym (e ∙ ap (λ l. l ++ rest) f)) (begins_bytes ps h rest others)
begins_bytes (digits (b ∷ bytes) ∷ ps) h s (first, rest, e, (high, low, inside, f, are, spelled), others) =
    let long : length s ≡ length (high ∷ (low ∷ (inside ++ rest))) = ap length (e ∙ ap (λ l. l ++ rest) f) in omega (arith, long)
begins_bytes (expression n ∷ ps) h s (first, rest, e, f, others) =
    subst (λ (l : Text). 0 < length l) (sym (e ∙ ap (λ l. l ++ rest) f)) (begins_bytes ps h rest others)
begins_bytes (block n ∷ ps) h s (first, rest, e, f, others) =
    subst (λ (l : Text). 0 < length l) (sym (e ∙ ap (λ l. l ++ rest) f)) (begins_bytes ps h rest others)

begins_no_space : (pieces : List Piece) → begins_some pieces ≡ true → no_space pieces ≡ true
begins_no_space [] h = absurd (no h)
begins_no_space (byte v ∷ ps) h = h
begins_no_space (gap ∷ ps) h = absurd (no h)
begins_no_space (figure most n ∷ ps) h = refl
begins_no_space (position n ∷ ps) h = refl
begins_no_space (count n ∷ ps) h = refl
begins_no_space (name bytes ∷ ps) h = refl
begins_no_space (digits [] ∷ ps) h = begins_no_space ps h
begins_no_space (digits (b ∷ bytes) ∷ ps) h = refl
begins_no_space (expression n ∷ ps) h = begins_no_space ps h
begins_no_space (block n ∷ ps) h = begins_no_space ps h

-- what follows begins with no space, where its pieces begin with a byte
tail_no_space : (pieces : List Piece) (text : Text) → begins_some pieces ≡ true → IsTail pieces text → Avoids IsSpace text
tail_no_space pieces text h t = λ b more is space.
    first_of t.front (no_space_spelled pieces (begins_no_space pieces h) t.front t.spelled) (begins_bytes pieces h t.front t.spelled) b more
    (sym t.is ∙ is) space
  where
    first_of : (front : Text) → Avoids IsSpace front → 0 < length front → (b : ℕ) (more : Text) → front ++ (t.spaces ++ t.end) ≡ b ∷ more
        → IsSpace b → ⊥
    first_of [] avoids some b more is space = absurd (omega (arith, some))
    first_of (x ∷ front) avoids some b more is space =
        let same : x ≡ b = cc in avoids x front refl (same ∙ space)

tail_no_figure : (pieces : List Piece) (text : Text) → no_figure pieces ≡ true → IsTail pieces text → Avoids IsFigure text
tail_no_figure pieces text h t = subst (λ (l : Text). Avoids IsFigure l) (sym t.is)
    (avoids_after IsFigure t.front t.spaces t.end (no_figure_spelled pieces h t.front t.spelled) t.are t.line_end (λ f. omega (arith, f))
    (λ f. omega (arith, f)))

-- ---- one piece

-- fronts of one text that are as long
pub same_front : (s t u v : Text) → s ++ u ≡ t ++ v → length s ≡ length t → s ≡ t
same_front [] [] u v e l = refl
same_front [] (y ∷ t) u v e l = absurd (omega (arith, l))
same_front (x ∷ s) [] u v e l = absurd (omega (arith, l))
same_front (x ∷ s) (y ∷ t) u v e l =
    let first : x ≡ y = cc in
    let others : s ++ u ≡ t ++ v = cc in
    let long : suc (length s) ≡ suc (length t) = l in
    ap (λ k. x ∷ k) (same_front s t u v others (omega (arith, long))) ∙ ap (λ z. z ∷ t) first

digits_long : (bytes : List ℕ) (s : Text) → SpellsDigits bytes s → length s ≡ 2 * length bytes
digits_long [] s e = ap length e
digits_long (b ∷ bytes) s (h, l, rest, e, are, spelled) =
    let more = digits_long bytes rest spelled in
    let long : length s ≡ suc (suc (length rest)) = ap length e in
    let twice : suc (suc (length rest)) ≡ 2 * suc (length bytes) = omega (arith, more) in
    long ∙ twice

-- what comes before texts that are as long
pub same_back : (s t u v : Text) → s ++ u ≡ t ++ v → u ≡ v → s ≡ t
same_back s t u v e f =
    let left = length-append s u in
    let right = length-append t v in
    let all : length (s ++ u) ≡ length (t ++ v) = ap length e in
    let back : length u ≡ length v = ap length f in
    same_front s t u v e (omega (arith, left, right, all, back))

one_name : (bytes : List ℕ) (s t u v : Text) → SpellsName bytes s → SpellsName bytes t → s ++ u ≡ t ++ v → s ≡ t
one_name bytes s t u v (inside, x, spelled) (within, y, too) e =
    let left : s ++ u ≡ 0x22 ∷ (inside ++ 0x22 ∷ u) = ap (λ l. l ++ u) x ∙ ap (λ l. 0x22 ∷ l) (append_assoc inside (0x22 ∷ []) u) in
    let right : t ++ v ≡ 0x22 ∷ (within ++ 0x22 ∷ v) = ap (λ l. l ++ v) y ∙ ap (λ l. 0x22 ∷ l) (append_assoc within (0x22 ∷ []) v) in
    let all : 0x22 ∷ (inside ++ 0x22 ∷ u) ≡ 0x22 ∷ (within ++ 0x22 ∷ v) = sym left ∙ e ∙ right in
    let same : inside ++ 0x22 ∷ u ≡ within ++ 0x22 ∷ v = cc in
    same_back s t u v e (one_name_bytes bytes bytes inside within u v spelled too same).1

pub one_piece : (piece : Piece) (rest : List Piece) (s t u v : Text) → certain (piece ∷ rest) ≡ true → SpellsPiece loose piece s
    → SpellsPiece loose piece t → IsTail rest u → IsTail rest v → s ++ u ≡ t ++ v → s ≡ t
one_piece (byte value) rest s t u v h p q a b e = p ∙ sym q
one_piece gap rest s t u v h p q a b e =
    let here = (both_true (begins_some rest) (certain rest) h).0 in
    (one_run IsSpace s t u v p.1 q.1 e (tail_no_space rest u here a) (tail_no_space rest v here b)).0
one_piece (figure most n) rest s t u v h p q a b e =
    let here = (both_true (no_figure rest) (certain rest) h).0 in
    (one_run IsFigure s t u v (all_figures s p.0.1) (all_figures t q.0.1) e (tail_no_figure rest u here a) (tail_no_figure rest v here b)).0
one_piece (position n) rest s t u v h p q a b e =
    let here = (both_true (no_figure rest) (certain rest) h).0 in
    (one_run IsFigure s t u v (all_figures s p.1) (all_figures t q.1) e (tail_no_figure rest u here a) (tail_no_figure rest v here b)).0
one_piece (count n) rest s t u v h p q a b e =
    let here = (both_true (no_figure rest) (certain rest) h).0 in
    (one_run IsFigure s t u v (all_figures s p.1) (all_figures t q.1) e (tail_no_figure rest u here a) (tail_no_figure rest v here b)).0
one_piece (name bytes) rest s t u v h p q a b e = one_name bytes s t u v p q e
one_piece (digits bytes) rest s t u v h p q a b e = same_front s t u v e (digits_long bytes s p ∙ sym (digits_long bytes t q))
one_piece (expression n) rest s t u v h p q a b e = p ∙ sym q
one_piece (block n) rest s t u v h p q a b e = p ∙ sym q

pub certain_rest : (piece : Piece) (rest : List Piece) → certain (piece ∷ rest) ≡ true → certain rest ≡ true
certain_rest (byte v) rest h = h
certain_rest gap rest h = (both_true (begins_some rest) (certain rest) h).1
certain_rest (figure most n) rest h = (both_true (no_figure rest) (certain rest) h).1
certain_rest (position n) rest h = (both_true (no_figure rest) (certain rest) h).1
certain_rest (count n) rest h = (both_true (no_figure rest) (certain rest) h).1
certain_rest (name bytes) rest h = h
certain_rest (digits bytes) rest h = h
certain_rest (expression n) rest h = h
certain_rest (block n) rest h = h

pub certain_later : (xs ys : List Piece) → certain (xs ++ ys) ≡ true → certain ys ≡ true
certain_later [] ys h = h
certain_later (x ∷ xs) ys h = certain_later xs ys (certain_rest x (xs ++ ys) h)

-- what follows the same bytes
pub same_rest : (s t u v : Text) → s ++ u ≡ t ++ v → s ≡ t → u ≡ v
same_rest s t u v e f = cancel t u v (ap (λ l. l ++ u) (sym f) ∙ e)
  where
    cancel : (w x y : Text) → w ++ x ≡ w ++ y → x ≡ y
    cancel [] x y e = e
    cancel (b ∷ w) x y e = cancel w x y (let h : b ∷ (w ++ x) ≡ b ∷ (w ++ y) = e in cc)

-- ---- the first of some pieces

pub one_front : (xs ys : List Piece) (s t u v : Text) → certain (xs ++ ys) ≡ true → Spells loose xs s → Spells loose xs t → IsTail ys u
    → IsTail ys v → s ++ u ≡ t ++ v → s ≡ t
one_front [] ys s t u v h p q a b e = p ∙ sym q
one_front (piece ∷ xs) ys s t u v h (first, rest, e, spelled, more) (begin, others, f, too, further) a b same =
    let all : first ++ (rest ++ u) ≡ begin ++ (others ++ v) =
    sym (append_assoc first rest u) ∙ ap (λ l. l ++ u) (sym e) ∙ same ∙ ap (λ l. l ++ v) f ∙ append_assoc begin others v in
    let here = one_piece piece (xs ++ ys) first begin (rest ++ u) (others ++ v) h spelled too (tail_more xs ys rest u more a)
    (tail_more xs ys others v further b) all in
    let there = one_front xs ys rest others u v (certain_rest piece (xs ++ ys) h) more further a b
    (same_rest first begin (rest ++ u) (others ++ v) all here) in
    e ∙ ap (λ l. l ++ rest) here ∙ ap (λ l. begin ++ l) there ∙ sym f
