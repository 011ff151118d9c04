-- What bytes spell, where two lists of pieces are spelled by the same bytes and begin with pieces of one kind.
use Rattle.std.proofs.Common.{◌≡◌, ℕ, ◌/◌, List, [], ◌∷◌, ◌++◌, true, refl, sym, ap, subst, ◌∙◌, append_assoc}
use Rattle.std.specs.Str.Parse.{IsNumeral, digits_value}
use Rattle.mufom_text.specs.Words.{Text}
use Rattle.mufom_build_text.specs.Pieces.{Piece, byte, gap, figure, position, count, name, digits, expression, block, loose, Spells}
use Rattle.mufom_build_text.specs.Pieces.{SpellsDigits, SpellsNameBytes}
use Rattle.mufom_build_text.specs.Loosely.{Avoids, IsSpace, IsFigure, IsHex, no_space, no_figure, no_hex}
use Rattle.mufom_build_text.proofs.FirstBytes.{one_run, all_figures, no_space_spelled, no_figure_spelled, no_hex_spelled}
use Rattle.mufom_build_text.proofs.Names.{same_digits, no_quote, one_name_byte}

-- the same bytes spell each of the two
pub record Both (xs ys : List Piece) : Type 0 where
  pub text : Text
  pub left : Spells loose xs text
  pub right : Spells loose ys text

-- ---- a piece of one kind in each

-- what follows the same bytes
after : (s t u v r : Text) (ys : List Piece) → r ≡ s ++ u → r ≡ t ++ v → s ≡ t → Spells loose ys v → Spells loose ys u
after s t u v r ys e f same spelled =
    let e' : r ≡ t ++ u = e ∙ ap (λ l. l ++ u) same in
    subst (λ (l : Text). Spells loose ys l) (sym (cancel t u v (sym e' ∙ f))) spelled
  where
    cancel : (w x y : Text) → w ++ x ≡ w ++ y → x ≡ y
    cancel [] x y e = e
    cancel (b ∷ w) x y e = cancel w x y (let h : b ∷ (w ++ x) ≡ b ∷ (w ++ y) = e in cc)

pub byte_both : (v : ℕ) (xs ys : List Piece) → Both (byte v ∷ xs) (byte v ∷ ys) → Both xs ys
byte_both v xs ys both =
    let (a, s, e, x, p) = both.left in
    let (b, t, f, y, q) = both.right in
    record { text = s; left = p; right = after a b s t both.text ys e f (x ∙ sym y) q }

-- where a piece is spelled by no bytes
nothing_first : (xs : List Piece) (s first rest : Text) → s ≡ first ++ rest → first ≡ [] → Spells loose xs rest → Spells loose xs s
nothing_first xs s first rest e f spelled = subst (λ (l : Text). Spells loose xs l) (sym (e ∙ ap (λ l. l ++ rest) f)) spelled

pub expression_both : (m n : ℕ) (xs ys : List Piece) → Both (expression m ∷ xs) (expression n ∷ ys) → Both xs ys
expression_both m n xs ys both =
    let (a, s, e, x, p) = both.left in
    let (b, t, f, y, q) = both.right in
    record { text = both.text; left = nothing_first xs both.text a s e x p; right = nothing_first ys both.text b t f y q }

pub block_both : (m n : ℕ) (xs ys : List Piece) → Both (block m ∷ xs) (block n ∷ ys) → Both xs ys
block_both m n xs ys both =
    let (a, s, e, x, p) = both.left in
    let (b, t, f, y, q) = both.right in
    record { text = both.text; left = nothing_first xs both.text a s e x p; right = nothing_first ys both.text b t f y q }

pub gap_both : (xs ys : List Piece) → no_space xs ≡ true → no_space ys ≡ true → Both (gap ∷ xs) (gap ∷ ys) → Both xs ys
gap_both xs ys g h both =
    let (a, s, e, x, p) = both.left in
    let (b, t, f, y, q) = both.right in
    let (same, rest) = one_run IsSpace a b s t x.1 y.1 (sym e ∙ f) (no_space_spelled xs g s p) (no_space_spelled ys h t q) in
    record { text = s; left = p; right = subst (λ (l : Text). Spells loose ys l) (sym rest) q }

-- the digits of two numbers
numerals : (xs ys : List Piece) (r a s b t : Text) → r ≡ a ++ s → r ≡ b ++ t → IsNumeral 10 a → IsNumeral 10 b → no_figure xs ≡ true
    → no_figure ys ≡ true
    → Spells loose xs s → Spells loose ys t → (a ≡ b) × Both xs ys
numerals xs ys r a s b t e f x y g h p q =
    let (same, rest) = one_run IsFigure a b s t (all_figures a x.1) (all_figures b y.1) (sym e ∙ f)
    (no_figure_spelled xs g s p) (no_figure_spelled ys h t q) in
    (same, record { text = s; left = p; right = subst (λ (l : Text). Spells loose ys l) (sym rest) q })

pub figure_both : (most m other n : ℕ) (xs ys : List Piece) → no_figure xs ≡ true → no_figure ys ≡ true
    → Both (figure most m ∷ xs) (figure other n ∷ ys) → (m ≡ n) × Both xs ys
figure_both most m other n xs ys g h both =
    let (a, s, e, (x, i), p) = both.left in
    let (b, t, f, (y, j), q) = both.right in
    let (same, rest) = numerals xs ys both.text a s b t e f x y g h p q in
    (sym i ∙ ap (λ l. digits_value 10 l) same ∙ j, rest)

pub position_both : (m n : ℕ) (xs ys : List Piece) → no_figure xs ≡ true → no_figure ys ≡ true → Both (position m ∷ xs) (position n ∷ ys) → Both xs ys
position_both m n xs ys g h both =
    let (a, s, e, x, p) = both.left in
    let (b, t, f, y, q) = both.right in
    (numerals xs ys both.text a s b t e f x y g h p q).1

pub count_both : (m n : ℕ) (xs ys : List Piece) → no_figure xs ≡ true → no_figure ys ≡ true → Both (count m ∷ xs) (count n ∷ ys) → Both xs ys
count_both m n xs ys g h both =
    let (a, s, e, x, p) = both.left in
    let (b, t, f, y, q) = both.right in
    (numerals xs ys both.text a s b t e f x y g h p q).1

-- ---- bytes by their digits, and names

one_digits : (xs ys : List ℕ) (s t u v : Text) → SpellsDigits xs s → SpellsDigits ys t → s ++ u ≡ t ++ v → Avoids IsHex u → Avoids IsHex v → xs ≡ ys
one_digits [] [] s t u v p q same left right = refl
one_digits [] (y ∷ ys) s t u v p (h, l, b, e, are, more) same left right =
    let k : u ≡ h ∷ (l ∷ (b ++ v)) = ap (λ w. w ++ u) (sym p) ∙ same ∙ ap (λ w. w ++ v) e in
    absurd (left h (l ∷ (b ++ v)) k (y / 16, are.0))
one_digits (x ∷ xs) [] s t u v (h, l, a, e, are, more) q same left right =
    let k : v ≡ h ∷ (l ∷ (a ++ u)) = ap (λ w. w ++ v) (sym q) ∙ sym same ∙ ap (λ w. w ++ u) e in
    absurd (right h (l ∷ (a ++ u)) k (x / 16, are.0))
one_digits (x ∷ xs) (y ∷ ys) s t u v (h, l, a, e, are, more) (i, m, b, f, too, others) same left right =
    let k : h ∷ (l ∷ (a ++ u)) ≡ i ∷ (m ∷ (b ++ v)) = ap (λ w. w ++ u) (sym e) ∙ same ∙ ap (λ w. w ++ v) f in
    let high : h ≡ i = cc in
    let low : l ≡ m = cc in
    let rest : a ++ u ≡ b ++ v = cc in
    let first = same_digits x y h l i m are too high low in
    ap (λ z. z ∷ xs) first ∙ ap (λ w. y ∷ w) (one_digits xs ys a b u v more others rest left right)

-- digits are the last piece of their line
pub digits_both : (bs cs : List ℕ) (xs ys : List Piece) → no_hex xs ≡ true → no_hex ys ≡ true → Both (digits bs ∷ xs) (digits cs ∷ ys) → bs ≡ cs
digits_both bs cs xs ys g h both =
    let (a, s, e, p, more) = both.left in
    let (b, t, f, q, others) = both.right in
    one_digits bs cs a b s t p q (sym e ∙ f) (no_hex_spelled xs g s more) (no_hex_spelled ys h t others)

append_more : (s t u : Text) → (s ++ t) ++ 0x22 ∷ u ≡ s ++ (t ++ 0x22 ∷ u)
append_more s t u = append_assoc s t (0x22 ∷ u)

pub one_name : (xs ys : List ℕ) (s t u v : Text) → SpellsNameBytes xs s → SpellsNameBytes ys t → s ++ 0x22 ∷ u ≡ t ++ 0x22 ∷ v → (xs ≡ ys) × (u ≡ v)
one_name [] [] s t u v p q same =
    let k : 0x22 ∷ u ≡ 0x22 ∷ v = ap (λ l. l ++ 0x22 ∷ u) (sym p) ∙ same ∙ ap (λ l. l ++ 0x22 ∷ v) q in (refl, cc)
one_name [] (y ∷ ys) s t u v p (first, rest, f, here, more) same =
    absurd (no_quote y first (rest ++ 0x22 ∷ v) u here
    (sym (append_more first rest v) ∙ ap (λ l. l ++ 0x22 ∷ v) (sym f) ∙ sym same ∙ ap (λ l. l ++ 0x22 ∷ u) p))
one_name (x ∷ xs) [] s t u v (first, rest, e, here, more) q same =
    absurd (no_quote x first (rest ++ 0x22 ∷ u) v here
    (sym (append_more first rest u) ∙ ap (λ l. l ++ 0x22 ∷ u) (sym e) ∙ same ∙ ap (λ l. l ++ 0x22 ∷ v) q))
one_name (x ∷ xs) (y ∷ ys) s t u v (first, rest, e, here, more) (front, back, f, there, others) same =
    let k = sym (append_more first rest u) ∙ ap (λ l. l ++ 0x22 ∷ u) (sym e) ∙ same ∙ ap (λ l. l ++ 0x22 ∷ v) f ∙ append_more front back v in
    let (a, b) = one_name_byte x y first front (rest ++ 0x22 ∷ u) (back ++ 0x22 ∷ v) here there k in
    let (c, d) = one_name xs ys rest back u v more others b in
    (ap (λ z. z ∷ xs) a ∙ ap (λ w. y ∷ w) c, d)

pub name_both : (m n : List ℕ) (xs ys : List Piece) → Both (name m ∷ xs) (name n ∷ ys) → (m ≡ n) × Both xs ys
name_both m n xs ys both =
    let (a, s, e, (inside, x, spelled), p) = both.left in
    let (b, t, f, (within, y, too), q) = both.right in
    let left : both.text ≡ 0x22 ∷ (inside ++ 0x22 ∷ s) = e ∙ ap (λ l. l ++ s) x ∙ ap (λ l. 0x22 ∷ l) (append_assoc inside (0x22 ∷ []) s) in
    let right : both.text ≡ 0x22 ∷ (within ++ 0x22 ∷ t) = f ∙ ap (λ l. l ++ t) y ∙ ap (λ l. 0x22 ∷ l) (append_assoc within (0x22 ∷ []) t) in
    let all : 0x22 ∷ (inside ++ 0x22 ∷ s) ≡ 0x22 ∷ (within ++ 0x22 ∷ t) = sym left ∙ right in
    let same : inside ++ 0x22 ∷ s ≡ within ++ 0x22 ∷ t = cc in
    let (names, rest) = one_name m n inside within s t spelled too same in
    (names, record { text = s; left = p; right = subst (λ (l : Text). Spells loose ys l) (sym rest) q })
