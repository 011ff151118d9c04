-- No two lines of a listing that state something else have the same bytes.
use Rattle.std.proofs.Common.{◌≡◌, ℕ, ◌==◌, Bool, true, false, List, [], ◌∷◌, ◌++◌, length, codes, Option, Some, None}
use Rattle.std.proofs.Common.{refl, ap, subst, ◌∙◌, append_assoc, arith}
use Rattle.mufom_expr.specs.declared.token.FieldKind.{FieldKind}
use Rattle.mufom_expr.specs.declared.token.FieldKind.TheVariants as kinds
use Rattle.mufom_expr.specs.Tree.{Tree, tokens_of}
use Rattle.mufom_sections.specs.declared.section.Section.{Section}
use Rattle.mufom_sections.specs.declared.section.Purpose.{Purpose}
use Rattle.mufom_sections.specs.declared.section.Purpose.TheVariants as purposes
use Rattle.mufom_names.specs.declared.name.Weak.{Weak}
use Rattle.mufom_debug.specs.declared.item.BlockHead.{BlockHead}
use Rattle.mufom_debug.specs.declared.item.BlockHead.TheVariants as blocks
use Rattle.mufom_debug.specs.Marks.{kind_number}
use Rattle.mufom_module.specs.declared.module.Order.{Order}
use Rattle.mufom_module.specs.declared.module.Order.TheVariants as orders
use Rattle.mufom_text.specs.Show.{order_letter, type_letters, purpose_letter, kind_text}
use Rattle.mufom_build_text.specs.Pieces.{Piece, gap, figure, name, digits, expression, words, infix_pieces, value_pieces}
use Rattle.mufom_build_text.specs.Pieces.{MOST_BYTE, MOST_POSITION, MOST_NUMBER}
use Rattle.mufom_build.specs.Lines.{base_pieces, weak_pieces, scope_pieces, part_pieces, head_pieces}
use Rattle.mufom_build.specs.Marked.{end_value_pieces, spaced_digits}
use Rattle.mufom_build_text.specs.Loosely.{no_space, no_figure}
use Rattle.mufom_build.proofs.OnePiece.{Both}
use Rattle.mufom_build.proofs.OneWord.{words_both, words_differ, number_is_no_word, nothing_is_no_word, turned}
use Rattle.mufom_build.proofs.OneWord.{past_gap, past_figure, past_position, past_count, past_name}
use Rattle.mufom_build.proofs.OneTree.{changed, infix_no_space}
use Rattle.mufom_build.proofs.OneRow.{IsTail, tail_no_figure, tail_is_no_more}
use Rattle.mufom_build.proofs.OneRow.{nothing_is_no_digits, tail_digits, valued, assigned, numbered, noted}
use Rattle.mufom_build.specs.Rows.{Keyword, on_module, on_extension, on_environment, on_section, on_public, on_note, on_reference}
use Rattle.mufom_build.specs.Rows.{on_block, on_end, on_name, on_value, on_select, on_counter, on_bytes, on_field, on_repeat}
use Rattle.mufom_build.specs.Rows.{on_start, Payload, named_note, rest_pieces}

-- ---- words of which one has to be chosen

one_kind : (a b : FieldKind) (xs ys : List Piece) → Both (words (kind_text a) ++ xs) (words (kind_text b) ++ ys) → (a ≡ b) × Both xs ys
one_kind kinds.Signed kinds.Signed xs ys both = (refl, words_both (codes "signed") xs ys refl both)
one_kind kinds.Unsigned kinds.Unsigned xs ys both = (refl, words_both (codes "unsigned") xs ys refl both)
one_kind kinds.Either kinds.Either xs ys both = (refl, words_both (codes "either") xs ys refl both)
one_kind kinds.Signed kinds.Unsigned xs ys both = absurd (words_differ (codes "signed") (codes "unsigned") xs ys refl both)
one_kind kinds.Signed kinds.Either xs ys both = absurd (words_differ (codes "signed") (codes "either") xs ys refl both)
one_kind kinds.Unsigned kinds.Signed xs ys both = absurd (words_differ (codes "unsigned") (codes "signed") xs ys refl both)
one_kind kinds.Unsigned kinds.Either xs ys both = absurd (words_differ (codes "unsigned") (codes "either") xs ys refl both)
one_kind kinds.Either kinds.Signed xs ys both = absurd (words_differ (codes "either") (codes "signed") xs ys refl both)
one_kind kinds.Either kinds.Unsigned xs ys both = absurd (words_differ (codes "either") (codes "unsigned") xs ys refl both)

one_order : (a b : Order) (xs ys : List Piece) → Both (words (order_letter a) ++ xs) (words (order_letter b) ++ ys) → a ≡ b
one_order orders.Least orders.Least xs ys both = refl
one_order orders.Most orders.Most xs ys both = refl
one_order orders.Least orders.Most xs ys both = absurd (words_differ (codes "L") (codes "M") xs ys refl both)
one_order orders.Most orders.Least xs ys both = absurd (words_differ (codes "M") (codes "L") xs ys refl both)

one_type : (a b : Bool) (xs ys : List Piece) → Both (words (type_letters a) ++ xs) (words (type_letters b) ++ ys) → (a ≡ b) × Both xs ys
one_type true true xs ys both = (refl, words_both (codes "AS") xs ys refl both)
one_type false false xs ys both = (refl, words_both (codes "C") xs ys refl both)
one_type true false xs ys both = absurd (words_differ (codes "AS") (codes "C") xs ys refl both)
one_type false true xs ys both = absurd (words_differ (codes "C") (codes "AS") xs ys refl both)

-- the purpose of a section, and its size
abbrev sized : List Piece → List Piece
sized xs = words (codes " size") ++ xs

one_purpose : (a b : Option Purpose) (xs ys : List Piece) → Both (words (purpose_letter a) ++ sized xs) (words (purpose_letter b) ++ sized ys)
    → (a ≡ b) × Both xs ys
one_purpose None None xs ys both = (refl, words_both (codes " size") xs ys refl both)
one_purpose (Some purposes.Code) (Some purposes.Code) xs ys both = (refl, words_both (codes "P size") xs ys refl both)
one_purpose (Some purposes.Data) (Some purposes.Data) xs ys both = (refl, words_both (codes "D size") xs ys refl both)
one_purpose (Some purposes.Rom) (Some purposes.Rom) xs ys both = (refl, words_both (codes "R size") xs ys refl both)
one_purpose None (Some purposes.Code) xs ys both = absurd (words_differ (codes " size") (codes "P size") xs ys refl both)
one_purpose None (Some purposes.Data) xs ys both = absurd (words_differ (codes " size") (codes "D size") xs ys refl both)
one_purpose None (Some purposes.Rom) xs ys both = absurd (words_differ (codes " size") (codes "R size") xs ys refl both)
one_purpose (Some purposes.Code) None xs ys both = absurd (words_differ (codes "P size") (codes " size") xs ys refl both)
one_purpose (Some purposes.Data) None xs ys both = absurd (words_differ (codes "D size") (codes " size") xs ys refl both)
one_purpose (Some purposes.Rom) None xs ys both = absurd (words_differ (codes "R size") (codes " size") xs ys refl both)
one_purpose (Some purposes.Code) (Some purposes.Data) xs ys both = absurd (words_differ (codes "P size") (codes "D size") xs ys refl both)
one_purpose (Some purposes.Code) (Some purposes.Rom) xs ys both = absurd (words_differ (codes "P size") (codes "R size") xs ys refl both)
one_purpose (Some purposes.Data) (Some purposes.Code) xs ys both = absurd (words_differ (codes "D size") (codes "P size") xs ys refl both)
one_purpose (Some purposes.Data) (Some purposes.Rom) xs ys both = absurd (words_differ (codes "D size") (codes "R size") xs ys refl both)
one_purpose (Some purposes.Rom) (Some purposes.Code) xs ys both = absurd (words_differ (codes "R size") (codes "P size") xs ys refl both)
one_purpose (Some purposes.Rom) (Some purposes.Data) xs ys both = absurd (words_differ (codes "R size") (codes "D size") xs ys refl both)

-- ---- what may be at the end of a line

base_no_figure : (base : Option ℕ) (xs : List Piece) → IsTail xs → no_figure (base_pieces base ++ xs) ≡ true
base_no_figure None xs t = tail_no_figure xs t
base_no_figure (Some n) xs t = refl

one_base : (a b : Option ℕ) (xs ys : List Piece) → IsTail xs → IsTail ys → Both (base_pieces a ++ xs) (base_pieces b ++ ys) → a ≡ b
one_base None None xs ys t u both = refl
one_base None (Some n) xs ys t u both = absurd (tail_is_no_more xs _ t refl (nothing_is_no_word 0x62 _) both)
one_base (Some m) None xs ys t u both = absurd (tail_is_no_more ys _ u refl (nothing_is_no_word 0x62 _) (turned _ _ both))
one_base (Some m) (Some n) xs ys t u both =
    let a : Both (gap ∷ figure MOST_NUMBER m ∷ xs) (gap ∷ figure MOST_NUMBER n ∷ ys) = words_both (codes " base") _ _ refl both in
    ap Some (past_figure (past_gap a refl refl) (tail_no_figure xs t) (tail_no_figure ys u)).0

one_weak : (a b : Option Weak) (xs ys : List Piece) → IsTail xs → IsTail ys → Both (weak_pieces a ++ xs) (weak_pieces b ++ ys) → a ≡ b
one_weak None None xs ys t u both = refl
one_weak None (Some n) xs ys t u both = absurd (tail_is_no_more xs _ t refl (nothing_is_no_word 0x77 _) both)
one_weak (Some m) None xs ys t u both = absurd (tail_is_no_more ys _ u refl (nothing_is_no_word 0x77 _) (turned _ _ both))
one_weak (Some m) (Some n) xs ys t u both =
    let a : Both (gap ∷ figure MOST_NUMBER m.size ∷ _) (gap ∷ figure MOST_NUMBER n.size ∷ _) = words_both (codes " weak size") _ _ refl both in
    let (sizes, b) = past_figure (past_gap a refl refl) refl refl in
    let c : Both (gap ∷ figure MOST_NUMBER m.default ∷ xs) (gap ∷ figure MOST_NUMBER n.default ∷ ys) = words_both (codes " default") _ _ refl b in
    let (defaults, d) = past_figure (past_gap c refl refl) (tail_no_figure xs t) (tail_no_figure ys u) in
    ap Some (λ i. record { size = sizes i; default = defaults i })

one_end : (a b : Option Tree) (xs ys : List Piece) → IsTail xs → IsTail ys → Both (end_value_pieces a ++ xs) (end_value_pieces b ++ ys) → a ≡ b
one_end None None xs ys t u both = refl
one_end None (Some v) xs ys t u both = absurd (tail_is_no_more xs _ t refl (nothing_is_no_word 0x3D _) both)
one_end (Some v) None xs ys t u both = absurd (tail_is_no_more ys _ u refl (nothing_is_no_word 0x3D _) (turned _ _ both))
one_end (Some v) (Some w) xs ys t u both = ap Some (assigned v w xs ys t u both)

spaced_digits_no_figure : (bytes : List ℕ) (xs : List Piece) → IsTail xs → no_figure (spaced_digits bytes ++ xs) ≡ true
spaced_digits_no_figure [] xs t = tail_no_figure xs t
spaced_digits_no_figure (b ∷ bytes) xs t = refl

one_literal : (a b : List ℕ) (xs ys : List Piece) → IsTail xs → IsTail ys → Both (spaced_digits a ++ xs) (spaced_digits b ++ ys) → a ≡ b
one_literal [] [] xs ys t u both = refl
one_literal [] (b ∷ bs) xs ys t u both = absurd (tail_is_no_more xs _ t refl (nothing_is_no_digits b bs _) both)
one_literal (a ∷ more) [] xs ys t u both = absurd (tail_is_no_more ys _ u refl (nothing_is_no_digits a more _) (turned _ _ both))
one_literal (a ∷ more) (b ∷ bs) xs ys t u both = tail_digits (a ∷ more) (b ∷ bs) xs ys t u (past_gap both refl refl)

-- ---- blocks

pub unlike : (m n : ℕ) → (m == n) ≡ false → m ≡ n → ⊥
unlike m n e same = let h : (n == n) ≡ false = subst (λ (x : ℕ). (x == n) ≡ false) same e in grind arith

-- what is stated of a function
abbrev Scoped : ℕ → ℕ → ℕ → ℕ → Tree → Tree → Type 0
Scoped s r a b v w = (s ≡ r) × (a ≡ b) × (v ≡ w)

one_scope : (s r a b : ℕ) (v w : Tree) (xs ys : List Piece) → IsTail xs → IsTail ys → Both (scope_pieces s a v ++ xs) (scope_pieces r b w ++ ys)
    → Scoped s r a b v w
one_scope s r a b v w xs ys t u both =
    let c : Both (gap ∷ figure MOST_NUMBER s ∷ _) (gap ∷ figure MOST_NUMBER r ∷ _) = words_both (codes " stack") _ _ refl both in
    let (stacks, d) = past_figure (past_gap c refl refl) refl refl in
    let e : Both (gap ∷ figure MOST_NUMBER a ∷ _) (gap ∷ figure MOST_NUMBER b ∷ _) = words_both (codes " type") _ _ refl d in
    let (types, f) = past_figure (past_gap e refl refl) refl refl in
    let g : Both (gap ∷ expression (length (tokens_of v)) ∷ (infix_pieces v ++ xs))
    (gap ∷ expression (length (tokens_of w)) ∷ (infix_pieces w ++ ys)) =
    words_both (codes " offset") _ _ refl f in
    (stacks, types, valued v w xs ys t u (past_gap g (infix_no_space v xs) (infix_no_space w ys)))

one_part : (s r a b : ℕ) (v w : Tree) (xs ys : List Piece) → IsTail xs → IsTail ys → Both (part_pieces s a v ++ xs) (part_pieces r b w ++ ys)
    → Scoped s r a b v w
one_part s r a b v w xs ys t u both =
    let c : Both (gap ∷ figure MOST_NUMBER s ∷ _) (gap ∷ figure MOST_NUMBER r ∷ _) = words_both (codes " section-type") _ _ refl both in
    let (types, d) = past_figure (past_gap c refl refl) refl refl in
    let e : Both (gap ∷ figure MOST_POSITION a ∷ _) (gap ∷ figure MOST_POSITION b ∷ _) = words_both (codes " section") _ _ refl d in
    let (sections, f) = past_figure (past_gap e refl refl) refl refl in
    let g : Both (gap ∷ expression (length (tokens_of v)) ∷ (infix_pieces v ++ xs))
    (gap ∷ expression (length (tokens_of w)) ∷ (infix_pieces w ++ ys)) =
    words_both (codes " offset") _ _ refl f in
    (types, sections, valued v w xs ys t u (past_gap g (infix_no_space v xs) (infix_no_space w ys)))

one_head : (h j : BlockHead) (xs ys : List Piece) → IsTail xs → IsTail ys → kind_number h ≡ kind_number j
    → Both (head_pieces h ++ xs) (head_pieces j ++ ys)
    → h ≡ j
one_head blocks.Module blocks.Module xs ys t u k both = refl
one_head (blocks.Global s a v) (blocks.Global r b w) xs ys t u k both =
    let (stacks, types, offsets) = one_scope s r a b v w xs ys t u both in λ i. blocks.Global (stacks i) (types i) (offsets i)
one_head (blocks.Local s a v) (blocks.Local r b w) xs ys t u k both =
    let (stacks, types, offsets) = one_scope s r a b v w xs ys t u both in λ i. blocks.Local (stacks i) (types i) (offsets i)
one_head (blocks.Source ns) (blocks.Source ms) xs ys t u k both =
    let same = numbered ns.items ms.items xs ys t u both in λ i. blocks.Source (record { items = same i })
one_head (blocks.Section s a v) (blocks.Section r b w) xs ys t u k both =
    let (types, sections, offsets) = one_part s r a b v w xs ys t u both in λ i. blocks.Section (types i) (sections i) (offsets i)
one_head blocks.Module (blocks.Global r b w) xs ys t u k both = absurd (unlike 3 4 refl k)
one_head blocks.Module (blocks.Source ms) xs ys t u k both = absurd (unlike 3 5 refl k)
one_head blocks.Module (blocks.Local r b w) xs ys t u k both = absurd (unlike 3 6 refl k)
one_head blocks.Module (blocks.Section r b w) xs ys t u k both = absurd (unlike 3 11 refl k)
one_head (blocks.Global s a v) blocks.Module xs ys t u k both = absurd (unlike 4 3 refl k)
one_head (blocks.Global s a v) (blocks.Source ms) xs ys t u k both = absurd (unlike 4 5 refl k)
one_head (blocks.Global s a v) (blocks.Local r b w) xs ys t u k both = absurd (unlike 4 6 refl k)
one_head (blocks.Global s a v) (blocks.Section r b w) xs ys t u k both = absurd (unlike 4 11 refl k)
one_head (blocks.Source ns) blocks.Module xs ys t u k both = absurd (unlike 5 3 refl k)
one_head (blocks.Source ns) (blocks.Global r b w) xs ys t u k both = absurd (unlike 5 4 refl k)
one_head (blocks.Source ns) (blocks.Local r b w) xs ys t u k both = absurd (unlike 5 6 refl k)
one_head (blocks.Source ns) (blocks.Section r b w) xs ys t u k both = absurd (unlike 5 11 refl k)
one_head (blocks.Local s a v) blocks.Module xs ys t u k both = absurd (unlike 6 3 refl k)
one_head (blocks.Local s a v) (blocks.Global r b w) xs ys t u k both = absurd (unlike 6 4 refl k)
one_head (blocks.Local s a v) (blocks.Source ms) xs ys t u k both = absurd (unlike 6 5 refl k)
one_head (blocks.Local s a v) (blocks.Section r b w) xs ys t u k both = absurd (unlike 6 11 refl k)
one_head (blocks.Section s a v) blocks.Module xs ys t u k both = absurd (unlike 11 3 refl k)
one_head (blocks.Section s a v) (blocks.Global r b w) xs ys t u k both = absurd (unlike 11 4 refl k)
one_head (blocks.Section s a v) (blocks.Source ms) xs ys t u k both = absurd (unlike 11 5 refl k)
one_head (blocks.Section s a v) (blocks.Local r b w) xs ys t u k both = absurd (unlike 11 6 refl k)

-- ---- each kind of line

one_title : (p q : Payload on_module) (m n : ℕ) (xs ys : List Piece) → Both (rest_pieces m on_module p ++ xs) (rest_pieces n on_module q ++ ys)
    → p ≡ q
one_title (a, b, c, d) (a', b', c', d') m n xs ys both =
    let (titles, e) = past_name (past_gap both refl refl) in
    let f : Both (gap ∷ name b ∷ _) (gap ∷ name b' ∷ _) = words_both (codes " processor") _ _ refl e in
    let (processors, g) = past_name (past_gap f refl refl) in
    let h : Both (gap ∷ figure MOST_BYTE c ∷ _) (gap ∷ figure MOST_BYTE c' ∷ _) = words_both (codes " maus") _ _ refl g in
    let (maus, i) = past_figure (past_gap h refl refl) refl refl in
    let j : Both (gap ∷ (words (order_letter d) ++ xs)) (gap ∷ (words (order_letter d') ++ ys)) = words_both (codes " order") _ _ refl i in
    let letters = one_order d d' xs ys (past_gap j (order_no_space d xs) (order_no_space d' ys)) in
    λ k. (titles k, processors k, maus k, letters k)
  where
    order_no_space : (d : Order) (xs : List Piece) → no_space (words (order_letter d) ++ xs) ≡ true
    order_no_space orders.Least xs = refl
    order_no_space orders.Most xs = refl

type_no_space : (a : Bool) (xs : List Piece) → no_space (words (type_letters a) ++ xs) ≡ true
type_no_space true xs = refl
type_no_space false xs = refl

-- what follows the name of a section
abbrev section_end : Section → List Piece → List Piece
section_end s xs = words (type_letters s.absolute) ++ (words (purpose_letter s.purpose) ++ (words (codes " size ")
    ++ (figure MOST_NUMBER s.size ∷ (words (codes " align ") ++ (figure MOST_NUMBER s.align ∷ (base_pieces s.base ++ xs))))))

section_shape : (s : Section) (xs : List Piece) → (words (type_letters s.absolute) ++ (words (purpose_letter s.purpose) ++ (words (codes " size ")
    ++ (figure MOST_NUMBER s.size ∷ (words (codes " align ") ++ (figure MOST_NUMBER s.align ∷ base_pieces s.base)))))) ++ xs ≡ section_end s xs
section_shape s xs = append_assoc (words (type_letters s.absolute)) (words (purpose_letter s.purpose) ++ (words (codes " size ")
    ++ (figure MOST_NUMBER s.size ∷ (words (codes " align ") ++ (figure MOST_NUMBER s.align ∷ base_pieces s.base))))) xs
    ∙ ap (λ l. words (type_letters s.absolute) ++ l) (append_assoc (words (purpose_letter s.purpose)) (words (codes " size ")
    ++ (figure MOST_NUMBER s.size ∷ (words (codes " align ") ++ (figure MOST_NUMBER s.align ∷ base_pieces s.base)))) xs)

one_section : (s r : Section) (m n : ℕ) (xs ys : List Piece) → IsTail xs → IsTail ys
    → Both (rest_pieces m on_section s ++ xs) (rest_pieces n on_section r ++ ys)
    → s ≡ r
one_section s r m n xs ys t u both =
    let a = past_position (past_gap both refl refl) refl refl in
    let (names, b) = past_name (past_gap a refl refl) in
    let shaped = changed (ap (λ l. gap ∷ l) (section_shape s xs)) (ap (λ l. gap ∷ l) (section_shape r ys)) b in
    let (types, c) = one_type s.absolute r.absolute _ _ (past_gap shaped (type_no_space s.absolute _) (type_no_space r.absolute _)) in
    let (uses, d) = one_purpose s.purpose r.purpose (gap ∷ figure MOST_NUMBER s.size ∷ _) (gap ∷ figure MOST_NUMBER r.size ∷ _) c in
    let (sizes, e) = past_figure (past_gap d refl refl) refl refl in
    let f : Both (gap ∷ figure MOST_NUMBER s.align ∷ (base_pieces s.base ++ xs)) (gap ∷ figure MOST_NUMBER r.align ∷ (base_pieces r.base ++ ys)) =
    words_both (codes " align") _ _ refl e in
    let (aligns, g) = past_figure (past_gap f refl refl) (base_no_figure s.base xs t) (base_no_figure r.base ys u) in
    let bases = one_base s.base r.base xs ys t u g in
    λ i. record { name = names i; absolute = types i; purpose = uses i; size = sizes i; align = aligns i; base = bases i }

one_public : (p q : Payload on_public) (m n : ℕ) (xs ys : List Piece) → IsTail xs → IsTail ys
    → Both (rest_pieces m on_public p ++ xs) (rest_pieces n on_public q ++ ys) → p ≡ q
one_public (a, v) (b, w) m n xs ys t u both =
    let c = past_position (past_gap both refl refl) refl refl in
    let (names, d) = past_name (past_gap c refl refl) in
    let values = assigned v w xs ys t u d in
    λ i. (names i, values i)

one_note : (p q : Payload on_note) (xs ys : List Piece) → IsTail xs → IsTail ys → Both (named_note p ++ xs) (named_note q ++ ys) → p ≡ q
one_note (None, a) (None, b) xs ys t u both = let same = noted a b xs ys t u both in λ i. (None, same i)
one_note (Some m, a) (Some n, b) xs ys t u both =
    let (places, c) = past_figure (past_gap both refl refl) refl refl in
    let same = noted a b xs ys t u c in
    λ i. (Some (places i), same i)
one_note (None, a) (Some n, b) xs ys t u both =
    absurd (number_is_no_word MOST_POSITION n 0x74 _ _ refl (turned _ _ (past_gap both refl refl)))
one_note (Some m, a) (None, b) xs ys t u both = absurd (number_is_no_word MOST_POSITION m 0x74 _ _ refl (past_gap both refl refl))

one_reference : (p q : Payload on_reference) (m n : ℕ) (xs ys : List Piece) → IsTail xs → IsTail ys
    → Both (rest_pieces m on_reference p ++ xs) (rest_pieces n on_reference q ++ ys) → p ≡ q
one_reference (a, v) (b, w) m n xs ys t u both =
    let c = past_position (past_gap both refl refl) refl refl in
    let (names, d) = past_name (past_gap c refl refl) in
    let weak = one_weak v w xs ys t u d in
    λ i. (names i, weak i)

one_block : (p q : Payload on_block) (m n : ℕ) (xs ys : List Piece) → IsTail xs → IsTail ys
    → Both (rest_pieces m on_block p ++ xs) (rest_pieces n on_block q ++ ys) → p ≡ q
one_block (h, a) (j, b) m n xs ys t u both =
    let (numbers, c) = past_figure (past_gap both refl refl) refl refl in
    let (names, d) = past_name (past_gap c refl refl) in
    let same = one_head h j xs ys t u numbers d in
    λ i. (same i, names i)

-- a position and a value
one_placed : (m n : ℕ) (v w : Tree) (xs ys : List Piece) → IsTail xs → IsTail ys
    → Both ((gap ∷ figure MOST_POSITION m ∷ (words (codes " = ") ++ value_pieces v)) ++ xs)
    ((gap ∷ figure MOST_POSITION n ∷ (words (codes " = ") ++ value_pieces w)) ++ ys) → (m ≡ n) × (v ≡ w)
one_placed m n v w xs ys t u both =
    let (places, a) = past_figure (past_gap both refl refl) refl refl in
    (places, assigned v w xs ys t u a)

one_field : (p q : Payload on_field) (m n : ℕ) (xs ys : List Piece) → IsTail xs → IsTail ys
    → Both (rest_pieces m on_field p ++ xs) (rest_pieces n on_field q ++ ys) → p ≡ q
one_field (k, s, v) (j, r, w) m n xs ys t u both =
    let shaped = changed (ap (λ l. gap ∷ l) (shape k s v xs)) (ap (λ l. gap ∷ l) (shape j r w ys)) both in
    let (kinds_same, a) = one_kind k j _ _ (past_gap shaped (kind_no_space k _) (kind_no_space j _)) in
    let (sizes, b) = past_figure (past_gap a refl refl) refl refl in
    let values = assigned v w xs ys t u b in
    λ i. (kinds_same i, sizes i, values i)
  where
    kind_no_space : (k : FieldKind) (xs : List Piece) → no_space (words (kind_text k) ++ xs) ≡ true
    kind_no_space kinds.Signed xs = refl
    kind_no_space kinds.Unsigned xs = refl
    kind_no_space kinds.Either xs = refl

    shape : (k : FieldKind) (s : ℕ) (v : Tree) (xs : List Piece)
        → (words (kind_text k) ++ (gap ∷ figure MOST_BYTE s ∷ (words (codes " = ") ++ value_pieces v))) ++ xs
        ≡ words (kind_text k) ++ ((gap ∷ figure MOST_BYTE s ∷ (words (codes " = ") ++ value_pieces v)) ++ xs)
    shape k s v xs = append_assoc (words (kind_text k)) (gap ∷ figure MOST_BYTE s ∷ (words (codes " = ") ++ value_pieces v)) xs

-- a part that is kept as bytes
one_raw : (a b : ℕ) (bytes others : List ℕ) (xs ys : List Piece) → IsTail xs → IsTail ys
    → Both ((gap ∷ digits (a ∷ bytes) ∷ []) ++ xs) ((gap ∷ digits (b ∷ others) ∷ []) ++ ys) → ◌≡◌ {A = ℕ × List ℕ} (a, bytes) (b, others)
one_raw a b bytes others xs ys t u both =
    let same = tail_digits (a ∷ bytes) (b ∷ others) xs ys t u (past_gap both refl refl) in
    let first : a ≡ b = cc in
    let rest : bytes ≡ others = cc in
    λ i. (first i, rest i)

-- What a line states beside its first word.
pub one_row : (k : Keyword) (p q : Payload k) (m n : ℕ) (xs ys : List Piece) → IsTail xs → IsTail ys
    → Both (rest_pieces m k p ++ xs) (rest_pieces n k q ++ ys) → p ≡ q
one_row on_module p q m n xs ys t u both = one_title p q m n xs ys both
one_row on_extension (a, bytes) (b, others) m n xs ys t u both = one_raw a b bytes others xs ys t u both
one_row on_environment (a, bytes) (b, others) m n xs ys t u both = one_raw a b bytes others xs ys t u both
one_row on_section p q m n xs ys t u both = one_section p q m n xs ys t u both
one_row on_public p q m n xs ys t u both = one_public p q m n xs ys t u both
one_row on_note p q m n xs ys t u both = one_note p q xs ys t u both
one_row on_reference p q m n xs ys t u both = one_reference p q m n xs ys t u both
one_row on_block p q m n xs ys t u both = one_block p q m n xs ys t u both
one_row on_end p q m n xs ys t u both = one_end p q xs ys t u both
one_row on_name p q m n xs ys t u both =
    let a = past_position (past_gap both refl refl) refl refl in
    (past_name (past_gap a refl refl)).0
one_row on_value (p, v) (q, w) m n xs ys t u both = let (places, values) = one_placed p q v w xs ys t u both in λ i. (places i, values i)
one_row on_select p q m n xs ys t u both = (past_figure (past_gap both refl refl) (tail_no_figure xs t) (tail_no_figure ys u)).0
one_row on_counter (p, v) (q, w) m n xs ys t u both = let (places, values) = one_placed p q v w xs ys t u both in λ i. (places i, values i)
one_row on_bytes p q m n xs ys t u both =
    let a = past_count (past_gap both refl refl) (spaced_digits_no_figure p xs t) (spaced_digits_no_figure q ys u) in
    one_literal p q xs ys t u a
one_row on_field p q m n xs ys t u both = one_field p q m n xs ys t u both
one_row on_repeat p q m n xs ys t u both = (past_figure (past_gap both refl refl) (tail_no_figure xs t) (tail_no_figure ys u)).0
one_row on_start p q m n xs ys t u both = assigned p q xs ys t u both
