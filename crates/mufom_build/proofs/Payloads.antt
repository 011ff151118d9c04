-- What the line of each first word states, by the readers of its pieces.
use Rattle.std.proofs.Common.{◌≡◌, ℕ, ◌+◌, ◌&&◌, Bool, true, false, List, [], ◌∷◌, ◌++◌, codes, Option, Some, None, refl, sym, ap, subst}
use Rattle.std.proofs.Common.{◌∙◌, append-nil, arith}
use Rattle.mufom_expr.specs.declared.token.FieldKind.{FieldKind}
use Rattle.mufom_expr.specs.declared.token.FieldKind.TheVariants as kinds
use Rattle.mufom_expr.specs.Tree.{Tree}
use Rattle.mufom_sections.specs.declared.section.Section.{Section}
use Rattle.mufom_sections.specs.declared.section.Purpose.{Purpose}
use Rattle.mufom_names.specs.declared.name.Note.{Note}
use Rattle.mufom_names.specs.declared.name.Weak.{Weak}
use Rattle.mufom_debug.specs.declared.item.BlockHead.{BlockHead}
use Rattle.mufom_debug.specs.Marks.{kind_number}
use Rattle.mufom_module.specs.declared.module.Order.{Order}
use Rattle.mufom_module.specs.declared.module.Order.TheVariants as orders
use Rattle.mufom_text.specs.Show.{order_letter, type_letters, purpose_letter, kind_text}
use Rattle.mufom_build_text.specs.Loosely.{Goes, ReadsLoosely, ReadsWords, ReadsFigure, ReadsPosition, ReadsName, ReadsHex, ReadsDigits}
use Rattle.mufom_build_text.specs.Loosely.{Follows, IsFigure, NoFigure, Anything, Nothing}
use Rattle.mufom_build_text.specs.Pieces.{Piece, position, digits, block, words, place_piece, value_pieces, MOST_POSITION, MOST_NUMBER}
use Rattle.mufom_build_text.specs.Reads.{Place}
use Rattle.mufom_build_text.proofs.Loosely.{right_is_sound, moves_then, passes_then}
use Rattle.mufom_build.proofs.NextBytes.{differs, ended_byte, figure_or_byte, goes_byte, goes_figure}
use Rattle.mufom_build.proofs.OneTree.{infix_no_space}
use Rattle.mufom_build.proofs.Heads.{small_kind}
use Rattle.mufom_build.proofs.Joining.{all_few, at_last, past, and_then, as_read, position_at, row_read}
use Rattle.mufom_build.proofs.Numerals.{kind_then}
use Rattle.mufom_build.specs.declared.row.Row.TheVariants as read
use Rattle.mufom_build.specs.Lines.{base_pieces, spaced_pieces, note_pieces, weak_pieces, head_pieces, HasFewNumbers}
use Rattle.mufom_build.specs.Order.{State, row_pieces}
use Rattle.mufom_build.specs.ReadKinds.{BeginsWithSpace, IsAhead, IsHeadOf, ReadsFew, ReadsLast, ReadsNumbers, ReadsOf}
use Rattle.mufom_build.specs.Marked.{end_value_pieces}
use Rattle.mufom_build.specs.Rows.{on_extension, on_environment, on_section, on_note, on_block, on_end, named_note, extension_rows, environment_rows}

-- ---- what comes next

-- a letter after a word
pub order_next : (z : Order) (more : List Piece) → Follows (codes " order ") (words (order_letter z) ++ more)
order_next orders.Least more = refl
order_next orders.Most more = refl

pub type_next : (z : Bool) (xs more : List Piece) → Follows (codes " ") ((words (type_letters z) ++ xs) ++ more)
type_next true xs more = refl
type_next false xs more = refl

pub kind_next : (z : FieldKind) (xs more : List Piece) → Follows (codes "field ") ((words (kind_text z) ++ xs) ++ more)
kind_next kinds.Signed xs more = refl
kind_next kinds.Unsigned xs more = refl
kind_next kinds.Either xs more = refl

-- a base after a number
pub base_next : (z : Option ℕ) (more : List Piece) → Nothing more → NoFigure (base_pieces z ++ more)
base_next None more none = subst NoFigure (sym none) refl
base_next (Some base) more none = refl

-- numbers after a number
pub numbers_next : (ns : List ℕ) (more : List Piece) → Nothing more → NoFigure (spaced_pieces ns ++ more)
numbers_next [] more none = subst NoFigure (sym none) refl
numbers_next (n ∷ ns) more none = refl

-- an expression after words that end with a space
pub value_next : (z : Tree) (more : List Piece) → Follows (codes " = ") (value_pieces z ++ more)
value_next z more = ap (λ b. b && true) (infix_no_space z more)

pub start_next : (z : Tree) (more : List Piece) → Follows (codes "start = ") (value_pieces z ++ more)
start_next z more = ap (λ b. b && true) (infix_no_space z more)

pub offset_next : (z : Tree) (more : List Piece) → Follows (codes " offset ") (value_pieces z ++ more)
offset_next z more = ap (λ b. b && true) (infix_no_space z more)

-- ---- the module and its parts that are kept as bytes

pub extension_read : (s : State) {bytes : List ℕ} {a b c : Place} → ReadsWords (codes "extension ") a b → ReadsHex bytes b c
    → ReadsOf s on_extension (read.Extension bytes) a c
extension_read s {bytes} {a} {b} {c} w h =
    let line : ReadsLast (λ (bs : ℕ × List ℕ). words (codes "extension ") ++ (digits (bs.0 ∷ bs.1) ∷ [])) (h.first, h.others) a c =
    past (words (codes "extension ")) w (λ z more tail. refl) (at_last refl (all_few h.reads)) in
    record {
      payload = line.value;
      moves = line.moves;
      passes = line.passes;
      few = λ sound. tt;
      kind = λ sound. refl;
      same = λ right. ap extension_rows (h.is (right_is_sound c right)) ∙ ap (λ (p : ℕ × List ℕ). (on_extension, p) ∷ []) (line.same right);
      takes = λ p few goes. line.takes p [] tt refl (subst (λ (l : List Piece). Goes l a) (sym (append-nil (row_pieces s (on_extension, p)))) goes);
    }

pub environment_read : (s : State) {bytes : List ℕ} {a b c : Place} → ReadsWords (codes "environment ") a b → ReadsHex bytes b c
    → ReadsOf s on_environment (read.Environment bytes) a c
environment_read s {bytes} {a} {b} {c} w h =
    let line : ReadsLast (λ (bs : ℕ × List ℕ). words (codes "environment ") ++ (digits (bs.0 ∷ bs.1) ∷ [])) (h.first, h.others) a c =
    past (words (codes "environment ")) w (λ z more tail. refl) (at_last refl (all_few h.reads)) in
    record {
      payload = line.value;
      moves = line.moves;
      passes = line.passes;
      few = λ sound. tt;
      kind = λ sound. refl;
      same = λ right. ap environment_rows (h.is (right_is_sound c right)) ∙ ap (λ (p : ℕ × List ℕ). (on_environment, p) ∷ []) (line.same right);
      takes = λ p few goes. line.takes p [] tt refl (subst (λ (l : List Piece). Goes l a) (sym (append-nil (row_pieces s (on_environment, p)))) goes);
    }

-- ---- the module and fields

abbrev pub to_title : List ℕ × (List ℕ × (ℕ × Order)) → List ℕ × List ℕ × ℕ × Order
to_title z = (z.0, z.1.0, z.1.1.0, z.1.1.1)

abbrev pub from_title : List ℕ × List ℕ × ℕ × Order → List ℕ × (List ℕ × (ℕ × Order))
from_title z = (z.0, (z.1, (z.2, z.3)))

abbrev pub to_field : FieldKind × (ℕ × Tree) → FieldKind × ℕ × Tree
to_field z = (z.0, z.1.0, z.1.1)

abbrev pub from_field : FieldKind × ℕ × Tree → FieldKind × (ℕ × Tree)
from_field z = (z.0, (z.1, z.2))

-- ---- sections

abbrev to_section : List ℕ × (Bool × (Option Purpose × (ℕ × (ℕ × Option ℕ)))) → Section
to_section z =
    record { name = z.0; absolute = z.1.0; purpose = z.1.1.0; size = z.1.1.1.0; align = z.1.1.1.1.0; base = z.1.1.1.1.1 }

abbrev from_section : Section → List ℕ × (Bool × (Option Purpose × (ℕ × (ℕ × Option ℕ))))
from_section s = (s.name, (s.absolute, (s.purpose, (s.size, (s.align, s.base)))))

pub section_read : (s : State) {count size align : ℕ} {title : List ℕ} {absolute : Bool} {purpose : Option Purpose} {base : Option ℕ}
    {p0 p1 p2 p3 p4 p5 p6 p7 p8 p9 p10 p11 p12 : Place} → s.sections ≡ count → ReadsWords (codes "section ") p0 p1 → ReadsPosition count p1 p2
    → ReadsWords (codes " ") p2 p3 → ReadsName title p3 p4 → ReadsWords (codes " ") p4 p5
    → ReadsLoosely (λ (z : Bool). words (type_letters z)) Anything absolute p5 p6
    → ReadsLoosely (λ (z : Option Purpose). words (purpose_letter z)) BeginsWithSpace purpose p6 p7 → ReadsWords (codes " size ") p7 p8
    → ReadsFigure MOST_NUMBER size p8 p9 → ReadsWords (codes " align ") p9 p10 → ReadsFigure MOST_NUMBER align p10 p11
    → ReadsLast base_pieces base p11 p12
    → ReadsOf s on_section
    (read.Section (record { name = title; absolute = absolute; purpose = purpose; size = size; align = align; base = base })) p0 p12
section_read s {count} {size} {align} {title} {absolute} {purpose} {base} same a b c d e f g h i j k l =
    let line = past (words (codes "section ")) a (λ z more tail. refl) (past (position s.sections ∷ []) (position_at same b) (λ z more tail. refl)
    (past (words (codes " ")) c (λ z more tail. refl) (and_then d (λ z more tail. tt)
    (past (words (codes " ")) e (λ z more tail. type_next z.0 _ more) (and_then f (λ z more tail. tt)
    (and_then g (λ z more tail. (_, refl)) (past (words (codes " size ")) h (λ z more tail. refl) (and_then i (λ z more tail. refl)
    (past (words (codes " align ")) j (λ z more tail. refl) (and_then k base_next l)))))))))) in
    row_read s on_section _ _ (as_read to_section from_section (λ y. refl) (λ z. refl) (λ y. refl) (λ z few. tt) (λ y few. tt) line) refl (λ sound. refl)

-- ---- notes and weak references

abbrev to_note : ℕ × (ℕ × List ℕ) → Note
to_note z = record { type_index = z.0; attribute = z.1.0; numbers = record { items = z.1.1 } }

abbrev from_note : Note → ℕ × (ℕ × List ℕ)
from_note note = (note.type_index, (note.attribute, note.numbers.items))

abbrev to_weak : ℕ × ℕ → Weak
to_weak z = record { size = z.0; default = z.1 }

abbrev from_weak : Weak → ℕ × ℕ
from_weak weak = (weak.size, weak.default)

pub note_read : {type_index attribute : ℕ} {numbers : List ℕ} {a b c d e f : Place} → ReadsWords (codes " type ") a b
    → ReadsFigure MOST_NUMBER type_index b c → ReadsWords (codes " attribute ") c d → ReadsFigure MOST_NUMBER attribute d e
    → ReadsNumbers 4 spaced_pieces numbers e f
    → ReadsFew note_pieces HasFewNumbers Nothing
    (record { type_index = type_index; attribute = attribute; numbers = record { items = numbers } }) a f
note_read p q r s t =
    as_read to_note from_note (λ y. refl) (λ z. refl) (λ y. refl) (λ z few. few) (λ y few. few)
    (past (words (codes " type ")) p (λ z more tail. refl) (and_then q (λ z more tail. refl)
    (past (words (codes " attribute ")) r (λ z more tail. refl) (and_then s numbers_next t))))

pub weak_read : {size default : ℕ} {a b c d e : Place} → ReadsWords (codes " weak size ") a b → ReadsFigure MOST_NUMBER size b c
    → ReadsWords (codes " default ") c d → ReadsFigure MOST_NUMBER default d e
    → ReadsLast (λ (w : Weak). weak_pieces (Some w)) (record { size = size; default = default }) a e
weak_read p q r s =
    as_read to_weak from_weak (λ y. refl) (λ z. refl) (λ y. refl) (λ z few. few) (λ y few. few)
    (past (words (codes " weak size ")) p (λ z more tail. refl) (and_then q (λ z more tail. refl)
    (past (words (codes " default ")) r (λ z more tail. refl) (at_last refl (all_few s)))))

-- ---- blocks

abbrev to_block : List ℕ × BlockHead → BlockHead × List ℕ
to_block z = (z.1, z.0)

abbrev from_block : BlockHead × List ℕ → List ℕ × BlockHead
from_block z = (z.1, z.0)

pub block_read : (s : State) {depth : ℕ} {stated : Option ℕ} {title : List ℕ} {head : BlockHead} {a b c d e f g : Place} → s.depth ≡ depth
    → ReadsLoosely (λ (u : Unit {0}). block (depth + 1) ∷ []) Anything tt a b → ReadsWords (codes "block ") b c → ReadsDigits stated c d
    → ReadsWords (codes " ") d e → ReadsName title e f → ReadsFew head_pieces (IsHeadOf stated) Nothing head f g
    → ReadsOf s on_block (read.Block head title) a g
block_read s {depth} {stated} {title} {head} {a} {b} same p q r t u v =
    let deep = subst (λ (n : ℕ). ReadsLoosely (λ (u : Unit {0}). block (n + 1) ∷ []) Anything tt a b) (sym same) p in
    let line = past (block (s.depth + 1) ∷ []) deep (λ z more tail. tt) (past (words (codes "block ")) q (λ z more tail. refl)
    (kind_then (λ (z : List ℕ × BlockHead). kind_number z.1) (λ z. small_kind z.1) r (λ z more tail. refl)
    (past (words (codes " ")) t (λ z more tail. refl) (and_then u (λ z more tail. tt) v)))) in
    row_read s on_block _ _ (as_read to_block from_block (λ y. refl) (λ z. refl) (λ y. refl) (λ z few. few) (λ y few. few) line) refl (λ sound. refl)

-- ---- lines whose kind depends on what they state

not_t : IsFigure 116 → ⊥
not_t figure = omega (arith, figure)

pub note_line_read : (s : State) {note : Note} {a b c : Place} → ReadsWords (codes "note") a b → IsAhead 116 b.rest
    → ReadsFew note_pieces HasFewNumbers Nothing note b c → ReadsOf s on_note (read.Note note) a c
note_line_read s {note} {a} {b} {c} w ahead p = record {
  payload = (None, p.value);
  moves = moves_then w.moves p.moves;
  passes = λ sound. passes_then (words (codes "note")) (note_pieces p.value) a b c (w.passes (p.moves.sound sound)) (p.passes sound);
  few = p.few;
  kind = λ sound. refl;
  same = λ right. ap (λ (n : Note). (on_note, (None, n)) ∷ []) (p.same right);
  takes = λ q few goes. only q.0 q.1 few (w.takes tt (named_note q) refl goes).1;
}
  where
    only : (o : Option ℕ) (n : Note) → HasFewNumbers n → Goes (named_note (o, n)) b
        → (◌≡◌ {A = Option ℕ × Note} (o, n) (None, p.value)) × Goes [] c
    only None n few goes =
        let (same, left) = p.takes n [] few refl (subst (λ (l : List Piece). Goes l b) (sym (append-nil (note_pieces n))) goes) in
        (ap (λ (m : Note). (None, m)) same, left)
    only (Some place) n few goes = absurd (figure_or_byte 116 (differs 116 32 refl) not_t ahead (goes_figure MOST_POSITION place (note_pieces n) goes))

pub debug_note_read : (s : State) {place : ℕ} {note : Note} {a b c d e : Place} → ReadsWords (codes "note") a b → (IsAhead 116 b.rest → ⊥)
    → ReadsWords (codes " ") b c → ReadsFigure MOST_POSITION place c d → ReadsFew note_pieces HasFewNumbers Nothing note d e
    → ReadsOf s on_note (read.DebugNote place note) a e
debug_note_read s {place} {note} {a} {b} {c} {d} {e} w none t r p = record {
  payload = (Some line.value.0, line.value.1);
  moves = moves_then w.moves line.moves;
  passes = λ sound. passes_then (words (codes "note")) (named_note (Some line.value.0, line.value.1)) a b e
      (w.passes (line.moves.sound sound)) (line.passes sound);
  few = line.few;
  kind = λ sound. refl;
  same = λ right. ap (λ (q : ℕ × Note). (on_note, (Some q.0, q.1)) ∷ []) (line.same right);
  takes = λ q few goes. only q.0 q.1 few (w.takes tt (named_note q) refl goes).1;
}
  where
    line : ReadsFew (λ (q : ℕ × Note). words (codes " ") ++ (place_piece q.0 ++ note_pieces q.1)) (λ (q : ℕ × Note). HasFewNumbers q.1) Nothing
        (place, note) b e
    line = past (words (codes " ")) t (λ z more tail. refl) (and_then r (λ z more tail. refl) p)

    only : (o : Option ℕ) (n : Note) → HasFewNumbers n → Goes (named_note (o, n)) b
        → (◌≡◌ {A = Option ℕ × Note} (o, n) (Some line.value.0, line.value.1)) × Goes [] e
    only None n few goes = absurd (none (goes_byte 116 _ goes))
    only (Some m) n few goes =
        let (same, left) = line.takes (m, n) [] few refl (subst (λ (l : List Piece). Goes l b) (sym (append-nil (named_note (Some m, n)))) goes) in
        (ap (λ (q : ℕ × Note). (Some q.0, q.1)) same, left)

-- the end of a block or of a repeat, without an expression
pub end_read : (s : State) {a b : Place} → ReadsWords (codes "end") a b → (IsAhead 61 b.rest → ⊥) → ReadsOf s on_end (read.End None) a b
end_read s {a} {b} w none = record {
  payload = None;
  moves = w.moves;
  passes = w.passes;
  few = λ sound. tt;
  kind = λ sound. refl;
  same = λ right. refl;
  takes = λ q few goes. only q (w.takes tt (end_value_pieces q) refl goes).1;
}
  where
    only : (o : Option Tree) → Goes (end_value_pieces o) b → (o ≡ None) × Goes [] b
    only None goes = (refl, goes)
    only (Some value) goes = absurd (none (goes_byte 61 _ goes))

-- and with one
pub end_value_read : (s : State) {value : Tree} {a b c d : Place} → ReadsWords (codes "end") a b → IsAhead 61 b.rest → ReadsWords (codes " = ") b c
    → ReadsLoosely value_pieces NoFigure value c d → ReadsOf s on_end (read.End (Some value)) a d
end_value_read s {value} {a} {b} {c} {d} w ahead t p = record {
  payload = Some line.value;
  moves = moves_then w.moves line.moves;
  passes = λ sound. passes_then (words (codes "end")) (end_value_pieces (Some line.value)) a b d (w.passes (line.moves.sound sound)) (line.passes sound);
  few = λ sound. tt;
  kind = λ sound. refl;
  same = λ right. ap (λ (v : Tree). (on_end, Some v) ∷ []) (line.same right);
  takes = λ q few goes. only q (w.takes tt (end_value_pieces q) refl goes).1;
}
  where
    line : ReadsLast (λ (v : Tree). words (codes " = ") ++ value_pieces v) value b d
    line = past (words (codes " = ")) t (λ z more tail. value_next z more) (at_last refl (all_few p))

    only : (o : Option Tree) → Goes (end_value_pieces o) b → (o ≡ Some line.value) × Goes [] d
    only None goes = absurd (ended_byte 61 (differs 61 32 refl) (differs 61 10 refl) ahead goes)
    only (Some v) goes =
        let (same, left) = line.takes v [] tt refl (subst (λ (l : List Piece). Goes l b) (sym (append-nil (end_value_pieces (Some v)))) goes) in
        (ap Some same, left)
