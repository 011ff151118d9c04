-- What the line of a block adds for its kind.
use Rattle.std.proofs.Common.{◌≡◌, ℕ, ◌+◌, ◌<◌, ◌≤◌, ◌^◌, ◌&&◌, nat_le, nat_lt, Bool, true, false, List, [], ◌∷◌, ◌++◌, length, Option, Some, None}
use Rattle.std.proofs.Common.{codes, refl, sym, ap, subst, ◌∙◌, arith, if◌then◌else◌}
use Rattle.mufom_debug.specs.declared.item.BlockHead.{BlockHead}
use Rattle.mufom_debug.specs.declared.item.BlockHead.TheVariants as heads
use Rattle.mufom_debug.specs.Marks.{kind_number}
use Rattle.mufom_expr.specs.Tree.{Tree}
use Rattle.mufom_text.specs.Words.{Text}
use Rattle.mufom_build_text.specs.declared.cursor.LineError.{LineError}
use Rattle.mufom_refusals.specs.declared.build.BuildReason.TheVariants.{Deep}
use Rattle.mufom_build_text.specs.Errors.{Fails, error_at, first_error, noted, is_bad}
use Rattle.mufom_build_text.specs.Loosely.{Passes, Goes, ReadsLoosely, ReadsText, ReadsFigure, NoFigure, Nothing}
use Rattle.mufom_build_text.specs.Loosely.{Anything, AnyText, Follows, ReadsWords}
use Rattle.mufom_build_text.specs.Pieces.{Piece, block, words, value_pieces, MOST_POSITION, MOST_NUMBER}
use Rattle.mufom_build_text.specs.Reads.{Place}
use Rattle.mufom_build_text.proofs.Loosely.{Stays, moves_nowhere, moves_failed, failed_bad, text_read, piece_read, any_ends}
use Rattle.mufom_build_text.proofs.Noted.{same_bad, some_first_error, lt_yes, lt_no}
use Rattle.mufom_build.proofs.Joining.{all_few, at_last, past, and_then, as_read, reads_bad}
use Rattle.mufom_build.proofs.OneTree.{infix_no_space}
use Rattle.mufom_build.specs.declared.read_debug.Scope.{Scope}
use Rattle.mufom_build.specs.Lines.{head_pieces, part_pieces, spaced_pieces, HasFewHeadNumbers}
use Rattle.mufom_build.specs.ReadKinds.{ReadsFew, ReadsLast, ReadsNumbers, IsHeadOf, scope_of}

-- ---- what each kind adds

pub module_head : (a : Place) → ReadsFew head_pieces (IsHeadOf (Some 3)) Nothing heads.Module a a
module_head a = record {
  value = heads.Module;
  moves = moves_nowhere a;
  passes = λ sound. refl;
  few = λ sound. (refl, tt);
  same = λ right. refl;
  takes = λ h more few tail goes. only h few.0 goes;
}
  where
    only : (h : BlockHead) {more : List Piece} → Some 3 ≡ Some (kind_number h) → Goes (head_pieces h ++ more) a → (h ≡ heads.Module) × Goes more a
    only heads.Module e goes = (refl, goes)
    only (heads.Global stack type_index offset) e goes = absurd cc
    only (heads.Source numbers) e goes = absurd cc
    only (heads.Local stack type_index offset) e goes = absurd cc
    only (heads.Section section_type section offset) e goes = absurd cc

-- The head of a block of one kind, by what it states.
head_read : {X : Type 0} {f : X → List Piece} {M : X → Type 0} {x : X} {a b : Place} (k : ℕ) (to : X → BlockHead)
    → ((z : X) → (f z ≡ head_pieces (to z)) × (k ≡ kind_number (to z)) × (M z → HasFewHeadNumbers (to z)))
    → ((h : BlockHead) → Some k ≡ Some (kind_number h) → HasFewHeadNumbers h → (z : X) × (h ≡ to z) × M z)
    → ReadsFew f M Nothing x a b → ReadsFew head_pieces (IsHeadOf (Some k)) Nothing (to x) a b
head_read {X} {f} {M} {x} {a} {b} k to there back p = record {
  value = to p.value;
  moves = p.moves;
  passes = λ sound. subst (λ (l : List Piece). Passes l a b) (there p.value).0 (p.passes sound);
  few = λ sound. (ap Some (there p.value).1, (there p.value).2 (p.few sound));
  same = λ right. ap to (p.same right);
  takes = λ h more few tail goes.
      let (z, is, kept) = back h few.0 few.1 in
      let on = subst (λ (l : List Piece). Goes (l ++ more) a) (sym (there z).0) (subst (λ (g : BlockHead). Goes (head_pieces g ++ more) a) is goes) in
      let (same, left) = p.takes z more kept tail on in
      (is ∙ ap to same, left);
}

pub global_read : {s : Scope} {a b : Place} → ReadsLast scope_of s a b
    → ReadsFew head_pieces (IsHeadOf (Some 4)) Nothing (heads.Global s.stack s.type_index s.offset) a b
global_read {s} {a} {b} p = head_read 4 (λ (z : Scope). heads.Global z.stack z.type_index z.offset) (λ z. (refl, refl, λ few. tt)) back p
  where
    back : (h : BlockHead) → Some 4 ≡ Some (kind_number h) → HasFewHeadNumbers h
        → (z : Scope) × (h ≡ heads.Global z.stack z.type_index z.offset) × Unit {0}
    back heads.Module e few = absurd cc
    back (heads.Global stack type_index offset) e few = (record { stack = stack; type_index = type_index; offset = offset }, refl, tt)
    back (heads.Source numbers) e few = absurd cc
    back (heads.Local stack type_index offset) e few = absurd cc
    back (heads.Section section_type section offset) e few = absurd cc

pub local_read : {s : Scope} {a b : Place} → ReadsLast scope_of s a b
    → ReadsFew head_pieces (IsHeadOf (Some 6)) Nothing (heads.Local s.stack s.type_index s.offset) a b
local_read {s} {a} {b} p = head_read 6 (λ (z : Scope). heads.Local z.stack z.type_index z.offset) (λ z. (refl, refl, λ few. tt)) back p
  where
    back : (h : BlockHead) → Some 6 ≡ Some (kind_number h) → HasFewHeadNumbers h
        → (z : Scope) × (h ≡ heads.Local z.stack z.type_index z.offset) × Unit {0}
    back heads.Module e few = absurd cc
    back (heads.Global stack type_index offset) e few = absurd cc
    back (heads.Source numbers) e few = absurd cc
    back (heads.Local stack type_index offset) e few = (record { stack = stack; type_index = type_index; offset = offset }, refl, tt)
    back (heads.Section section_type section offset) e few = absurd cc

-- a part of a section
abbrev pub part_of : ℕ × ℕ × Tree → List Piece
part_of z = part_pieces z.0 z.1 z.2

pub part_read : {section_type section : ℕ} {offset : Tree} {a b : Place} → ReadsLast part_of (section_type, section, offset) a b
    → ReadsFew head_pieces (IsHeadOf (Some 11)) Nothing (heads.Section section_type section offset) a b
part_read {section_type} {section} {offset} {a} {b} p =
    head_read 11 (λ (z : ℕ × ℕ × Tree). heads.Section z.0 z.1 z.2) (λ z. (refl, refl, λ few. tt)) back p
  where
    back : (h : BlockHead) → Some 11 ≡ Some (kind_number h) → HasFewHeadNumbers h
        → (z : ℕ × ℕ × Tree) × (h ≡ heads.Section z.0 z.1 z.2) × Unit {0}
    back heads.Module e few = absurd cc
    back (heads.Global stack type_index offset) e few = absurd cc
    back (heads.Source numbers) e few = absurd cc
    back (heads.Local stack type_index offset) e few = absurd cc
    back (heads.Section section_type section offset) e few = ((section_type, section, offset), refl, tt)

pub source_read : {numbers : List ℕ} {a b : Place} → ReadsNumbers 6 spaced_pieces numbers a b
    → ReadsFew head_pieces (IsHeadOf (Some 5)) Nothing (heads.Source (record { items = numbers })) a b
source_read {numbers} {a} {b} p = head_read 5 (λ (z : List ℕ). heads.Source (record { items = z })) (λ z. (refl, refl, λ few. few)) back p
  where
    back : (h : BlockHead) → Some 5 ≡ Some (kind_number h) → HasFewHeadNumbers h
        → (z : List ℕ) × (h ≡ heads.Source (record { items = z })) × (length z ≤ 6)
    back heads.Module e few = absurd cc
    back (heads.Global stack type_index offset) e few = absurd cc
    back (heads.Source numbers) e few = (numbers.items, refl, few)
    back (heads.Local stack type_index offset) e few = absurd cc
    back (heads.Section section_type section offset) e few = absurd cc

-- where the line states another number than that of a kind
pub no_head_read : (kind : Option ℕ) {a b : Place} → Fails a b → (kind ≡ Some 3 → ⊥) → (kind ≡ Some 4 → ⊥) → (kind ≡ Some 5 → ⊥)
    → (kind ≡ Some 6 → ⊥) → (kind ≡ Some 11 → ⊥) → ReadsFew head_pieces (IsHeadOf kind) Nothing heads.Module a b
no_head_read kind f no_module no_global no_source no_local no_part = reads_bad heads.Module (moves_failed f) (failed_bad f)
    (λ h more few tail goes. none h few.0)
  where
    none : (h : BlockHead) → kind ≡ Some (kind_number h) → ⊥
    none heads.Module e = no_module e
    none (heads.Global stack type_index offset) e = no_global e
    none (heads.Source numbers) e = no_source e
    none (heads.Local stack type_index offset) e = no_local e
    none (heads.Section section_type section offset) e = no_part e

pub small_kind : (h : BlockHead) → kind_number h < 2 ^ 64
small_kind heads.Module = omega arith
small_kind (heads.Global stack type_index offset) = omega arith
small_kind (heads.Source numbers) = omega arith
small_kind (heads.Local stack type_index offset) = omega arith
small_kind (heads.Section section_type section offset) = omega arith

-- ---- the lines of blocks of functions and of parts of sections, after the name

abbrev to_scope : ℕ × (ℕ × Tree) → Scope
to_scope z = record { stack = z.0; type_index = z.1.0; offset = z.1.1 }

abbrev from_scope : Scope → ℕ × (ℕ × Tree)
from_scope s = (s.stack, (s.type_index, s.offset))

abbrev to_part : ℕ × (ℕ × Tree) → ℕ × ℕ × Tree
to_part z = (z.0, z.1.0, z.1.1)

abbrev from_part : ℕ × ℕ × Tree → ℕ × (ℕ × Tree)
from_part z = (z.0, (z.1, z.2))

offset_next : (z : Tree) (more : List Piece) → Follows (codes " offset ") (value_pieces z ++ more)
offset_next z more = ap (λ b. b && true) (infix_no_space z more)

pub scope_read : {stack type_index : ℕ} {offset : Tree} {a b c d e f g : Place} → ReadsWords (codes " stack ") a b → ReadsFigure MOST_NUMBER stack b c
    → ReadsWords (codes " type ") c d → ReadsFigure MOST_NUMBER type_index d e → ReadsWords (codes " offset ") e f
    → ReadsLoosely value_pieces NoFigure offset f g
    → ReadsLast scope_of (record { stack = stack; type_index = type_index; offset = offset }) a g
scope_read p q r s t u =
    as_read to_scope from_scope (λ y. refl) (λ z. refl) (λ y. refl) (λ z few. few) (λ y few. few)
    (past (words (codes " stack ")) p (λ z more tail. refl) (and_then q (λ z more tail. refl)
    (past (words (codes " type ")) r (λ z more tail. refl) (and_then s (λ z more tail. refl)
    (past (words (codes " offset ")) t (λ z more tail. offset_next z more) (at_last refl (all_few u)))))))

pub part_line_read : {section_type section : ℕ} {offset : Tree} {a b c d e f g : Place} → ReadsWords (codes " section-type ") a b
    → ReadsFigure MOST_NUMBER section_type b c → ReadsWords (codes " section ") c d → ReadsFigure MOST_POSITION section d e
    → ReadsWords (codes " offset ") e f → ReadsLoosely value_pieces NoFigure offset f g
    → ReadsFew head_pieces (IsHeadOf (Some 11)) Nothing (heads.Section section_type section offset) a g
part_line_read p q r s t u = part_read (as_read to_part from_part (λ y. refl) (λ z. refl) (λ y. refl) (λ z few. few) (λ y few. few)
    (past (words (codes " section-type ")) p (λ z more tail. refl) (and_then q (λ z more tail. refl)
    (past (words (codes " section ")) r (λ z more tail. refl) (and_then s (λ z more tail. refl)
    (past (words (codes " offset ")) t (λ z more tail. offset_next z more) (at_last refl (all_few u))))))))
