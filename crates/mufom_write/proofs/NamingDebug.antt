-- The records of the debug part of a written form declare each index once, and name none that is not declared.
use Rattle.std.proofs.Common.{◌≡◌, ℕ, ◌+◌, ◌<◌, ◌==◌, true, false, ◌&&◌, nat_lt, List, [], ◌∷◌, ◌++◌, length, Option, Some, None, refl, ap, ◌∙◌}
use Rattle.std.proofs.Common.{arith, length-append}
use Rattle.std.specs.Prelude.{filter_map, slice_range, is_none}
use Rattle.std.specs.List.{cons_option, list_any}
use Rattle.std.proofs.lemmas.List.{append-nil}
use Rattle.std.proofs.lemmas.Bool.{or_parts, leb-false, ltb-true}
use Rattle.mufom_expr.specs.Tree.{Tree}
use Rattle.mufom_names.specs.declared.name.Note.{Note}
use Rattle.mufom_debug.specs.declared.item.BlockHead.{BlockHead}
use Rattle.mufom_debug.specs.declared.item.BlockHead.TheVariants as heads
use Rattle.mufom_debug.specs.Marks.{DebugMark, block_begin, block_end, name_mark, note_mark, value_mark, offset_of, names_after}
use Rattle.mufom_module.specs.declared.module.Parts.{Parts}
use Rattle.mufom_module.specs.Contents.{any_of}
use Rattle.mufom_module.specs.SpelledRecords.{SpelledRecord, Kind, section, public, reference, debug_name, declared, declared_by, of_kind}
use Rattle.mufom_module.specs.SpelledRecords.{is_declared, Once, assigned_by, is_assigned}
use Rattle.mufom_module.specs.Grammar.{Follows, FollowFrom}
use Rattle.mufom_module.specs.Written.{shortest, debug_name_index}
use Rattle.mufom_module.specs.Written as w
use Rattle.mufom_module.specs.Defects.{counts_of, names_outside, names_bad_section, has_bad_mark, declared_after}
use Rattle.mufom_write.proofs.Rows.{value_at}
use Rattle.mufom_write.proofs.DebugRows.{offset_at}
use Rattle.mufom_write.proofs.Indexed.{IsFittingTree, counting}
use Rattle.mufom_write.proofs.DebugRecords.{mark_record, mark_records, mark_row, IsFittingHead, IsFittingEnd, AreFittingMarks}
use Rattle.mufom_write.proofs.StatedDebug.{after-two}
use Rattle.mufom_write.proofs.Fitting.{first-declared}
use Rattle.mufom_write.proofs.Texts.{text-last}
use Rattle.mufom_write.proofs.Naming.{missing, found, declared-append, index-follows}
use Rattle.mufom_write.proofs.NamingNames.{next-index, silent-unstated}
use Rattle.mufom_write.proofs.Known.{DeclareEntries, declare-more, section-known, expression-known, plain-follows}

-- ---- what the records of marks answer nothing to

marks-nothing : {Y : Type 0} (ask : SpelledRecord → Option Y) → ((n : ℕ) (mark : DebugMark) → ask (mark_record n mark) ≡ None)
    → (n : ℕ) (marks : List DebugMark) → filter_map ask (mark_records n marks) ≡ []
marks-nothing ask none n [] = refl
marks-nothing {Y = Y} ask none n (mark ∷ marks) =
    let first = none n mark in
    let rest = marks-nothing ask none (names_after n mark) marks in
    λ i. cons_option (first i) (rest i)

mark-declares_none : (kind : Kind) → ((i : ℕ) → of_kind kind (Some (debug_name, i)) ≡ None) → (n : ℕ) (mark : DebugMark)
    → of_kind kind (declared_by (mark_row n mark)) ≡ None
mark-declares_none kind other n (block_begin head name) = refl
mark-declares_none kind other n (block_end value) = refl
mark-declares_none kind other n (name_mark name) = other (debug_name_index n)
mark-declares_none kind other n (note_mark name its) = refl
mark-declares_none kind other n (value_mark name value) = refl

mark-states_nothing : (n : ℕ) (mark : DebugMark) → assigned_by (mark_row n mark) ≡ None
mark-states_nothing n (block_begin head name) = refl
mark-states_nothing n (block_end value) = refl
mark-states_nothing n (name_mark name) = refl
mark-states_nothing n (note_mark name its) = refl
mark-states_nothing n (value_mark name value) = refl

marks-declare_none : (kind : Kind) → ((i : ℕ) → of_kind kind (Some (debug_name, i)) ≡ None) → (n : ℕ) (marks : List DebugMark)
    → declared kind (mark_records n marks) ≡ []
marks-declare_none kind other n marks = marks-nothing (λ p. of_kind kind (declared_by p.row)) (mark-declares_none kind other) n marks

pub marks-unstated : (n : ℕ) (marks : List DebugMark) (once : Once) → is_assigned (mark_records n marks) once ≡ false
marks-unstated n marks once = silent-unstated (mark_records n marks) once (marks-nothing (λ p. assigned_by p.row) mark-states_nothing n marks)

-- after the debug part the same entries are declared
pub declare-after_marks : (m : Parts) (before : List SpelledRecord) (n : ℕ) (marks : List DebugMark) → DeclareEntries m before
    → DeclareEntries m (before ++ mark_records n marks)
declare-after_marks m before n marks its =
    declare-more m before (mark_records n marks) its (marks-declare_none section (λ i. refl) n marks) (marks-declare_none public (λ i. refl) n marks)
    (marks-declare_none reference (λ i. refl) n marks)

-- ---- what precedes a mark

-- the entries of the module are declared, and n debug names
record BeforeMark (m : Parts) (before : List SpelledRecord) (n : ℕ) : Type 0 where
  entries : DeclareEntries m before
  names : declared debug_name before ≡ counting 32 n

next-silent : (m : Parts) (before : List SpelledRecord) (n : ℕ) (p : SpelledRecord) → declared_by p.row ≡ None → BeforeMark m before n
    → BeforeMark m (before ++ p ∷ []) n
next-silent m before n p silent state = record {
  entries = declare-more m before (p ∷ []) state.entries (none section) (none public) (none reference);
  names = declared-append debug_name before (p ∷ []) ∙ (λ i. state.names i ++ none debug_name i) ∙ append-nil (counting 32 n);
} where
  none : (kind : Kind) → declared kind (p ∷ []) ≡ []
  none kind = λ i. cons_option (of_kind kind (silent i)) []

next-name : (m : Parts) (before : List SpelledRecord) (n : ℕ) (name : List ℕ) → BeforeMark m before n
    → BeforeMark m (before ++ mark_record n (name_mark name) ∷ []) (n + 1)
next-name m before n name state =
    let p = mark_record n (name_mark name) ∷ [] in
    record {
      entries = declare-more m before p state.entries refl refl refl;
      names = declared-append debug_name before p ∙ (λ i. state.names i ++ (n + 32) ∷ []) ∙ next-index 32 n;
    }

-- ---- each mark

offset-text : (kind : ℕ) (name : List ℕ) (x y : ℕ) (offset : Tree)
    → let span = offset_at name x y offset in
    slice_range (0xF8 ∷ kind ∷ 0 ∷ (w.string shortest name ++ (w.number shortest x ++ (w.number shortest y ++ w.expression shortest offset))))
    span.start (span.start + span.len) ≡ w.expression shortest offset
offset-text kind name x y offset =
    let s = w.string shortest name in
    let a = w.number shortest x in
    let b = w.number shortest y in
    let e = w.expression shortest offset in
    let one = length-append s (a ++ b) in
    let two = length-append a b in
    text-last (0xF8 ∷ kind ∷ 0 ∷ (s ++ (a ++ (b ++ e)))) (0xF8 ∷ kind ∷ 0 ∷ (s ++ (a ++ b))) e (3 + length s + length a + length b)
    (ap (λ (l : List ℕ). 0xF8 ∷ kind ∷ 0 ∷ l) (after-two s a b e)) (omega (arith, one, two))

module _ (m : Parts) (before : List SpelledRecord) (n : ℕ) (state : BeforeMark m before n) where
  name-known : (name : ℕ) → name < n → is_declared before (debug_name, name + 32) ≡ true
  name-known name within = ap (list_any (λ j. j == name + 32)) state.names ∙ found (name + 32) 32 n (omega arith) (omega (arith, within))

  begin-follows : (head : BlockHead) (name : List ℕ) → IsFittingHead head → names_bad_section (counts_of m) head ≡ false
      → any_of (names_outside (counts_of m)) (offset_of head) ≡ false
      → Follows before (mark_record n (block_begin head name))
  begin-follows heads.Module name fits known inside = plain-follows before (mark_record n (block_begin heads.Module name))
      (record { declares = refl; states = refl }) refl refl
  begin-follows (heads.Global stack type_index offset) name fits known inside =
      let p = mark_record n (block_begin (heads.Global stack type_index offset) name) in
      plain-follows before p (record { declares = refl; states = refl })
      (expression-known m before state.entries p (offset_at name stack type_index offset) offset refl (offset-text 4 name stack type_index offset)
      fits.2 inside) refl
  begin-follows (heads.Source numbers) name fits known inside =
      plain-follows before (mark_record n (block_begin (heads.Source numbers) name)) (record { declares = refl; states = refl }) refl refl
  begin-follows (heads.Local stack type_index offset) name fits known inside =
      let p = mark_record n (block_begin (heads.Local stack type_index offset) name) in
      plain-follows before p (record { declares = refl; states = refl })
      (expression-known m before state.entries p (offset_at name stack type_index offset) offset refl (offset-text 6 name stack type_index offset)
      fits.2 inside) refl
  begin-follows (heads.Section section_type place offset) name fits known inside =
      let p = mark_record n (block_begin (heads.Section section_type place offset) name) in
      let own = section-known m before state.entries place (leb-false (length m.sections) place known) in
      let value = expression-known m before state.entries p (offset_at name section_type (place + 1) offset) offset refl
      (offset-text 11 name section_type (place + 1) offset) fits.2 inside in
      plain-follows before p (record { declares = refl; states = refl }) (λ i. own i && value i) refl

  end-follows : (value : Option Tree) → IsFittingEnd value → any_of (names_outside (counts_of m)) value ≡ false
      → Follows before (mark_record n (block_end value))
  end-follows None fits inside = plain-follows before (mark_record n (block_end None)) (record { declares = refl; states = refl }) refl refl
  end-follows (Some value) fits inside =
      let p = mark_record n (block_end (Some value)) in
      let e = w.expression shortest value in
      plain-follows before p (record { declares = refl; states = refl })
      (expression-known m before state.entries p _ value refl (text-last (0xF9 ∷ e) (0xF9 ∷ []) e 1 refl refl) fits inside) refl

  name-follows : (name : List ℕ) → Follows before (mark_record n (name_mark name))
  name-follows name = record {
    new = ap (list_any (λ j. j == n + 32)) state.names ∙ missing (n + 32) 32 n (omega arith);
    known = refl;
    once = refl;
    placed = refl;
  }

  note-follows : (name : ℕ) (its : Note) → name < n → Follows before (mark_record n (note_mark name its))
  note-follows name its within = index-follows before (debug_name, name + 32) (mark_record n (note_mark name its)) refl refl refl (name-known name within) refl

  value-follows : (name : ℕ) (value : Tree) → IsFittingTree value → name < n → names_outside (counts_of m) value ≡ false
      → Follows before (mark_record n (value_mark name value))
  value-follows name value fits within inside =
      let p = mark_record n (value_mark name value) in
      let i = w.number shortest (debug_name_index name) in
      let e = w.expression shortest value in
      let own = name-known name within in
      let tree = expression-known m before state.entries p (value_at (debug_name_index name) e) value refl
      (text-last (0xE2 ∷ 0xCE ∷ (i ++ e)) (0xE2 ∷ 0xCE ∷ i) e (2 + length i) refl (omega arith)) fits inside in
      plain-follows before p (record { declares = refl; states = refl }) (λ j. own j && tree j) refl

-- ---- the part

marks-follow : (m : Parts) (before : List SpelledRecord) (n : ℕ) (ms : List DebugMark) → BeforeMark m before n → AreFittingMarks n ms
    → list_any (has_bad_mark (counts_of m)) ms ≡ false → is_none (declared_after n ms) ≡ false
    → FollowFrom before (mark_records n ms)
marks-follow m before n [] state fit inside sound = tt
marks-follow m before n (block_begin head name ∷ ms) state fit inside sound =
    let p = mark_record n (block_begin head name) in
    let insides = or_parts (has_bad_mark (counts_of m) (block_begin head name)) (list_any (has_bad_mark (counts_of m)) ms) inside in
    let parts = or_parts (names_bad_section (counts_of m) head) (any_of (names_outside (counts_of m)) (offset_of head)) insides.0 in (
      begin-follows m before n state head name fit.0.2 parts.0 parts.1,
      marks-follow m (before ++ p ∷ []) n ms (next-silent m before n p refl state) fit.1 insides.1 sound,
    )
marks-follow m before n (block_end value ∷ ms) state fit inside sound =
    let p = mark_record n (block_end value) in
    let insides = or_parts (has_bad_mark (counts_of m) (block_end value)) (list_any (has_bad_mark (counts_of m)) ms) inside in
    (end-follows m before n state value fit.0 insides.0, marks-follow m (before ++ p ∷ []) n ms (next-silent m before n p refl state) fit.1 insides.1 sound)
marks-follow m before n (name_mark name ∷ ms) state fit inside sound = (
  name-follows m before n state name,
  marks-follow m (before
      ++ mark_record n (name_mark name) ∷ []) (n + 1) ms (next-name m before n name state) fit.1 inside sound,
)
marks-follow m before n (note_mark name its ∷ ms) state fit inside sound =
    let p = mark_record n (note_mark name its) in
    let step = first-declared (nat_lt name n) n (λ j. declared_after j ms) sound in (
      note-follows m before n state name its (ltb-true name n step.0),
      marks-follow m (before ++ p ∷ []) n ms (next-silent m before n p refl state) fit.1 inside step.1,
    )
marks-follow m before n (value_mark name value ∷ ms) state fit inside sound =
    let p = mark_record n (value_mark name value) in
    let insides = or_parts (has_bad_mark (counts_of m) (value_mark name value)) (list_any (has_bad_mark (counts_of m)) ms) inside in
    let step = first-declared (nat_lt name n) n (λ j. declared_after j ms) sound in (
      value-follows m before n state name value fit.0.1 (ltb-true name n step.0) insides.0,
      marks-follow m (before ++ p ∷ []) n ms (next-silent m before n p refl state) fit.1 insides.1 step.1,
    )

-- each record of the debug part keeps to what is before it
pub debug_part-follows : (m : Parts) (before : List SpelledRecord) (ms : List DebugMark) → DeclareEntries m before → declared debug_name before ≡ []
    → AreFittingMarks 0 ms → list_any (has_bad_mark (counts_of m)) ms ≡ false
    → is_none (declared_after 0 ms) ≡ false → FollowFrom before (mark_records 0 ms)
debug_part-follows m before ms entries none fit inside sound = marks-follow m before 0 ms (record { entries = entries; names = none }) fit inside sound
