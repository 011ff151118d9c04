-- What the records of the debug part of a written form state is what the module has.
use Rattle.std.proofs.Common.{◌≡◌, ℕ, suc, ◌+◌, ◌<◌, ◌≤◌, false, nat_lt, List, [], ◌∷◌, ◌++◌, length, Option, Some, None, refl, sym, ap, ◌∙◌, arith}
use Rattle.std.proofs.Common.{append_assoc, length-append}
use Rattle.std.specs.Prelude.{slice_range, is_none}
use Rattle.std.specs.List.{list_any, cons_option}
use Rattle.std.proofs.lemmas.Bool.{or_parts, leb-false, ltb-true}
use Rattle.mufom_expr.specs.Tree.{Tree}
use Rattle.mufom_debug.specs.declared.item.BlockHead.{BlockHead}
use Rattle.mufom_debug.specs.declared.item.BlockHead.TheVariants as heads
use Rattle.mufom_debug.specs.Marks.{DebugMark, block_begin, block_end, name_mark, note_mark, value_mark, offset_of, names_after}
use Rattle.mufom_module.specs.declared.module.Parts.{Parts}
use Rattle.mufom_module.specs.Contents.{any_of}
use Rattle.mufom_module.specs.SpelledRecords.{declared, debug_name, tree_in, positioned}
use Rattle.mufom_module.specs.Gathered.{mark_by, marks}
use Rattle.mufom_module.specs.Written.{shortest, section_index, debug_name_index}
use Rattle.mufom_module.specs.Written as w
use Rattle.mufom_module.specs.Defects.{counts_of, names_outside, names_bad_section, has_bad_mark, declared_after}
use Rattle.mufom_names.specs.declared.name.Note.{Note}
use Rattle.mufom_write.proofs.Fitting.{first-declared}
use Rattle.mufom_write.proofs.Rows.{text_at}
use Rattle.mufom_write.proofs.DebugRows.{offset_at}
use Rattle.mufom_write.proofs.Indexed.{IsFittingTree, counting, written_indexes, position_in-counting}
use Rattle.mufom_write.proofs.Laying.{spelled}
use Rattle.mufom_write.proofs.DebugRecords.{mark_record, mark_records, mark_row, IsFittingHead, IsFittingMark, AreFittingMarks}
use Rattle.mufom_write.proofs.Texts.{text-last, string-between, string-last, tree-back}

-- the records after three bytes: a string, two numbers and an expression
pub after-two : (s a b e : List ℕ) → s ++ (a ++ (b ++ e)) ≡ (s ++ (a ++ b)) ++ e
after-two s a b e = ap (λ (l : List ℕ). s ++ l) (sym (append_assoc a b e)) ∙ sym (append_assoc s (a ++ b) e)

-- how many names the marks declare
abbrev pub names_in : List DebugMark → ℕ
names_in [] = 0
names_in (block_begin head name ∷ marks) = names_in marks
names_in (block_end value ∷ marks) = names_in marks
names_in (name_mark name ∷ marks) = suc (names_in marks)
names_in (note_mark name its ∷ marks) = names_in marks
names_in (value_mark name value ∷ marks) = names_in marks

-- the indexes that the records of marks declare
pub declared-names : (n : ℕ) (marks : List DebugMark) → declared debug_name (mark_records n marks) ≡ counting (n + 32) (names_in marks)
declared-names n [] = refl
declared-names n (block_begin head name ∷ marks) = declared-names n marks
declared-names n (block_end value ∷ marks) = declared-names n marks
declared-names n (name_mark name ∷ marks) =
    ap (λ (l : List ℕ). (n + 32) ∷ l) (declared-names (n + 1) marks ∙ ap (λ (first : ℕ). counting first (names_in marks)) (omega arith))
declared-names n (note_mark name its ∷ marks) = declared-names n marks
declared-names n (value_mark name value ∷ marks) = declared-names n marks

module _ (m : Parts) (k : ℕ) where
  offset-back : (kind : ℕ) (name : List ℕ) (x y : ℕ) (offset : Tree) → IsFittingTree offset → names_outside (counts_of m) offset ≡ false
      → let p = spelled (mark_row 0 (block_end None)) (0xF8 ∷ kind ∷ 0 ∷ (w.string shortest name
      ++ (w.number shortest x ++ (w.number shortest y ++ w.expression shortest offset)))) in
      positioned (written_indexes m k) (tree_in p (offset_at name x y offset)) ≡ offset
  offset-back kind name x y offset fits inside =
      let s = w.string shortest name in
      let a = w.number shortest x in
      let b = w.number shortest y in
      let e = w.expression shortest offset in
      let one = length-append s (a ++ b) in
      let two = length-append a b in
      tree-back m k offset _ fits inside
      (text-last (0xF8 ∷ kind ∷ 0 ∷ (s ++ (a ++ (b ++ e)))) (0xF8 ∷ kind ∷ 0 ∷ (s ++ (a ++ b))) e (3 + length s + length a + length b)
      (ap (λ (l : List ℕ). 0xF8 ∷ kind ∷ 0 ∷ l) (after-two s a b e)) (omega (arith, one, two)))

  name-back : (kind : ℕ) (name fields : List ℕ) → slice_range (0xF8 ∷ kind ∷ 0 ∷ (w.string shortest name ++ fields)) (text_at 3 name).start
      ((text_at 3 name).start + length name) ≡ name
  name-back kind name fields = string-between (0xF8 ∷ kind ∷ 0 ∷ (w.string shortest name ++ fields)) (0xF8 ∷ kind ∷ 0 ∷ []) name fields 3 refl refl

  begin-back : (n : ℕ) (head : BlockHead) (name : List ℕ) → IsFittingHead head → names_bad_section (counts_of m) head ≡ false
      → any_of (names_outside (counts_of m)) (offset_of head) ≡ false
      → mark_by (written_indexes m k) (mark_record n (block_begin head name)) (mark_row n (block_begin head name)) ≡ Some (block_begin head name)
  begin-back n heads.Module name fits known inside = ap (λ (l : List ℕ). Some (block_begin heads.Module l)) (name-back 3 name [])
  begin-back n (heads.Global stack type_index offset) name fits known inside =
      let text = name-back 4 name (w.head_fields shortest (heads.Global stack type_index offset)) in
      let value = offset-back 4 name stack type_index offset fits.2 inside in
      λ i. Some (block_begin (heads.Global stack type_index (value i)) (text i))
  begin-back n (heads.Source numbers) name fits known inside =
      ap (λ (l : List ℕ). Some (block_begin (heads.Source numbers) l)) (name-back 5 name (w.numbers shortest numbers.items))
  begin-back n (heads.Local stack type_index offset) name fits known inside =
      let text = name-back 6 name (w.head_fields shortest (heads.Local stack type_index offset)) in
      let value = offset-back 6 name stack type_index offset fits.2 inside in
      λ i. Some (block_begin (heads.Local stack type_index (value i)) (text i))
  begin-back n (heads.Section section_type section offset) name fits known inside =
      let text = name-back 11 name (w.head_fields shortest (heads.Section section_type section offset)) in
      let value = offset-back 11 name section_type (section_index section) offset fits.2 inside in
      let place = position_in-counting 1 (length m.sections) section (leb-false (length m.sections) section known) in
      λ i. Some (block_begin (heads.Section section_type (place i) (value i)) (text i))

  end-back : (n : ℕ) (value : Option Tree) → IsFittingMark n (block_end value) → any_of (names_outside (counts_of m)) value ≡ false
      → mark_by (written_indexes m k) (mark_record n (block_end value)) (mark_row n (block_end value)) ≡ Some (block_end value)
  end-back n None fits inside = refl
  end-back n (Some value) fits inside =
      let e = w.expression shortest value in
      ap (λ (t : Tree). Some (block_end (Some t))) (tree-back m k value _ fits inside (text-last (0xF9 ∷ e) (0xF9 ∷ []) e 1 refl refl))

  value-back : (n name : ℕ) (value : Tree) → IsFittingTree value → name < k → names_outside (counts_of m) value ≡ false
      → mark_by (written_indexes m k) (mark_record n (value_mark name value)) (mark_row n (value_mark name value)) ≡ Some (value_mark name value)
  value-back n name value fits within inside =
      let i = w.number shortest (debug_name_index name) in
      let e = w.expression shortest value in
      let place = position_in-counting 32 k name within in
      let tree = tree-back m k value _ fits inside (text-last (0xE2 ∷ 0xCE ∷ (i ++ e)) (0xE2 ∷ 0xCE ∷ i) e (2 + length i) refl (omega arith)) in
      λ j. Some (value_mark (place j) (tree j))

  name_mark-back : (n : ℕ) (name : List ℕ) → mark_by (written_indexes m k) (mark_record n (name_mark name)) (mark_row n (name_mark name))
      ≡ Some (name_mark name)
  name_mark-back n name =
      let i = w.number shortest (debug_name_index n) in
      ap (λ (l : List ℕ). Some (name_mark l)) (string-last (0xF0 ∷ (i ++ w.string shortest name)) (0xF0 ∷ i) name (1 + length i) refl (omega arith))

  note-back : (n name : ℕ) (its : Note) → name < k → mark_by (written_indexes m k) (mark_record n (note_mark name its))
      (mark_row n (note_mark name its)) ≡ Some (note_mark name its)
  note-back n name its within = ap (λ (place : ℕ). Some (note_mark place its)) (position_in-counting 32 k name within)

  next-mark : (n : ℕ) (mark : DebugMark) (rest : List DebugMark) → mark_by (written_indexes m k) (mark_record n mark) (mark_row n mark) ≡ Some mark
      → marks (written_indexes m k) (mark_records (names_after n mark) rest) ≡ rest → marks (written_indexes m k) (mark_records n (mark ∷ rest)) ≡ mark ∷ rest
  next-mark n mark rest first later = (λ i. cons_option (first i) (marks (written_indexes m k) (mark_records (names_after n mark) rest)))
      ∙ ap (λ (l : List DebugMark). mark ∷ l) later

  pub marks-back : (n : ℕ) (ms : List DebugMark) → AreFittingMarks n ms → list_any (has_bad_mark (counts_of m)) ms ≡ false
      → is_none (declared_after n ms) ≡ false → n + names_in ms ≤ k
      → marks (written_indexes m k) (mark_records n ms) ≡ ms
  marks-back n [] fit inside sound most = refl
  marks-back n (block_begin head name ∷ ms) fit inside sound most =
      let insides = or_parts (has_bad_mark (counts_of m) (block_begin head name)) (list_any (has_bad_mark (counts_of m)) ms) inside in
      let parts = or_parts (names_bad_section (counts_of m) head) (any_of (names_outside (counts_of m)) (offset_of head)) insides.0 in
      next-mark n (block_begin head name) ms (begin-back n head name fit.0.2 parts.0 parts.1) (marks-back n ms fit.1 insides.1 sound most)
  marks-back n (block_end value ∷ ms) fit inside sound most =
      let insides = or_parts (has_bad_mark (counts_of m) (block_end value)) (list_any (has_bad_mark (counts_of m)) ms) inside in
      next-mark n (block_end value) ms (end-back n value fit.0 insides.0) (marks-back n ms fit.1 insides.1 sound most)
  marks-back n (name_mark name ∷ ms) fit inside sound most =
      next-mark n (name_mark name) ms (name_mark-back n name) (marks-back (n + 1) ms fit.1 inside sound (omega (arith, most)))
  marks-back n (note_mark name its ∷ ms) fit inside sound most =
      let step = first-declared (nat_lt name n) n (λ j. declared_after j ms) sound in
      let within = ltb-true name n step.0 in
      next-mark n (note_mark name its) ms (note-back n name its (omega (arith, within, most))) (marks-back n ms fit.1 inside step.1 most)
  marks-back n (value_mark name value ∷ ms) fit inside sound most =
      let insides = or_parts (has_bad_mark (counts_of m) (value_mark name value)) (list_any (has_bad_mark (counts_of m)) ms) inside in
      let step = first-declared (nat_lt name n) n (λ j. declared_after j ms) sound in
      let within = ltb-true name n step.0 in
      next-mark n (value_mark name value) ms (value-back n name value fit.0.1 (omega (arith, within, most)) insides.0)
      (marks-back n ms fit.1 insides.1 step.1 most)
