-- The debug part of a written form as records.
use Rattle.std.proofs.Common.{◌≡◌, ℕ, ◌^◌, ◌<◌, ◌≤◌, true, false, List, [], ◌∷◌, ◌++◌, length, Option, Some, None, refl, ap, arith}
use Rattle.std.specs.List.{AllByRecursion}
use Rattle.mufom_numbers.specs.Spelling.{AreBytes}
use Rattle.mufom_expr.specs.Tree.{Tree}
use Rattle.mufom_records.specs.declared.record.Record.{Record}
use Rattle.mufom_records.specs.declared.record.Record.TheVariants as r
use Rattle.mufom_records.specs.Fields.{is_one_of}
use Rattle.mufom_records.specs.Layouts.{debug_attributes}
use Rattle.mufom_debug.specs.declared.item.BlockHead.{BlockHead}
use Rattle.mufom_debug.specs.declared.item.BlockHead.TheVariants as heads
use Rattle.mufom_debug.specs.Marks.{DebugMark, block_begin, block_end, name_mark, note_mark, value_mark, kind_number, names_after}
use Rattle.mufom_module.specs.SpelledRecords.{SpelledRecord, bytes_of}
use Rattle.mufom_module.specs.RecordParts.{debug_part}
use Rattle.mufom_module.specs.Written.{shortest, section_index, debug_name_index}
use Rattle.mufom_module.specs.Written as w
use Rattle.mufom_module.specs.Defects.{is_long}
use Rattle.mufom_write.proofs.Rows.{IsSpelledNote, name_at, value_at, text_at, debug_name-whole, debug_note-whole, debug_value-whole}
use Rattle.mufom_write.proofs.DebugRows.{tail_for, end_for, IsSpelledHead, IsSpelledEnd, block_begin-whole, block_end-whole}
use Rattle.mufom_write.proofs.Indexed.{IsFittingTree, indexed, expression-spells}
use Rattle.mufom_write.proofs.Laying.{spelled as the_record, IsRecord}

-- the row of a record with n names before it
abbrev pub mark_row : ℕ → DebugMark → Record
mark_row n (block_begin head name) = r.BlockBegin (kind_number head) 0 (text_at 3 name) (tail_for name head)
mark_row n (block_end value) = r.BlockEnd (end_for value)
mark_row n (name_mark name) = r.DebugName (debug_name_index n) (name_at (debug_name_index n) name)
mark_row n (note_mark name its) = r.DebugNote (debug_name_index name) its.type_index its.attribute its.numbers
mark_row n (value_mark name value) = r.DebugValue (debug_name_index name) (value_at (debug_name_index name) (w.expression shortest value))

abbrev pub mark_record : ℕ → DebugMark → SpelledRecord
mark_record n mark = the_record (mark_row n mark) (w.debug_record shortest n mark)

abbrev pub mark_records : ℕ → List DebugMark → List SpelledRecord
mark_records n [] = []
mark_records n (mark ∷ marks) = mark_record n mark ∷ mark_records (names_after n mark) marks

pub marks-bytes : (n : ℕ) (marks : List DebugMark) → bytes_of (mark_records n marks) ≡ w.debug_records shortest n marks
marks-bytes n [] = refl
marks-bytes n (mark ∷ marks) = ap (λ (l : List ℕ). w.debug_record shortest n mark ++ l) (marks-bytes (names_after n mark) marks)

-- ---- each is whole

abbrev pub IsFittingHead : BlockHead → Type 0
IsFittingHead heads.Module = Unit {0}
IsFittingHead (heads.Global stack type_index offset) = (stack < 2 ^ 64) × (type_index < 2 ^ 64) × IsFittingTree offset
IsFittingHead (heads.Source numbers) = (length numbers.items ≤ 6) × AllByRecursion (λ n. n < 2 ^ 64) numbers.items
IsFittingHead (heads.Local stack type_index offset) = (stack < 2 ^ 64) × (type_index < 2 ^ 64) × IsFittingTree offset
IsFittingHead (heads.Section section_type section offset) = (section_type < 2 ^ 64) × (section_index section < 2 ^ 32) × IsFittingTree offset

abbrev pub IsFittingEnd : Option Tree → Type 0
IsFittingEnd None = Unit {0}
IsFittingEnd (Some value) = IsFittingTree value

-- what keeps a record with n names before it within the bounds of the form
abbrev pub IsFittingMark : ℕ → DebugMark → Type 0
IsFittingMark n (block_begin head name) = (is_long name ≡ false) × AreBytes name × IsFittingHead head
IsFittingMark n (block_end value) = IsFittingEnd value
IsFittingMark n (name_mark name) = (is_long name ≡ false) × AreBytes name × (debug_name_index n < 2 ^ 32)
IsFittingMark n (note_mark name its) = (debug_name_index name < 2 ^ 32) × IsSpelledNote its × (is_one_of debug_attributes its.attribute ≡ true)
IsFittingMark n (value_mark name value) = (debug_name_index name < 2 ^ 32) × IsFittingTree value

abbrev pub AreFittingMarks : ℕ → List DebugMark → Type 0
AreFittingMarks n [] = Unit {0}
AreFittingMarks n (mark ∷ marks) = IsFittingMark n mark × AreFittingMarks (names_after n mark) marks

head-spelled : (head : BlockHead) → IsFittingHead head → IsSpelledHead head
head-spelled heads.Module fits = tt
head-spelled (heads.Global stack type_index offset) fits = (fits.0, fits.1, (indexed offset, expression-spells offset fits.2))
head-spelled (heads.Source numbers) fits = fits
head-spelled (heads.Local stack type_index offset) fits = (fits.0, fits.1, (indexed offset, expression-spells offset fits.2))
head-spelled (heads.Section section_type section offset) fits = (fits.0, fits.1, (indexed offset, expression-spells offset fits.2))

end-spelled : (value : Option Tree) → IsFittingEnd value → IsSpelledEnd value
end-spelled None fits = tt
end-spelled (Some value) fits = (indexed value, expression-spells value fits)

mark-the_record : (n : ℕ) (mark : DebugMark) → IsFittingMark n mark → IsRecord debug_part (mark_record n mark)
mark-the_record n (block_begin head name) fits =
    record { whole = block_begin-whole n head name fits.0 fits.1 (head-spelled head fits.2); code = omega arith; plain = refl; own = refl }
mark-the_record n (block_end value) fits = record { whole = block_end-whole value (end-spelled value fits); code = omega arith; plain = refl; own = refl }
mark-the_record n (name_mark name) fits = record {
  whole = debug_name-whole (debug_name_index n) name fits.2 fits.0 fits.1;
  code = omega arith;
  plain = refl;
  own = refl;
}
mark-the_record n (note_mark name its) fits = record {
  whole = debug_note-whole (debug_name_index name) its fits.0 fits.1 fits.2;
  code = omega arith;
  plain = refl;
  own = refl;
}
mark-the_record n (value_mark name value) fits =
    record {
      whole = debug_value-whole (debug_name_index name) (indexed value) (w.expression shortest value) fits.0 (expression-spells value fits.1);
      code = omega arith;
      plain = refl;
      own = refl;
    }

pub marks-records : (n : ℕ) (marks : List DebugMark) → AreFittingMarks n marks → AllByRecursion (IsRecord debug_part) (mark_records n marks)
marks-records n [] fit = tt
marks-records n (mark ∷ marks) fit = (mark-the_record n mark fit.0, marks-records (names_after n mark) marks fit.1)
