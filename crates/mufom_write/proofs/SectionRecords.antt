-- The section part of a written form as records.
use Rattle.std.proofs.Common.{◌≡◌, ℕ, ◌+◌, ◌^◌, ◌<◌, ◌==◌, Bool, true, false, cond, List, [], ◌∷◌, ◌++◌, length, Option, Some, None, refl, ap, ◌∙◌, arith}
use Rattle.std.specs.Prelude.{if◌then◌else◌, IfSome}
use Rattle.std.specs.List.{AllByRecursion}
use Rattle.std.proofs.lemmas.List.{append-nil}
use Rattle.mufom_numbers.specs.Spelling.{AreBytes}
use Rattle.mufom_records.specs.declared.record.Record.TheVariants as r
use Rattle.mufom_sections.specs.declared.section.Section.{Section}
use Rattle.mufom_module.specs.SpelledRecords.{SpelledRecord, bytes_of}
use Rattle.mufom_module.specs.RecordParts.{section_part}
use Rattle.mufom_module.specs.Written.{shortest, section_index}
use Rattle.mufom_module.specs.Written as w
use Rattle.mufom_module.specs.Defects.{is_long}
use Rattle.mufom_write.proofs.Rows.{section_row, section-whole, alignment-whole, size-whole, base-whole}
use Rattle.mufom_write.proofs.Laying.{spelled, records_from, IsRecord, bytes_of-append, bytes_of-records_from, all-append}

-- ---- the records of a section with an index

abbrev pub declaration : ℕ → Section → SpelledRecord
declaration i s = spelled (section_row i s) (w.section_record shortest i s)

abbrev pub alignment_spelling : ℕ → ℕ → SpelledRecord
alignment_spelling i align = spelled (r.Alignment i align None) (0xE7 ∷ (w.number shortest i ++ w.number shortest align))

abbrev pub size_spelling : ℕ → ℕ → SpelledRecord
size_spelling i size = spelled (r.SectionSize i size) (0xE2 ∷ 0xD3 ∷ (w.number shortest i ++ w.number shortest size))

abbrev pub base_spelling : ℕ → ℕ → SpelledRecord
base_spelling i base = spelled (r.SectionBase i base) (0xE2 ∷ 0xCC ∷ (w.number shortest i ++ w.number shortest base))

abbrev pub alignment_spellings : ℕ → ℕ → List SpelledRecord
alignment_spellings i align = if align == 1 then [] else alignment_spelling i align ∷ []

abbrev pub size_spellings : ℕ → ℕ → List SpelledRecord
size_spellings i size = if size == 0 then [] else size_spelling i size ∷ []

abbrev pub base_spellings : ℕ → Option ℕ → List SpelledRecord
base_spellings i None = []
base_spellings i (Some base) = base_spelling i base ∷ []

abbrev pub settings : ℕ → Section → List SpelledRecord
settings i s = alignment_spellings i s.align ++ (size_spellings i s.size ++ base_spellings i s.base)

abbrev pub section_records : ℕ → Section → List SpelledRecord
section_records position s = declaration (section_index position) s ∷ settings (section_index position) s

-- ---- their bytes

one-spelled : (p : SpelledRecord) → bytes_of (p ∷ []) ≡ p.bytes
one-spelled p = append-nil p.bytes

unless-bytes : (b : Bool) (p : SpelledRecord) → bytes_of (cond b [] (p ∷ [])) ≡ cond b [] p.bytes
unless-bytes true p = refl
unless-bytes false p = one-spelled p

base-bytes : (i : ℕ) (base : Option ℕ) → bytes_of (base_spellings i base) ≡ w.base_record shortest i base
base-bytes i None = refl
base-bytes i (Some base) = one-spelled (base_spelling i base)

section-bytes : (position : ℕ) (s : Section) → bytes_of (section_records position s) ≡ w.section shortest position s
section-bytes position s =
    let i = section_index position in
    let first = unless-bytes (s.align == 1) (alignment_spelling i s.align) in
    let second = unless-bytes (s.size == 0) (size_spelling i s.size) in
    let third = base-bytes i s.base in
    let rest : bytes_of (settings i s) ≡ w.alignment_record shortest i s.align ++ (w.size_record shortest i s.size ++ w.base_record shortest i s.base)
    = bytes_of-append (alignment_spellings i s.align) (size_spellings i s.size ++ base_spellings i s.base)
    ∙ (λ k. first k ++ (bytes_of-append (size_spellings i s.size) (base_spellings i s.base) ∙ (λ j. second j ++ third j)) k) in
    ap (λ (l : List ℕ). w.section_record shortest i s ++ l) rest

pub sections-bytes : (n : ℕ) (sections : List Section) → bytes_of (records_from n section_records sections) ≡ w.each_from n (w.section shortest) sections
sections-bytes n sections = bytes_of-records_from section_records (w.section shortest) section-bytes n sections

-- ---- each is whole

-- what keeps a section within the bounds of the form
pub record IsFittingSection (s : Section) : Type 0 where
  pub short : is_long s.name ≡ false
  pub name : AreBytes s.name
  pub size : s.size < 2 ^ 64
  pub align : s.align < 2 ^ 64
  pub base : IfSome s.base (λ base. base < 2 ^ 64)

unless-records : (b : Bool) (p : SpelledRecord) → IsRecord section_part p → AllByRecursion (IsRecord section_part) (cond b [] (p ∷ []))
unless-records true p is = tt
unless-records false p is = (is, tt)

base-records : (i : ℕ) (base : Option ℕ) → i < 2 ^ 32 → IfSome base (λ base. base < 2 ^ 64) → AllByRecursion (IsRecord section_part) (base_spellings i base)
base-records i None hi fits = tt
base-records i (Some base) hi fits = (record { whole = base-whole i base hi fits; code = omega arith; plain = refl; own = refl }, tt)

section-records : (position : ℕ) (s : Section) → section_index position < 2 ^ 32 → IsFittingSection s
    → AllByRecursion (IsRecord section_part) (section_records position s)
section-records position s hi fits =
    let i = section_index position in (
      record { whole = section-whole i s hi fits.short fits.name; code = omega arith; plain = refl; own = refl },
      all-append (IsRecord section_part) (alignment_spellings i s.align) (size_spellings i s.size ++ base_spellings i s.base)
          (unless-records (s.align == 1) (alignment_spelling i s.align)
          (record { whole = alignment-whole i s.align hi fits.align; code = omega arith; plain = refl; own = refl }))
          (all-append (IsRecord section_part) (size_spellings i s.size) (base_spellings i s.base)
          (unless-records (s.size == 0) (size_spelling i s.size) (record {
            whole = size-whole i s.size hi fits.size;
            code = omega arith;
            plain = refl;
            own = refl;
          }))
          (base-records i s.base hi fits.base)),
    )

pub sections-records : (n : ℕ) (sections : List Section) → n + length sections < 2 ^ 32 → AllByRecursion IsFittingSection sections
    → AllByRecursion (IsRecord section_part) (records_from n section_records sections)
sections-records n [] few fit = tt
sections-records n (s ∷ sections) few fit =
    all-append (IsRecord section_part) (section_records n s) (records_from (n + 1) section_records sections)
    (section-records n s (omega (arith, few)) fit.0) (sections-records (n + 1) sections (omega (arith, few)) fit.1)
