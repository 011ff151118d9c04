-- What the records of the section part of a written form state is what the module has.
use Rattle.std.proofs.Common.{◌≡◌, ℕ, ◌+◌, ◌<◌, ◌≤◌, ◌==◌, Bool, true, false, cond, List, [], ◌∷◌, ◌++◌, length, Option, Some, None, unwrap_or}
use Rattle.std.proofs.Common.{slice_get, refl, sym, ap, ◌∙◌, arith, append_assoc, length-append}
use Rattle.std.specs.Prelude.{if◌then◌else◌, filter_map, option_map}
use Rattle.std.specs.List.{cons_option}
use Rattle.std.proofs.lemmas.List.{append-nil}
use Rattle.std.proofs.lemmas.List.Elements.{filter_map-append}
use Rattle.std.proofs.lemmas.Bool.{eq-eqb, ne_eqb}
use Rattle.std.proofs.lemmas.Map.Views.{exact_unsigned_eq}
use Rattle.mufom_records.specs.declared.record.Record.{Record}
use Rattle.mufom_sections.specs.declared.section.Purpose.{Purpose}
use Rattle.mufom_sections.specs.declared.section.Purpose.TheVariants as purpose
use Rattle.mufom_sections.specs.declared.section.Section.{Section}
use Rattle.mufom_module.specs.SpelledRecords.{SpelledRecord, section, declared, declared_by, of_kind, text_in}
use Rattle.mufom_module.specs.Gathered.{answers, for_index, size_for, alignment_for, base_for, purpose_of, section_by, sections_of}
use Rattle.mufom_module.specs.Written.{shortest, section_index}
use Rattle.mufom_module.specs.Written as w
use Rattle.mufom_write.proofs.Rows.{letter_for, purpose_place, section_name_at, section_row}
use Rattle.mufom_write.proofs.Indexed.{counting}
use Rattle.mufom_write.proofs.Laying.{records_from}
use Rattle.mufom_write.proofs.SectionRecords.{declaration, alignment_spelling, size_spelling, base_spelling, alignment_spellings, size_spellings}
use Rattle.mufom_write.proofs.SectionRecords.{base_spellings, settings, section_records}
use Rattle.mufom_write.proofs.StatedDebug.{after-two}
use Rattle.mufom_write.proofs.Texts.{string-last}

-- ---- what is asked of the records of a section

unless-nothing : {Y : Type 0} (ask : SpelledRecord → Option Y) (b : Bool) (p : SpelledRecord) → ask p ≡ None → filter_map ask (cond b [] (p ∷ [])) ≡ []
unless-nothing ask true p h = refl
unless-nothing {Y = Y} ask false p h = ap (λ (o : Option Y). cons_option o []) h

base-nothing : {Y : Type 0} (ask : SpelledRecord → Option Y) (i : ℕ) (base : Option ℕ) → ((b : ℕ) → ask (base_spelling i b) ≡ None)
    → filter_map ask (base_spellings i base) ≡ []
base-nothing ask i None h = refl
base-nothing {Y = Y} ask i (Some base) h = ap (λ (o : Option Y). cons_option o []) (h base)

-- an asking that no setting answers
pub settings-nothing : {Y : Type 0} (ask : SpelledRecord → Option Y) (i : ℕ) (s : Section) → ask (alignment_spelling i s.align) ≡ None
    → ask (size_spelling i s.size) ≡ None → ((b : ℕ) → ask (base_spelling i b) ≡ None)
    → filter_map ask (settings i s) ≡ []
settings-nothing ask i s a b c =
    let first = unless-nothing ask (s.align == 1) (alignment_spelling i s.align) a in
    let second = unless-nothing ask (s.size == 0) (size_spelling i s.size) b in
    let third = base-nothing ask i s.base c in
    filter_map-append ask (alignment_spellings i s.align) (size_spellings i s.size ++ base_spellings i s.base)
    ∙ (λ k. first k ++ (filter_map-append ask (size_spellings i s.size) (base_spellings i s.base) ∙ (λ j. second j ++ third j)) k)

-- the indexes that the section part declares
pub declared-sections : (n : ℕ) (sections : List Section) → declared section (records_from n section_records sections) ≡ counting (n + 1) (length sections)
declared-sections n [] = refl
declared-sections n (s ∷ sections) =
    let ask : SpelledRecord → Option ℕ = λ p. of_kind section (declared_by p.row) in
    let none = settings-nothing ask (n + 1) s refl refl (λ b. refl) in
    filter_map-append ask (section_records n s) (records_from (n + 1) section_records sections)
    ∙ (λ k. (n + 1) ∷ (none k ++ declared-sections (n + 1) sections k))

-- ---- what each record of a section states

pub other-index : {Y : Type 0} (i j : ℕ) (y : Y) → (i ≡ j → ⊥) → for_index i j y ≡ None
other-index i j y differ = ap (λ (b : Bool). if b then Some y else None) (ne_eqb i j differ)

pub same-index : {Y : Type 0} (i : ℕ) (y : Y) → for_index i i y ≡ Some y
same-index i y = ap (λ (b : Bool). if b then Some y else None) (eq-eqb i i refl)

-- an asking for an index that a section with another index does not answer
record IsOf {Y : Type 0} (ask : Record → Option Y) (i : ℕ) : Type 0 where
  silent : (n : ℕ) (s : Section) → (i ≡ n + 1 → ⊥) → answers ask (section_records n s) ≡ []

size-of : (i : ℕ) → IsOf (size_for i) i
size-of i = record { silent = λ n s differ. settings-nothing (λ p. size_for i p.row) (n + 1) s refl (other-index i (n + 1) s.size differ) (λ b. refl) }

alignment-of : (i : ℕ) → IsOf (alignment_for i) i
alignment-of i = record {
  silent = λ n s differ. settings-nothing (λ p. alignment_for i p.row) (n + 1) s (other-index i (n + 1) s.align differ) refl
      (λ b. refl);
}

base-of : (i : ℕ) → IsOf (base_for i) i
base-of i = record { silent = λ n s differ. settings-nothing (λ p. base_for i p.row) (n + 1) s refl refl (λ b. other-index i (n + 1) b differ) }

later-silent : {Y : Type 0} (ask : Record → Option Y) (i : ℕ) → IsOf ask i → (n : ℕ) (sections : List Section) → i ≤ n
    → answers ask (records_from n section_records sections) ≡ []
later-silent ask i of n [] low = refl
later-silent ask i of n (s ∷ sections) low =
    let own = of.silent n s (λ same. omega (arith, same, low)) in
    let rest = later-silent ask i of (n + 1) sections (omega (arith, low)) in
    filter_map-append (λ p. ask p.row) (section_records n s) (records_from (n + 1) section_records sections) ∙ (λ k. own k ++ rest k)

-- the answers of records among others that are silent
pub among : {Y : Type 0} (ask : Record → Option Y) (before own rest : List SpelledRecord) (ys : List Y) → answers ask before ≡ [] → answers ask own
    ≡ ys → answers ask rest ≡ [] → answers ask (before ++ (own ++ rest)) ≡ ys
among ask before own rest ys a b c =
    filter_map-append (λ p. ask p.row) before (own ++ rest)
    ∙ (λ k. a k ++ (filter_map-append (λ p. ask p.row) own rest ∙ (λ j. b j ++ c j)) k) ∙ append-nil ys

-- ---- what a section states of itself

unless-one : {Y : Type 0} (ask : SpelledRecord → Option Y) (b : Bool) (p : SpelledRecord) (y : Y) → ask p ≡ Some y
    → filter_map ask (cond b [] (p ∷ [])) ≡ cond b [] (y ∷ [])
unless-one ask true p y h = refl
unless-one {Y = Y} ask false p y h = ap (λ (o : Option Y). cons_option o []) h

own-alignment : (n : ℕ) (s : Section) → answers (alignment_for (n + 1)) (section_records n s) ≡ cond (s.align == 1) [] (s.align ∷ [])
own-alignment n s =
    let ask : SpelledRecord → Option ℕ = λ p. alignment_for (n + 1) p.row in
    let i = n + 1 in
    let first = unless-one ask (s.align == 1) (alignment_spelling i s.align) s.align (same-index i s.align) in
    let second = unless-nothing ask (s.size == 0) (size_spelling i s.size) refl in
    let third = base-nothing ask i s.base (λ b. refl) in
    filter_map-append ask (alignment_spellings i s.align) (size_spellings i s.size ++ base_spellings i s.base)
    ∙ (λ k. first k ++ (filter_map-append ask (size_spellings i s.size) (base_spellings i s.base) ∙ (λ j. second j ++ third j)) k)
    ∙ append-nil (cond (s.align == 1) [] (s.align ∷ []))

own-size : (n : ℕ) (s : Section) → answers (size_for (n + 1)) (section_records n s) ≡ cond (s.size == 0) [] (s.size ∷ [])
own-size n s =
    let ask : SpelledRecord → Option ℕ = λ p. size_for (n + 1) p.row in
    let i = n + 1 in
    let first = unless-nothing ask (s.align == 1) (alignment_spelling i s.align) refl in
    let second = unless-one ask (s.size == 0) (size_spelling i s.size) s.size (same-index i s.size) in
    let third = base-nothing ask i s.base (λ b. refl) in
    filter_map-append ask (alignment_spellings i s.align) (size_spellings i s.size ++ base_spellings i s.base)
    ∙ (λ k. first k ++ (filter_map-append ask (size_spellings i s.size) (base_spellings i s.base) ∙ (λ j. second j ++ third j)) k)
    ∙ append-nil (cond (s.size == 0) [] (s.size ∷ []))

base-alone : (i : ℕ) (base : Option ℕ) → slice_get (answers (base_for i) (base_spellings i base)) 0 ≡ base
base-alone i None = refl
base-alone i (Some base) = ap (λ (o : Option ℕ). slice_get (cons_option o []) 0) (same-index i base)

own-base : (n : ℕ) (s : Section) → answers (base_for (n + 1)) (section_records n s) ≡ answers (base_for (n + 1)) (base_spellings (n + 1) s.base)
own-base n s =
    let ask : SpelledRecord → Option ℕ = λ p. base_for (n + 1) p.row in
    let i = n + 1 in
    let first = unless-nothing ask (s.align == 1) (alignment_spelling i s.align) refl in
    let second = unless-nothing ask (s.size == 0) (size_spelling i s.size) refl in
    filter_map-append ask (alignment_spellings i s.align) (size_spellings i s.size ++ base_spellings i s.base)
    ∙ (λ k. first k ++ (filter_map-append ask (size_spellings i s.size) (base_spellings i s.base)
    ∙ (λ j. second j ++ filter_map ask (base_spellings i s.base))) k)

-- what is left out because it has the usual value has that value
stated-or-usual : (x usual : ℕ) → unwrap_or (slice_get (cond (x == usual) [] (x ∷ [])) 0) usual ≡ x
stated-or-usual x usual = by_case (x == usual) refl where
  by_case : (b : Bool) → (x == usual) ≡ b → unwrap_or (slice_get (cond b [] (x ∷ [])) 0) usual ≡ x
  by_case true same = sym (exact_unsigned_eq x usual same)
  by_case false differ = refl

purpose-back : (p : Option Purpose) → option_map purpose_of (letter_for p) ≡ p
purpose-back None = refl
purpose-back (Some purpose.Code) = refl
purpose-back (Some purpose.Data) = refl
purpose-back (Some purpose.Rom) = refl

place-is : (i : ℕ) (absolute : Bool) → purpose_place i absolute ≡ 1 + length (w.number shortest i) + length (w.section_letters absolute)
place-is i true = omega arith
place-is i false = omega arith

name-back : (i : ℕ) (s : Section) → text_in (declaration i s) (section_name_at i s) ≡ s.name
name-back i s =
    let a = w.number shortest i in
    let b = w.section_letters s.absolute in
    let c = w.purpose_letter s.purpose in
    let place = place-is i s.absolute in
    let one = length-append a (b ++ c) in
    let two = length-append b c in
    string-last (w.section_record shortest i s) (0xE6 ∷ (a ++ (b ++ c))) s.name (purpose_place i s.absolute + length c)
    (ap (λ (l : List ℕ). 0xE6 ∷ l) (after-two a b c (w.string shortest s.name))) (omega (arith, place, one, two))

-- ---- all sections

-- records that state nothing of sections with indexes above n
record AreQuiet (before : List SpelledRecord) (n : ℕ) : Type 0 where
  size : (i : ℕ) → n < i → answers (size_for i) before ≡ []
  alignment : (i : ℕ) → n < i → answers (alignment_for i) before ≡ []
  base : (i : ℕ) → n < i → answers (base_for i) before ≡ []

quiet-more : {Y : Type 0} (ask : Record → Option Y) (i : ℕ) → IsOf ask i → (before : List SpelledRecord) (n : ℕ) (s : Section) → n + 1 < i
    → answers ask before ≡ [] → answers ask (before ++ section_records n s) ≡ []
quiet-more ask i of before n s high none =
    let own = of.silent n s (λ same. omega (arith, same, high)) in
    filter_map-append (λ p. ask p.row) before (section_records n s) ∙ (λ k. none k ++ own k)

section-back : (part before rest : List SpelledRecord) (n : ℕ) (s : Section) → part ≡ before ++ (section_records n s ++ rest) → AreQuiet before n
    → answers (size_for (n + 1)) rest ≡ [] → answers (alignment_for (n + 1)) rest ≡ [] → answers (base_for (n + 1)) rest ≡ []
    → section_by part (declaration (n + 1) s) (section_row (n + 1) s) ≡ Some s
section-back part before rest n s is quiet sizes aligns bases =
    let i = n + 1 in
    let size = ap (answers (size_for i)) is ∙ among (size_for i) before (section_records n s) rest (cond (s.size == 0) [] (s.size ∷ []))
    (quiet.size i (omega arith)) (own-size n s) sizes in
    let align = ap (answers (alignment_for i)) is ∙ among (alignment_for i) before (section_records n s) rest (cond (s.align == 1) [] (s.align ∷ []))
    (quiet.alignment i (omega arith)) (own-alignment n s) aligns in
    let base = ap (answers (base_for i)) is ∙ among (base_for i) before (section_records n s) rest (answers (base_for i) (base_spellings i s.base))
    (quiet.base i (omega arith)) (own-base n s) bases in
    let name_is = name-back i s in
    let purpose_is = purpose-back s.purpose in
    let size_is = ap (λ (l : List ℕ). unwrap_or (slice_get l 0) 0) size ∙ stated-or-usual s.size 0 in
    let align_is = ap (λ (l : List ℕ). unwrap_or (slice_get l 0) 1) align ∙ stated-or-usual s.align 1 in
    let base_is = ap (λ (l : List ℕ). slice_get l 0) base ∙ base-alone i s.base in
    λ j. Some (record { name = name_is j; absolute = s.absolute; purpose = purpose_is j; size = size_is j; align = align_is j; base = base_is j })

sections-from : (part before : List SpelledRecord) (n : ℕ) (sections : List Section) → part ≡ before ++ records_from n section_records sections
    → AreQuiet before n
    → filter_map (λ p. section_by part p p.row) (records_from n section_records sections) ≡ sections
sections-from part before n [] is quiet = refl
sections-from part before n (s ∷ sections) is quiet =
    let i = n + 1 in
    let rest = records_from (n + 1) section_records sections in
    let ask : SpelledRecord → Option Section = λ p. section_by part p p.row in
    let own = section-back part before rest n s is quiet (later-silent (size_for i) i (size-of i) (n + 1) sections (omega arith))
    (later-silent (alignment_for i) i (alignment-of i) (n + 1) sections (omega arith))
    (later-silent (base_for i) i (base-of i) (n + 1) sections (omega arith)) in
    let none = settings-nothing ask i s refl refl (λ b. refl) in
    let later = sections-from part (before ++ section_records n s) (n + 1) sections (is ∙ sym (append_assoc before (section_records n s) rest)) (record {
      size = λ j high. quiet-more (size_for j) j (size-of j) before n s high (quiet.size j (omega (arith, high)));
      alignment = λ j high. quiet-more (alignment_for j) j (alignment-of j) before n s high (quiet.alignment j (omega (arith, high)));
      base = λ j high. quiet-more (base_for j) j (base-of j) before n s high (quiet.base j (omega (arith, high)));
    }) in
    filter_map-append ask (section_records n s) rest ∙ (λ k. cons_option (own k) (none k) ++ later k)

pub sections-back : (sections : List Section) → sections_of (records_from 0 section_records sections) ≡ sections
sections-back sections = sections-from (records_from 0 section_records sections) [] 0 sections refl
    (record { size = λ i h. refl; alignment = λ i h. refl; base = λ i h. refl })
