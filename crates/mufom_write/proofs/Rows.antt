-- The records of a written form: each is a whole one if the first byte of a record follows it.
use Rattle.std.proofs.Common.{◌≡◌, ℕ, ◌+◌, ◌^◌, ◌<◌, ◌≤◌, ◌==◌, Bool, true, false, nat_lt, List, [], ◌∷◌, ◌++◌, length, Option, Some, None, refl, sym}
use Rattle.std.proofs.Common.{inl, inr, cond, arith}
use Rattle.std.specs.Prelude.{if◌then◌else◌}
use Rattle.std.specs.List.{AllByRecursion}
use Rattle.std.specs.Int.{w16, to_be_bytes}
use Rattle.std.proofs.lemmas.List.{append-nil}
use Rattle.std.proofs.lemmas.Bool.{cases_lt, le-ltb, lt-ltb, ltb-false}
use Rattle.arrayvec.specs.ArrayVec.{ArrayVec}
use Rattle.mufom_numbers.specs.declared.limits.TheConstants.{MOST_STRING_BYTES as longest}
use Rattle.mufom_numbers.specs.Spelling.{AreBytes, SpellsNumber, IsStringLead, shortest_lead}
use Rattle.mufom_numbers.proofs.ShortestLaws.{shortest_number-spells}
use Rattle.mufom_numbers.specs.declared.reason.Reason.{Reason}
use Rattle.mufom_numbers.specs.declared.reason.Reason.TheVariants.{BadNumber, UnsupportedAttribute}
use Rattle.mufom_numbers.specs.declared.taken.Span.{Span}
use Rattle.mufom_expr.specs.Tree.{Tree}
use Rattle.mufom_expr.specs.Spelled.{SpellsTree}
use Rattle.mufom_expr.specs.TokenAt.{begins_number, begins_token}
use Rattle.mufom_records.specs.declared.record.Mode.TheVariants as mode
use Rattle.mufom_records.specs.declared.record.Record.{Record}
use Rattle.mufom_records.specs.declared.record.Record.TheVariants as r
use Rattle.mufom_records.specs.Fields.{number, numbers, string, expression, Stops, is_one_of, span_at, SpellsField, SpellsNumbers, first_of}
use Rattle.mufom_records.specs.Fields.{optional_number}
use Rattle.mufom_records.specs.Layouts.{◌▹◌, whole, SpellsRecord, purposes, named_section, section_type, index_and_number, index_and_string}
use Rattle.mufom_records.specs.Layouts.{index_and_expression, debug_attributes, IsWholeRecord, any_number, assignment, here, index, noted}
use Rattle.mufom_sections.specs.declared.section.Purpose.{Purpose}
use Rattle.mufom_sections.specs.declared.section.Purpose.TheVariants as purpose
use Rattle.mufom_sections.specs.declared.section.Section.{Section}
use Rattle.mufom_names.specs.declared.name.Note.{Note}
use Rattle.mufom_module.specs.Written.{shortest, each_from}
use Rattle.mufom_module.specs.Written as w
use Rattle.mufom_module.specs.Defects.{is_long}

-- the next byte is one with which a record begins
abbrev pub IsCode : Option ℕ → Type 0
IsCode None = ⊥
IsCode (Some b) = 0xE0 ≤ b

no_number : (b : ℕ) → 0xE0 ≤ b → begins_number b ≡ false
no_number b h = grind arith

no_token : (b : ℕ) → 0xE0 ≤ b → begins_token b ≡ false
no_token b h = grind arith

pub stops-number : (next : Option ℕ) → IsCode next → Stops begins_number next
stops-number None h = h
stops-number (Some b) h = no_number b h

pub stops-token : (next : Option ℕ) → IsCode next → Stops begins_token next
stops-token None h = h
stops-token (Some b) h = no_token b h

-- ---- numbers

pub spells : (n : ℕ) → n < 2 ^ 64 → SpellsNumber n (w.number shortest n)
spells n h = shortest_number-spells n h

index_within : (n : ℕ) → n < 2 ^ 32 → n < 2 ^ 64
index_within n h = omega arith

-- an index is spelled, and is one
pub spells_index : (n : ℕ) → n < 2 ^ 32 → SpellsNumber n (w.number shortest n) × (nat_lt n (2 ^ 32) ≡ true)
spells_index n h = (spells n (index_within n h), lt-ltb n (2 ^ 32) h)

pub spells_numbers : (k : ℕ) (ns : List ℕ) → AllByRecursion (λ n. n < 2 ^ 64) ns → SpellsNumbers ns (each_from k (λ _. w.number shortest) ns)
spells_numbers k [] all = refl
spells_numbers k (n ∷ ns) all = (w.number shortest n, each_from (k + 1) (λ _. w.number shortest) ns, spells n all.0, spells_numbers (k + 1) ns all.1, refl)

-- ---- strings

lead_large : (len : ℕ) → 256 ≤ len → len ≤ longest → IsStringLead len (0xDF ∷ to_be_bytes w16 len)
lead_large len large few = (refl, omega arith, omega arith, omega (arith, few))

lead_long : (len : ℕ) → 128 ≤ len → len ≤ longest → IsStringLead len (shortest_lead len)
lead_long len long few = rw (le-ltb len 128 long) (elim (cases_lt len 256) [
  | inl small ↦ rw (lt-ltb len 256 small) (refl, small, refl)
  | inr large ↦ rw (le-ltb len 256 large) (lead_large len large few)
])

pub lead-is : (len : ℕ) → len ≤ longest → IsStringLead len (shortest_lead len)
lead-is len few = elim (cases_lt len 128) [
  | inl small ↦ rw (lt-ltb len 128 small) (small, refl)
  | inr long ↦ lead_long len long few
]

-- the place of the bytes of a string that begins there
abbrev pub text_at : ℕ → List ℕ → Span
text_at at text = span_at (at + length (shortest_lead (length text))) (length text)

pub spells_string : (text : List ℕ) (at : ℕ) (next : Option ℕ) → is_long text ≡ false → AreBytes text
    → SpellsField string (text_at at text) at (w.string shortest text) next
spells_string text at next short bytes = (shortest_lead (length text), text, lead-is (length text) (ltb-false longest (length text) short), bytes, refl, refl)

-- ---- expressions

-- an expression that ends before a byte that begins no token
pub spells_expression : (tree : Tree) (text : List ℕ) (at : ℕ) (next : Option ℕ) → SpellsTree tree text → Stops begins_token next
    → SpellsField expression (span_at at (length text)) at text next
spells_expression tree text at next spelled stops = ((tree, spelled), refl, stops)

-- ---- records

abbrev pub IsWhole : Record → List ℕ → Type 0
IsWhole row bytes = (next : Option ℕ) → IsCode next → IsWholeRecord mode.Body row bytes next

-- a record after E2 and a letter
assigned-whole : (letter : ℕ) (row : Record) (rest : List ℕ) → ((next : Option ℕ) → IsCode next → SpellsRecord (assignment letter) row 2 rest next)
    → IsWhole row (0xE2 ∷ letter ∷ rest)
assigned-whole letter row rest spelled next code = (0xE2, 0xE2 ∷ [], letter ∷ rest, refl, (letter, letter ∷ [], rest, refl, spelled next code, refl), refl)

-- a record after F1 and a letter
noted-whole : (letter : ℕ) (row : Record) (rest : List ℕ) → ((next : Option ℕ) → IsCode next → SpellsRecord (noted letter) row 2 rest next)
    → IsWhole row (0xF1 ∷ letter ∷ rest)
noted-whole letter row rest spelled next code = (0xF1, 0xF1 ∷ [], letter ∷ rest, refl, (letter, letter ∷ [], rest, refl, spelled next code, refl), refl)

-- SA
pub alignment-whole : (i n : ℕ) → i < 2 ^ 32 → n < 2 ^ 64 → IsWhole (r.Alignment i n None) (0xE7 ∷ (w.number shortest i ++ w.number shortest n))
alignment-whole i n hi hn next code = (
  0xE7,
  0xE7 ∷ [],
  w.number shortest i ++ w.number shortest n,
  refl,
  (
    i,
    w.number shortest i,
    w.number shortest n,
    spells_index i hi,
    (
      n,
      w.number shortest n,
      [],
      (spells n hn, refl),
      (None, [], [], (refl, stops-number next code), (refl, refl), refl),
      sym (append-nil (w.number shortest n)),
    ),
    refl,
  ),
  refl,
)

index_and_number-spells : (row : ℕ → ℕ → Record) (i n at : ℕ) (next : Option ℕ) → i < 2 ^ 32 → n < 2 ^ 64
    → SpellsRecord (index_and_number row) (row i n) at (w.number shortest i ++ w.number shortest n) next
index_and_number-spells row i n at next hi hn = (
  i,
  w.number shortest i,
  w.number shortest n,
  spells_index i hi,
  (n, w.number shortest n, [], (spells n hn, refl), (refl, refl), sym (append-nil (w.number shortest n))),
  refl,
)

-- ASS
pub size-whole : (i n : ℕ) → i < 2 ^ 32 → n < 2 ^ 64 → IsWhole (r.SectionSize i n) (0xE2 ∷ 0xD3 ∷ (w.number shortest i ++ w.number shortest n))
size-whole i n hi hn =
    assigned-whole 0xD3 (r.SectionSize i n) (w.number shortest i ++ w.number shortest n) (λ next code. index_and_number-spells r.SectionSize i n 2 next hi hn)

-- ASL
pub base-whole : (i n : ℕ) → i < 2 ^ 32 → n < 2 ^ 64 → IsWhole (r.SectionBase i n) (0xE2 ∷ 0xCC ∷ (w.number shortest i ++ w.number shortest n))
base-whole i n hi hn =
    assigned-whole 0xCC (r.SectionBase i n) (w.number shortest i ++ w.number shortest n) (λ next code. index_and_number-spells r.SectionBase i n 2 next hi hn)

-- ---- ST

no_purpose : (b : ℕ) → b < 128 → is_one_of purposes b ≡ false
no_purpose b h = grind arith

lead-stops_long : (len : ℕ) (rest : List ℕ) (next : Option ℕ) → 128 ≤ len → Stops (is_one_of purposes) (first_of (shortest_lead len ++ rest) next)
lead-stops_long len rest next long = rw (le-ltb len 128 long) (elim (cases_lt len 256) [
  | inl small ↦ rw (lt-ltb len 256 small) refl
  | inr large ↦ rw (le-ltb len 256 large) refl
])

-- a string begins with none of the letters of purposes
lead-stops : (len : ℕ) (rest : List ℕ) (next : Option ℕ) → Stops (is_one_of purposes) (first_of (shortest_lead len ++ rest) next)
lead-stops len rest next = elim (cases_lt len 128) [
  | inl small ↦ rw (lt-ltb len 128 small) (no_purpose len small)
  | inr long ↦ lead-stops_long len rest next long
]

-- the letter of a purpose, as a record has it
abbrev pub letter_for : Option Purpose → Option ℕ
letter_for None = None
letter_for (Some purpose.Code) = Some 0xD0
letter_for (Some purpose.Data) = Some 0xC4
letter_for (Some purpose.Rom) = Some 0xD2

section_name-spells : (i : ℕ) (absolute : Bool) (letter : Option ℕ) (name : List ℕ) (at : ℕ) (next : Option ℕ) → IsCode next → is_long name ≡ false
    → AreBytes name
    → SpellsRecord (string ▹ λ name. optional_number ▹ λ a. optional_number ▹ λ b. optional_number ▹ λ c. whole (r.SectionType i absolute letter name a b c))
    (r.SectionType i absolute letter (text_at at name) None None None) at (w.string shortest name) next
section_name-spells i absolute letter name at next code short bytes =
    let none = stops-number next code in (
      text_at at name,
      w.string shortest name,
      [],
      spells_string name at next short bytes,
      (None, [], [], (refl, none), (None, [], [], (refl, none), (None, [], [], (refl, none), (refl, refl), refl), refl), refl),
      sym (append-nil (w.string shortest name)),
    )

named_section-spells : (i : ℕ) (absolute : Bool) (p : Option Purpose) (name : List ℕ) (at : ℕ) (next : Option ℕ) → IsCode next → is_long name ≡ false
    → AreBytes name
    → SpellsRecord (named_section i absolute) (r.SectionType i absolute (letter_for p) (text_at (at + length (w.purpose_letter p)) name) None None None) at
    (w.purpose_letter p ++ w.string shortest name) next
named_section-spells i absolute None name at next code short bytes = (
  None,
  [],
  w.string shortest name,
  (refl, lead-stops (length name) name next),
  section_name-spells i absolute None name (at + 0) next code short bytes,
  refl,
)
named_section-spells i absolute (Some purpose.Code) name at next code short bytes =
    (Some 0xD0, 0xD0 ∷ [], w.string shortest name, (refl, refl), section_name-spells i absolute (Some 0xD0) name (at + 1) next code short bytes, refl)
named_section-spells i absolute (Some purpose.Data) name at next code short bytes =
    (Some 0xC4, 0xC4 ∷ [], w.string shortest name, (refl, refl), section_name-spells i absolute (Some 0xC4) name (at + 1) next code short bytes, refl)
named_section-spells i absolute (Some purpose.Rom) name at next code short bytes =
    (Some 0xD2, 0xD2 ∷ [], w.string shortest name, (refl, refl), section_name-spells i absolute (Some 0xD2) name (at + 1) next code short bytes, refl)

-- the place of the letter of a section's purpose, or where it would be
abbrev pub purpose_place : ℕ → Bool → ℕ
purpose_place i true = 1 + length (w.number shortest i) + 1 + 1
purpose_place i false = 1 + length (w.number shortest i) + 1

-- the place of its name
abbrev pub section_name_at : ℕ → Section → Span
section_name_at i s = text_at (purpose_place i s.absolute + length (w.purpose_letter s.purpose)) s.name

abbrev pub section_row : ℕ → Section → Record
section_row i s = r.SectionType i s.absolute (letter_for s.purpose) (section_name_at i s) None None None

section_type-spells : (i : ℕ) (absolute : Bool) (p : Option Purpose) (name : List ℕ) (next : Option ℕ) → IsCode next → i < 2 ^ 32 → is_long name
    ≡ false → AreBytes name
    → SpellsRecord section_type (r.SectionType i absolute (letter_for p) (text_at (purpose_place i absolute + length (w.purpose_letter p)) name) None
    None None) 1
    (w.number shortest i ++ (w.section_letters absolute ++ (w.purpose_letter p ++ w.string shortest name))) next
section_type-spells i true p name next code hi short bytes = (
  i,
  w.number shortest i,
  0xC1 ∷ 0xD3 ∷ (w.purpose_letter p ++ w.string shortest name),
  spells_index i hi,
  (
    0xC1,
    0xC1 ∷ [],
    0xD3 ∷ (w.purpose_letter p ++ w.string shortest name),
    refl,
    (
      0xD3,
      0xD3 ∷ [],
      w.purpose_letter p ++ w.string shortest name,
      refl,
      named_section-spells i true p name (1 + length (w.number shortest i) + 1 + 1) next code short bytes,
      refl,
    ),
    refl,
  ),
  refl,
)
section_type-spells i false p name next code hi short bytes = (
  i,
  w.number shortest i,
  0xC3 ∷ (w.purpose_letter p ++ w.string shortest name),
  spells_index i hi,
  (
    0xC3,
    0xC3 ∷ [],
    w.purpose_letter p ++ w.string shortest name,
    refl,
    named_section-spells i false p name (1 + length (w.number shortest i) + 1) next code short bytes,
    refl,
  ),
  refl,
)

pub section-whole : (i : ℕ) (s : Section) → i < 2 ^ 32 → is_long s.name ≡ false → AreBytes s.name → IsWhole (section_row i s) (w.section_record shortest i s)
section-whole i s hi short bytes next code = (
  0xE6,
  0xE6 ∷ [],
  w.number shortest i ++ (w.section_letters s.absolute ++ (w.purpose_letter s.purpose ++ w.string shortest s.name)),
  refl,
  section_type-spells i s.absolute s.purpose s.name next code hi short bytes,
  refl,
)

-- ---- names

index_and_string-spells : (row : ℕ → Span → Record) (i : ℕ) (name : List ℕ) (next : Option ℕ) → i < 2 ^ 32 → is_long name ≡ false → AreBytes name
    → SpellsRecord (index_and_string row) (row i (text_at (1 + length (w.number shortest i)) name)) 1 (w.number shortest i ++ w.string shortest name) next
index_and_string-spells row i name next hi short bytes = (
  i,
  w.number shortest i,
  w.string shortest name,
  spells_index i hi,
  (
    text_at (1 + length (w.number shortest i)) name,
    w.string shortest name,
    [],
    spells_string name (1 + length (w.number shortest i)) next short bytes,
    (refl, refl),
    sym (append-nil (w.string shortest name)),
  ),
  refl,
)

-- the place of a name after its index
abbrev pub name_at : ℕ → List ℕ → Span
name_at i name = text_at (1 + length (w.number shortest i)) name

-- NI
pub public_name-whole : (i : ℕ) (name : List ℕ) → i < 2 ^ 32 → is_long name ≡ false → AreBytes name
    → IsWhole (r.PublicName i (name_at i name)) (0xE8 ∷ (w.number shortest i ++ w.string shortest name))
public_name-whole i name hi short bytes next code =
    (0xE8, 0xE8 ∷ [], w.number shortest i ++ w.string shortest name, refl, index_and_string-spells r.PublicName i name next hi short bytes, refl)

-- NX
pub reference_name-whole : (i : ℕ) (name : List ℕ) → i < 2 ^ 32 → is_long name ≡ false → AreBytes name
    → IsWhole (r.ReferenceName i (name_at i name)) (0xE9 ∷ (w.number shortest i ++ w.string shortest name))
reference_name-whole i name hi short bytes next code =
    (0xE9, 0xE9 ∷ [], w.number shortest i ++ w.string shortest name, refl, index_and_string-spells r.ReferenceName i name next hi short bytes, refl)

-- NN
pub debug_name-whole : (i : ℕ) (name : List ℕ) → i < 2 ^ 32 → is_long name ≡ false → AreBytes name
    → IsWhole (r.DebugName i (name_at i name)) (0xF0 ∷ (w.number shortest i ++ w.string shortest name))
debug_name-whole i name hi short bytes next code =
    (0xF0, 0xF0 ∷ [], w.number shortest i ++ w.string shortest name, refl, index_and_string-spells r.DebugName i name next hi short bytes, refl)

index_and_expression-spells : (row : ℕ → Span → Record) (i : ℕ) (tree : Tree) (text : List ℕ) (next : Option ℕ) → i < 2 ^ 32 → SpellsTree tree text
    → IsCode next
    → SpellsRecord (index_and_expression row) (row i (span_at (2 + length (w.number shortest i)) (length text))) 2 (w.number shortest i ++ text) next
index_and_expression-spells row i tree text next hi spelled code = (
  i,
  w.number shortest i,
  text,
  spells_index i hi,
  (
    span_at (2 + length (w.number shortest i)) (length text),
    text,
    [],
    spells_expression tree text (2 + length (w.number shortest i)) next spelled (stops-token next code),
    (refl, refl),
    sym (append-nil text),
  ),
  refl,
)

-- the place of an expression after its index
abbrev pub value_at : ℕ → List ℕ → Span
value_at i text = span_at (2 + length (w.number shortest i)) (length text)

-- ASI
pub public_value-whole : (i : ℕ) (tree : Tree) (text : List ℕ) → i < 2 ^ 32 → SpellsTree tree text
    → IsWhole (r.PublicValue i (value_at i text)) (0xE2 ∷ 0xC9 ∷ (w.number shortest i ++ text))
public_value-whole i tree text hi spelled =
    assigned-whole 0xC9 (r.PublicValue i (value_at i text)) (w.number shortest i
    ++ text) (λ next code. index_and_expression-spells r.PublicValue i tree text next hi spelled code)

-- ASN
pub debug_value-whole : (i : ℕ) (tree : Tree) (text : List ℕ) → i < 2 ^ 32 → SpellsTree tree text
    → IsWhole (r.DebugValue i (value_at i text)) (0xE2 ∷ 0xCE ∷ (w.number shortest i ++ text))
debug_value-whole i tree text hi spelled =
    assigned-whole 0xCE (r.DebugValue i (value_at i text)) (w.number shortest i
    ++ text) (λ next code. index_and_expression-spells r.DebugValue i tree text next hi spelled code)

-- ASP
pub set_pc-whole : (i : ℕ) (tree : Tree) (text : List ℕ) → i < 2 ^ 32 → SpellsTree tree text
    → IsWhole (r.SetPc i (value_at i text)) (0xE2 ∷ 0xD0 ∷ (w.number shortest i ++ text))
set_pc-whole i tree text hi spelled =
    assigned-whole 0xD0 (r.SetPc i (value_at i text)) (w.number shortest i
    ++ text) (λ next code. index_and_expression-spells r.SetPc i tree text next hi spelled code)

-- what the numbers of a note keep to
pub record IsSpelledNote (note : Note) : Type 0 where
  pub type_index : note.type_index < 2 ^ 64
  pub attribute : note.attribute < 2 ^ 64
  pub few : length note.numbers.items ≤ 4
  pub numbers : AllByRecursion (λ n. n < 2 ^ 64) note.numbers.items

-- the bytes of a note after its letter
abbrev note_text : ℕ → Note → List ℕ
note_text i n = w.number shortest i ++ (w.number shortest n.type_index ++ (w.number shortest n.attribute ++ w.numbers shortest n.numbers.items))

-- a note whose attribute passes the test of its layout
note-spells : (fits : ℕ → Bool) (fault : Reason) (row : ℕ → ℕ → ℕ → ArrayVec ℕ → Record) (i : ℕ) (n : Note) (next : Option ℕ) → i < 2 ^ 32
    → IsSpelledNote n → fits n.attribute ≡ true → IsCode next
    → SpellsRecord (index ▹ λ i. any_number ▹ λ type_index. number fits here fault ▹ λ attribute. numbers 4 ▹ λ ns. whole (row i type_index attribute ns))
    (row i n.type_index n.attribute n.numbers) 2 (note_text i n) next
note-spells fits fault row i n next hi spelled known code = (
  i,
  w.number shortest i,
  w.number shortest n.type_index ++ (w.number shortest n.attribute ++ w.numbers shortest n.numbers.items),
  spells_index i hi,
  (
    n.type_index,
    w.number shortest n.type_index,
    w.number shortest n.attribute ++ w.numbers shortest n.numbers.items,
    (spells n.type_index spelled.type_index, refl),
    (
      n.attribute,
      w.number shortest n.attribute,
      w.numbers shortest n.numbers.items,
      (spells n.attribute spelled.attribute, known),
      (
        n.numbers,
        w.numbers shortest n.numbers.items,
        [],
        (
          spells_numbers 0 n.numbers.items spelled.numbers,
          spelled.few,
          λ _. stops-number next code,
        ),
        (refl, refl),
        sym (append-nil (w.numbers shortest n.numbers.items)),
      ),
      refl,
    ),
    refl,
  ),
  refl,
)

-- ATI
pub public_note-whole : (i : ℕ) (n : Note) → i < 2 ^ 32 → IsSpelledNote n
    → IsWhole (r.PublicNote i n.type_index n.attribute n.numbers) (w.note shortest 0xC9 i n)
public_note-whole i n hi spelled =
    noted-whole 0xC9 (r.PublicNote i n.type_index n.attribute n.numbers) (note_text i n)
    (λ next code. note-spells (λ _. true) BadNumber r.PublicNote i n next hi spelled refl code)

-- ATX
pub reference_note-whole : (i : ℕ) (n : Note) → i < 2 ^ 32 → IsSpelledNote n
    → IsWhole (r.ReferenceNote i n.type_index n.attribute n.numbers) (w.note shortest 0xD8 i n)
reference_note-whole i n hi spelled =
    noted-whole 0xD8 (r.ReferenceNote i n.type_index n.attribute n.numbers) (note_text i n)
    (λ next code. note-spells (λ _. true) BadNumber r.ReferenceNote i n next hi spelled refl code)

-- ATN
pub debug_note-whole : (i : ℕ) (n : Note) → i < 2 ^ 32 → IsSpelledNote n → is_one_of debug_attributes n.attribute ≡ true
    → IsWhole (r.DebugNote i n.type_index n.attribute n.numbers) (w.note shortest 0xCE i n)
debug_note-whole i n hi spelled known =
    noted-whole 0xCE (r.DebugNote i n.type_index n.attribute n.numbers) (note_text i n)
    (λ next code. note-spells (is_one_of debug_attributes) UnsupportedAttribute r.DebugNote i n next hi spelled known code)

-- the default of a weak reference, as a record has it
abbrev pub default_for : ℕ → Option ℕ
default_for default = if default == 0 then None else Some default

default-spells : (zero_ : Bool) (i n default at : ℕ) (next : Option ℕ) → default < 2 ^ 64 → IsCode next
    → SpellsRecord (optional_number ▹ λ default. whole (r.WeakReference i n default)) (r.WeakReference i n (cond zero_ None (Some default))) at
    (cond zero_ [] (w.number shortest default)) next
default-spells true i n default at next fits code = (None, [], [], (refl, stops-number next code), (refl, refl), refl)
default-spells false i n default at next fits code = (
  Some default,
  w.number shortest default,
  [],
  spells default fits,
  (refl, refl),
  sym (append-nil (w.number shortest default)),
)

-- WX
pub weak-whole : (i n default : ℕ) → i < 2 ^ 32 → n < 2 ^ 64 → default < 2 ^ 64
    → IsWhole (r.WeakReference i n (default_for default)) (0xF4 ∷ (w.number shortest i ++ (w.number shortest n ++ w.default_number shortest default)))
weak-whole i n default hi hn hd next code = (
  0xF4,
  0xF4 ∷ [],
  w.number shortest i ++ (w.number shortest n ++ w.default_number shortest default),
  refl,
  (
    i,
    w.number shortest i,
    w.number shortest n ++ w.default_number shortest default,
    spells_index i hi,
    (
      n,
      w.number shortest n,
      w.default_number shortest default,
      (spells n hn, refl),
      default-spells (default == 0) i n default (1 + length (w.number shortest i) + length (w.number shortest n)) next hd code,
      refl,
    ),
    refl,
  ),
  refl,
)
