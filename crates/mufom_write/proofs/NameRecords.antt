-- The external part of a written form as records.
use Rattle.std.proofs.Common.{◌≡◌, ℕ, ◌+◌, ◌^◌, ◌<◌, ◌≤◌, false, List, [], ◌∷◌, ◌++◌, length, Option, Some, None, refl, ap, ◌∙◌, arith}
use Rattle.std.specs.Prelude.{IfSome}
use Rattle.std.specs.List.{AllByRecursion}
use Rattle.std.proofs.lemmas.List.{append-nil}
use Rattle.mufom_numbers.specs.Spelling.{AreBytes}
use Rattle.mufom_records.specs.declared.record.Record.TheVariants as r
use Rattle.mufom_names.specs.declared.name.Note.{Note}
use Rattle.mufom_names.specs.declared.name.Weak.{Weak}
use Rattle.mufom_names.specs.declared.name.Public.{Public}
use Rattle.mufom_names.specs.declared.name.Reference.{Reference}
use Rattle.mufom_module.specs.SpelledRecords.{SpelledRecord, bytes_of}
use Rattle.mufom_module.specs.RecordParts.{external_part}
use Rattle.mufom_module.specs.Written.{shortest, public_index, reference_index}
use Rattle.mufom_module.specs.Written as w
use Rattle.mufom_module.specs.Defects.{is_long}
use Rattle.mufom_write.proofs.Rows.{IsSpelledNote, name_at, value_at, default_for, public_name-whole, public_note-whole, public_value-whole}
use Rattle.mufom_write.proofs.Rows.{reference_name-whole, reference_note-whole, weak-whole}
use Rattle.mufom_write.proofs.Indexed.{IsFittingTree, indexed, expression-spells}
use Rattle.mufom_write.proofs.Laying.{spelled, records_from, IsRecord, bytes_of-append, bytes_of-records_from, all-append}

-- ---- the records of a public with an index

abbrev pub public_name_record : ℕ → List ℕ → SpelledRecord
public_name_record i name = spelled (r.PublicName i (name_at i name)) (0xE8 ∷ (w.number shortest i ++ w.string shortest name))

abbrev pub public_note_record : ℕ → Note → SpelledRecord
public_note_record i note = spelled (r.PublicNote i note.type_index note.attribute note.numbers) (w.note shortest 0xC9 i note)

abbrev pub public_value_record : ℕ → Public → SpelledRecord
public_value_record i p = spelled (r.PublicValue i (value_at i (w.expression shortest p.value)))
    (0xE2 ∷ 0xC9 ∷ (w.number shortest i ++ w.expression shortest p.value))

abbrev pub public_note_records : ℕ → List Note → List SpelledRecord
public_note_records i notes = records_from 0 (λ _ note. public_note_record i note ∷ []) notes

abbrev pub public_records : ℕ → Public → List SpelledRecord
public_records position p =
    public_name_record (public_index position) p.name ∷ (public_note_records (public_index position) p.notes
    ++ public_value_record (public_index position) p ∷ [])

-- ---- the records of a reference with an index

abbrev pub reference_name_record : ℕ → List ℕ → SpelledRecord
reference_name_record i name = spelled (r.ReferenceName i (name_at i name)) (0xE9 ∷ (w.number shortest i ++ w.string shortest name))

abbrev pub reference_note_record : ℕ → Note → SpelledRecord
reference_note_record i note = spelled (r.ReferenceNote i note.type_index note.attribute note.numbers) (w.note shortest 0xD8 i note)

abbrev pub weak_record : ℕ → Weak → SpelledRecord
weak_record i weak = spelled (r.WeakReference i weak.size (default_for weak.default))
    (0xF4 ∷ (w.number shortest i ++ (w.number shortest weak.size ++ w.default_number shortest weak.default)))

abbrev pub reference_note_records : ℕ → List Note → List SpelledRecord
reference_note_records i notes = records_from 0 (λ _ note. reference_note_record i note ∷ []) notes

abbrev pub weak_records : ℕ → Option Weak → List SpelledRecord
weak_records i None = []
weak_records i (Some weak) = weak_record i weak ∷ []

abbrev pub reference_records : ℕ → Reference → List SpelledRecord
reference_records position r =
    reference_name_record (reference_index position) r.name ∷ (reference_note_records (reference_index position) r.notes
    ++ weak_records (reference_index position) r.weak)

-- ---- their bytes

one-spelled : (p : SpelledRecord) → bytes_of (p ∷ []) ≡ p.bytes
one-spelled p = append-nil p.bytes

public-bytes : (position : ℕ) (p : Public) → bytes_of (public_records position p) ≡ w.public shortest position p
public-bytes position p =
    let i = public_index position in
    let notes = bytes_of-records_from (λ _ note. public_note_record i note ∷ []) (λ _. w.note shortest 0xC9 i)
    (λ _ note. one-spelled (public_note_record i note)) 0 p.notes in
    let value = one-spelled (public_value_record i p) in
    ap (λ (l : List ℕ). (0xE8 ∷ (w.number shortest i ++ w.string shortest p.name)) ++ l)
    (bytes_of-append (public_note_records i p.notes) (public_value_record i p ∷ []) ∙ (λ k. notes k ++ value k))

weak-bytes : (i : ℕ) (weak : Option Weak) → bytes_of (weak_records i weak) ≡ w.weak shortest i weak
weak-bytes i None = refl
weak-bytes i (Some weak) = one-spelled (weak_record i weak)

reference-bytes : (position : ℕ) (r : Reference) → bytes_of (reference_records position r) ≡ w.reference shortest position r
reference-bytes position r =
    let i = reference_index position in
    let notes = bytes_of-records_from (λ _ note. reference_note_record i note ∷ []) (λ _. w.note shortest 0xD8 i)
    (λ _ note. one-spelled (reference_note_record i note)) 0 r.notes in
    let weak = weak-bytes i r.weak in
    ap (λ (l : List ℕ). (0xE9 ∷ (w.number shortest i ++ w.string shortest r.name)) ++ l)
    (bytes_of-append (reference_note_records i r.notes) (weak_records i r.weak) ∙ (λ k. notes k ++ weak k))

abbrev pub external_records : List Public → List Reference → List SpelledRecord
external_records publics references = records_from 0 public_records publics ++ records_from 0 reference_records references

pub externals-bytes : (publics : List Public) (references : List Reference)
    → bytes_of (external_records publics references) ≡ w.each (w.public shortest) publics ++ w.each (w.reference shortest) references
externals-bytes publics references =
    let first = bytes_of-records_from public_records (w.public shortest) public-bytes 0 publics in
    let second = bytes_of-records_from reference_records (w.reference shortest) reference-bytes 0 references in
    bytes_of-append (records_from 0 public_records publics) (records_from 0 reference_records references) ∙ (λ k. first k ++ second k)

-- ---- each is whole

pub record IsFittingPublic (p : Public) : Type 0 where
  pub short : is_long p.name ≡ false
  pub name : AreBytes p.name
  pub value : IsFittingTree p.value
  pub notes : AllByRecursion IsSpelledNote p.notes

pub record IsFittingReference (r : Reference) : Type 0 where
  pub short : is_long r.name ≡ false
  pub name : AreBytes r.name
  pub weak : IfSome r.weak (λ weak. (weak.size < 2 ^ 64) × (weak.default < 2 ^ 64))
  pub notes : AllByRecursion IsSpelledNote r.notes

public_notes-records : (k i : ℕ) (notes : List Note) → i < 2 ^ 32 → AllByRecursion IsSpelledNote notes
    → AllByRecursion (IsRecord external_part) (records_from k (λ _ note. public_note_record i note ∷ []) notes)
public_notes-records k i [] hi fit = tt
public_notes-records k i (note ∷ notes) hi fit =
    (record { whole = public_note-whole i note hi fit.0; code = omega arith; plain = refl; own = refl }, public_notes-records (k + 1) i notes hi fit.1)

reference_notes-records : (k i : ℕ) (notes : List Note) → i < 2 ^ 32 → AllByRecursion IsSpelledNote notes
    → AllByRecursion (IsRecord external_part) (records_from k (λ _ note. reference_note_record i note ∷ []) notes)
reference_notes-records k i [] hi fit = tt
reference_notes-records k i (note ∷ notes) hi fit =
    (record { whole = reference_note-whole i note hi fit.0; code = omega arith; plain = refl; own = refl }, reference_notes-records (k + 1) i notes hi fit.1)

public-records : (position : ℕ) (p : Public) → public_index position < 2 ^ 32 → IsFittingPublic p
    → AllByRecursion (IsRecord external_part) (public_records position p)
public-records position p hi fits =
    let i = public_index position in (
      record { whole = public_name-whole i p.name hi fits.short fits.name; code = omega arith; plain = refl; own = refl },
      all-append (IsRecord external_part) (public_note_records i p.notes) (public_value_record i p ∷ []) (public_notes-records 0 i p.notes hi fits.notes) (
        record {
          whole = public_value-whole i (indexed p.value) (w.expression shortest p.value) hi (expression-spells p.value fits.value);
          code =
              omega arith;
          plain = refl;
          own = refl;
        },
        tt,
      ),
    )

weak-records : (i : ℕ) (weak : Option Weak) → i < 2 ^ 32 → IfSome weak (λ weak. (weak.size < 2 ^ 64) × (weak.default < 2 ^ 64))
    → AllByRecursion (IsRecord external_part) (weak_records i weak)
weak-records i None hi fits = tt
weak-records i (Some weak) hi fits = (record { whole = weak-whole i weak.size weak.default hi fits.0 fits.1; code = omega arith; plain = refl; own = refl }, tt)

reference-records : (position : ℕ) (r : Reference) → reference_index position < 2 ^ 32 → IsFittingReference r
    → AllByRecursion (IsRecord external_part) (reference_records position r)
reference-records position r hi fits =
    let i = reference_index position in (
      record { whole = reference_name-whole i r.name hi fits.short fits.name; code = omega arith; plain = refl; own = refl },
      all-append (IsRecord external_part) (reference_note_records i r.notes) (weak_records i r.weak)
          (reference_notes-records 0 i r.notes hi fits.notes) (weak-records i r.weak hi fits.weak),
    )

publics-records : (n : ℕ) (publics : List Public) → n + length publics + 32 ≤ 2 ^ 32 → AllByRecursion IsFittingPublic publics
    → AllByRecursion (IsRecord external_part) (records_from n public_records publics)
publics-records n [] few fit = tt
publics-records n (p ∷ publics) few fit =
    all-append (IsRecord external_part) (public_records n p) (records_from (n + 1) public_records publics)
    (public-records n p (omega (arith, few)) fit.0) (publics-records (n + 1) publics (omega (arith, few)) fit.1)

references-records : (n : ℕ) (references : List Reference) → n + length references + 11 ≤ 2 ^ 32 → AllByRecursion IsFittingReference references
    → AllByRecursion (IsRecord external_part) (records_from n reference_records references)
references-records n [] few fit = tt
references-records n (r ∷ references) few fit =
    all-append (IsRecord external_part) (reference_records n r) (records_from (n + 1) reference_records references)
    (reference-records n r (omega (arith, few)) fit.0) (references-records (n + 1) references (omega (arith, few)) fit.1)

pub externals-records : (publics : List Public) (references : List Reference) → length publics + 32 ≤ 2 ^ 32 → length references + 11 ≤ 2 ^ 32
    → AllByRecursion IsFittingPublic publics
    → AllByRecursion IsFittingReference references → AllByRecursion (IsRecord external_part) (external_records publics references)
externals-records publics references some others publics_fit references_fit =
    all-append (IsRecord external_part) (records_from 0 public_records publics) (records_from 0 reference_records references)
    (publics-records 0 publics (omega (arith, some)) publics_fit) (references-records 0 references (omega (arith, others)) references_fit)
