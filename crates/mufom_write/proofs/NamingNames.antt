-- The records of the external part of a written form declare each index once, and name none that is not declared.
use Rattle.std.proofs.Common.{◌≡◌, ℕ, zero, suc, ◌+◌, ◌<◌, ◌≤◌, ◌==◌, Bool, true, false, ◌||◌, ◌&&◌, not, List, [], ◌∷◌, ◌++◌, length, map, Option}
use Rattle.std.proofs.Common.{Some, None, refl, ap, ◌∙◌, inl, inr, arith}
use Rattle.std.specs.Prelude.{filter_map}
use Rattle.std.specs.List.{AllByRecursion, cons_option, list_any, list_all}
use Rattle.std.proofs.lemmas.List.{append-nil}
use Rattle.std.proofs.lemmas.List.Elements.{filter_map-append}
use Rattle.std.proofs.lemmas.List.Folds.{list_any-append, list_all-append}
use Rattle.std.proofs.lemmas.Bool.{eq-eqb, or_parts, cases_lt}
use Rattle.mufom_sections.specs.declared.section.Section.{Section}
use Rattle.mufom_names.specs.declared.name.Note.{Note}
use Rattle.mufom_names.specs.declared.name.Weak.{Weak}
use Rattle.mufom_names.specs.declared.name.Public.{Public}
use Rattle.mufom_names.specs.declared.name.Reference.{Reference}
use Rattle.mufom_module.specs.declared.module.Parts.{Parts}
use Rattle.mufom_module.specs.SpelledRecords.{SpelledRecord, Kind, FileIndex, section, public, reference, debug_name, declared, declared_by, of_kind}
use Rattle.mufom_module.specs.SpelledRecords.{is_declared, named_at_once, named_in_expression, Once, value_of_public, weakness, start_address}
use Rattle.mufom_module.specs.SpelledRecords.{is_same_statement, assigned_by, is_assigned}
use Rattle.mufom_module.specs.RecordParts.{is_loading, is_set_section}
use Rattle.mufom_module.specs.Grammar.{Follows, FollowFrom}
use Rattle.mufom_module.specs.Written.{shortest}
use Rattle.mufom_module.specs.Written as w
use Rattle.mufom_module.specs.Defects.{counts_of, names_outside}
use Rattle.mufom_write.proofs.Rows.{value_at}
use Rattle.mufom_write.proofs.Indexed.{counting}
use Rattle.mufom_write.proofs.Laying.{records_from}
use Rattle.mufom_write.proofs.SectionRecords.{section_records}
use Rattle.mufom_write.proofs.NameRecords.{public_name_record, public_note_record, public_value_record, public_note_records, public_records}
use Rattle.mufom_write.proofs.NameRecords.{reference_name_record, reference_note_record, weak_record, reference_note_records, weak_records}
use Rattle.mufom_write.proofs.NameRecords.{reference_records, external_records, IsFittingPublic}
use Rattle.mufom_write.proofs.StatedSections.{settings-nothing, declared-sections}
use Rattle.mufom_write.proofs.StatedNames.{public_notes-nothing, reference_notes-nothing, public-nothing, reference-nothing, declared-publics}
use Rattle.mufom_write.proofs.StatedNames.{declared-references}
use Rattle.mufom_write.proofs.Texts.{text-last}
use Rattle.mufom_write.proofs.Naming.{follow-append, missing, unstated-append, declared-append, index-follows, declared-more, not_same, or_true}
use Rattle.mufom_write.proofs.Naming.{section-unstated, counting-more}
use Rattle.mufom_write.proofs.Known.{DeclareEntries, IsPlain, plain-follows, expression-known}

-- ---- entries one after another

-- what the records of each entry answer nothing to
pub entries-nothing : {X Y : Type 0} (lay : ℕ → X → List SpelledRecord) (ask : SpelledRecord → Option Y)
    → ((n : ℕ) (x : X) → filter_map ask (lay n x) ≡ []) → (n : ℕ) (xs : List X) → filter_map ask (records_from n lay xs) ≡ []
entries-nothing lay ask none n [] = refl
entries-nothing lay ask none n (x ∷ xs) =
    let first = none n x in
    let rest = entries-nothing lay ask none (n + 1) xs in
    filter_map-append ask (lay n x) (records_from (n + 1) lay xs) ∙ (λ i. first i ++ rest i)

-- what the records of no entry state
pub entries-unstated : {X : Type 0} (lay : ℕ → X → List SpelledRecord) (once : Once) → ((n : ℕ) (x : X) → is_assigned (lay n x) once ≡ false)
    → (n : ℕ) (xs : List X) → is_assigned (records_from n lay xs) once ≡ false
entries-unstated lay once none n [] = refl
entries-unstated lay once none n (x ∷ xs) = unstated-append (lay n x) (records_from (n + 1) lay xs) once (none n x) (entries-unstated lay once none (n + 1) xs)

-- records of which none states anything once
pub silent-unstated : (records : List SpelledRecord) (once : Once) → filter_map (λ p. assigned_by p.row) records ≡ [] → is_assigned records once ≡ false
silent-unstated records once none = ap (list_any (is_same_statement once)) none

-- ---- the section part declares no names

section-none : (kind : Kind) → ((i : ℕ) → of_kind kind (Some (section, i)) ≡ None) → (n : ℕ) (s : Section) → declared kind (section_records n s) ≡ []
section-none kind other n s =
    let none = settings-nothing (λ p. of_kind kind (declared_by p.row)) (n + 1) s refl refl (λ b. refl) in
    λ i. cons_option (other (n + 1) i) (none i)

pub sections-declare_none : (kind : Kind) → ((i : ℕ) → of_kind kind (Some (section, i)) ≡ None) → (n : ℕ) (sections : List Section)
    → declared kind (records_from n section_records sections) ≡ []
sections-declare_none kind other n sections = entries-nothing section_records (λ p. of_kind kind (declared_by p.row)) (section-none kind other) n sections

-- ---- notes

-- a record that names this index alone, and neither declares one nor states anything once nor loads
record IsNoteOf (index : FileIndex) (p : SpelledRecord) : Type 0 where
  names : named_at_once p ≡ index ∷ []
  plain : IsPlain p
  loads : is_loading p.row ≡ false

note-follows : (before : List SpelledRecord) (index : FileIndex) (p : SpelledRecord) → IsNoteOf index p → is_declared before index ≡ true → Follows before p
note-follows before index p its known =
    plain-follows before p its.plain (ap (list_all (is_declared before)) its.names
    ∙ ap (λ (b : Bool). b && true) known) (ap (λ (b : Bool). b && not (list_any (λ q. is_set_section q.row) before)) its.loads)

notes-follow : (before : List SpelledRecord) (index : FileIndex) (write : Note → SpelledRecord) → ((note : Note) → IsNoteOf index (write note))
    → (k : ℕ) (notes : List Note) → is_declared before index ≡ true
    → FollowFrom before (records_from k (λ _ note. write note ∷ []) notes)
notes-follow before index write are k [] known = tt
notes-follow before index write are k (note ∷ notes) known = (
  note-follows before index (write note) (are note) known,
  notes-follow (before
      ++ write note ∷ []) index write are (k + 1) notes (declared-more before (write note ∷ []) index known),
)

-- an index that the last record declares
declared-last : (before : List SpelledRecord) (kind : Kind) (i : ℕ) (p : SpelledRecord) → declared kind (p ∷ []) ≡ i ∷ []
    → is_declared (before ++ p ∷ []) (kind, i) ≡ true
declared-last before kind i p own =
    ap (list_any (λ j. j == i)) (declared-append kind before (p ∷ []) ∙ ap (λ (l : List ℕ). declared kind before ++ l) own)
    ∙ list_any-append (λ j. j == i) (declared kind before) (i ∷ [])
    ∙ ap (λ (b : Bool). list_any (λ j. j == i) (declared kind before) || (b || false)) (eq-eqb i i refl)
    ∙ or_true (list_any (λ j. j == i) (declared kind before))

-- ---- publics

-- what precedes the records of the public at position n
record BeforePublic (before : List SpelledRecord) (n : ℕ) : Type 0 where
  indexes : declared public before ≡ counting 32 n
  values : (i : ℕ) → n + 32 ≤ i → is_assigned before (value_of_public i) ≡ false

public-states : (n : ℕ) (p : Public) → filter_map (λ q. assigned_by q.row) (public_records n p) ≡ value_of_public (n + 32) ∷ []
public-states n p =
    let i = n + 32 in
    let none = public_notes-nothing (λ q. assigned_by q.row) 0 i p.notes (λ note. refl) in
    filter_map-append (λ q. assigned_by q.row) (public_note_records i p.notes) (public_value_record i p ∷ []) ∙ (λ j. none j ++ value_of_public i ∷ [])

public-unstated : (n : ℕ) (p : Public) (i : ℕ) → (i ≡ n + 32 → ⊥) → is_assigned (public_records n p) (value_of_public i) ≡ false
public-unstated n p i differ = ap (list_any (is_same_statement (value_of_public i))) (public-states n p) ∙ not_same i (n + 32) differ

public-declares : (n : ℕ) (p : Public) → declared public (public_records n p) ≡ (n + 32) ∷ []
public-declares n p = let none = public-nothing (λ q. of_kind public (declared_by q.row)) (n + 32) p (λ note. refl) refl in λ k. (n + 32) ∷ none k

public-follows : (before : List SpelledRecord) (n : ℕ) (p : Public) → BeforePublic before n → FollowFrom before (public_records n p)
public-follows before n p state =
    let i = n + 32 in
    let name = public_name_record i p.name ∷ [] in
    let notes = public_note_records i p.notes in
    let known = declared-last before public i (public_name_record i p.name) refl in
    let unstated = unstated-append before name (value_of_public i) (state.values i (omega arith)) refl in
    let silent = silent-unstated notes (value_of_public i) (public_notes-nothing (λ q. assigned_by q.row) 0 i p.notes (λ note. refl)) in (
      record { new = ap (list_any (λ j. j == i)) state.indexes ∙ missing i 32 n (omega arith); known = refl; once = refl; placed = refl },
      follow-append (before ++ name) notes (public_value_record i p ∷ [])
          (notes-follow (before ++ name) (public, i) (public_note_record i)
          (λ note. record { names = refl; plain = record { declares = refl; states = refl }; loads = refl }) 0 p.notes known) (
            index-follows ((before ++ name) ++ notes) (public, i) (public_value_record i p) refl refl refl
                (declared-more (before ++ name) notes (public, i) known)
                (unstated-append (before ++ name) notes (value_of_public i) unstated silent),
            tt,
          ),
    )

pub next-index : (first n : ℕ) → counting first n ++ (n + first) ∷ [] ≡ counting first (n + 1)
next-index first n =
    let sum : n + first ≡ first + n = omega arith in
    let next : suc n ≡ n + 1 = omega arith in
    ap (λ (x : ℕ). counting first n ++ x ∷ []) sum ∙ counting-more first n ∙ ap (counting first) next

next-public : (before : List SpelledRecord) (n : ℕ) (p : Public) → BeforePublic before n → BeforePublic (before ++ public_records n p) (n + 1)
next-public before n p state = record {
  indexes = declared-append public before (public_records n p) ∙ (λ k. state.indexes k ++ public-declares n p k) ∙ next-index 32 n;
  values = λ i high. unstated-append before (public_records n p) (value_of_public i) (state.values i (omega (arith, high)))
      (public-unstated n p i (λ same. omega (arith, same, high)));
}

publics-follow : (before : List SpelledRecord) (n : ℕ) (publics : List Public) → BeforePublic before n
    → FollowFrom before (records_from n public_records publics)
publics-follow before n [] state = tt
publics-follow before n (p ∷ publics) state =
    follow-append before (public_records n p) (records_from (n + 1) public_records publics) (public-follows before n p state)
    (publics-follow (before ++ public_records n p) (n + 1) publics (next-public before n p state))

-- ---- references

-- what precedes the records of the reference at position n
record BeforeReference (before : List SpelledRecord) (n : ℕ) : Type 0 where
  indexes : declared reference before ≡ counting 11 n
  weak : (i : ℕ) → n + 11 ≤ i → is_assigned before (weakness i) ≡ false

weak-unstated : (i : ℕ) (weak : Option Weak) (once : Once) → ((x : Weak) → is_assigned (weak_record i x ∷ []) once ≡ false)
    → is_assigned (weak_records i weak) once ≡ false
weak-unstated i None once none = refl
weak-unstated i (Some x) once none = none x

pub reference-unstated : (n : ℕ) (r : Reference) (once : Once) → ((x : Weak) → is_assigned (weak_record (n + 11) x ∷ []) once ≡ false)
    → is_assigned (reference_records n r) once ≡ false
reference-unstated n r once none =
    let i = n + 11 in
    let silent = silent-unstated (reference_note_records i r.notes) once (reference_notes-nothing (λ q. assigned_by q.row) 0 i r.notes (λ note. refl)) in
    unstated-append (reference_note_records i r.notes) (weak_records i r.weak) once silent (weak-unstated i r.weak once none)

reference-declares : (n : ℕ) (r : Reference) → declared reference (reference_records n r) ≡ (n + 11) ∷ []
reference-declares n r = let none = reference-nothing (λ q. of_kind reference (declared_by q.row)) (n + 11) r (λ note. refl) (λ x. refl) in
    λ k. (n + 11) ∷ none k

weak-follows : (before : List SpelledRecord) (i : ℕ) (weak : Option Weak) → is_declared before (reference, i) ≡ true → is_assigned before (weakness i)
    ≡ false → FollowFrom before (weak_records i weak)
weak-follows before i None known unstated = tt
weak-follows before i (Some weak) known unstated = (index-follows before (reference, i) (weak_record i weak) refl refl refl known unstated, tt)

reference-follows : (before : List SpelledRecord) (n : ℕ) (r : Reference) → BeforeReference before n → FollowFrom before (reference_records n r)
reference-follows before n r state =
    let i = n + 11 in
    let name = reference_name_record i r.name ∷ [] in
    let notes = reference_note_records i r.notes in
    let known = declared-last before reference i (reference_name_record i r.name) refl in
    let unstated = unstated-append before name (weakness i) (state.weak i (omega arith)) refl in
    let silent = silent-unstated notes (weakness i) (reference_notes-nothing (λ q. assigned_by q.row) 0 i r.notes (λ note. refl)) in (
      record { new = ap (list_any (λ j. j == i)) state.indexes ∙ missing i 11 n (omega arith); known = refl; once = refl; placed = refl },
      follow-append (before ++ name) notes (weak_records i r.weak)
          (notes-follow (before ++ name) (reference, i) (reference_note_record i)
          (λ note. record { names = refl; plain = record { declares = refl; states = refl }; loads = refl }) 0 r.notes known)
          (weak-follows ((before ++ name) ++ notes) i r.weak (declared-more (before ++ name) notes (reference, i) known)
          (unstated-append (before ++ name) notes (weakness i) unstated silent)),
    )

next-reference : (before : List SpelledRecord) (n : ℕ) (r : Reference) → BeforeReference before n → BeforeReference (before ++ reference_records n r) (n + 1)
next-reference before n r state = record {
  indexes = declared-append reference before (reference_records n r) ∙ (λ k. state.indexes k ++ reference-declares n r k) ∙ next-index 11 n;
  weak = λ i high. unstated-append before (reference_records n r) (weakness i) (state.weak i (omega (arith, high)))
      (reference-unstated n r (weakness i) (λ x. not_same i (n + 11) (λ same. omega (arith, same, high))));
}

references-follow : (before : List SpelledRecord) (n : ℕ) (references : List Reference) → BeforeReference before n
    → FollowFrom before (records_from n reference_records references)
references-follow before n [] state = tt
references-follow before n (r ∷ references) state =
    follow-append before (reference_records n r) (records_from (n + 1) reference_records references) (reference-follows before n r state)
    (references-follow (before ++ reference_records n r) (n + 1) references (next-reference before n r state))

-- ---- the part

sections-unstated : (once : Once) (sections : List Section) → ((n : ℕ) (s : Section) → is_assigned (section_records n s) once ≡ false)
    → is_assigned (records_from 0 section_records sections) once ≡ false
sections-unstated once sections none = entries-unstated section_records once none 0 sections

public-silent : (n : ℕ) (p : Public) (once : Once) → is_same_statement once (value_of_public (n + 32)) ≡ false → is_assigned (public_records n p) once ≡ false
public-silent n p once other = ap (list_any (is_same_statement once)) (public-states n p) ∙ ap (λ (b : Bool). b || false) other

-- each record of the external part keeps to what is before it
pub external_part-follows : (sections : List Section) (publics : List Public) (references : List Reference)
    → FollowFrom (records_from 0 section_records sections) (external_records publics references)
external_part-follows sections publics references =
    let before = records_from 0 section_records sections in
    let own = records_from 0 public_records publics in
    follow-append before own (records_from 0 reference_records references)
    (publics-follow before 0 publics (record {
      indexes = sections-declare_none public (λ i. refl) 0 sections;
      values = λ i h. sections-unstated (value_of_public i) sections (λ n s. section-unstated n s (value_of_public i) refl refl (λ b. refl));
    }))
    (references-follow (before ++ own) 0 references (record {
      indexes = declared-append reference before own
          ∙ (λ k. sections-declare_none reference (λ i. refl) 0 sections k
          ++ entries-nothing public_records (λ q. of_kind reference (declared_by q.row))
          (λ n p. public-nothing (λ q. of_kind reference (declared_by q.row)) (n + 32) p (λ note. refl) refl) 0 publics k);
      weak = λ i h. unstated-append before own (weakness i) (sections-unstated (weakness i) sections
          (λ n s. section-unstated n s (weakness i) refl refl (λ b. refl)))
          (entries-unstated public_records (weakness i) (λ n p. public-silent n p (weakness i) refl) 0 publics);
    }))

-- ---- the indexes after the part

externals-declare_none : (kind : Kind) → ((i : ℕ) → of_kind kind (Some (public, i)) ≡ None) → ((i : ℕ) → of_kind kind (Some (reference, i)) ≡ None)
    → (publics : List Public) (references : List Reference)
    → declared kind (external_records publics references) ≡ []
externals-declare_none kind no_public no_reference publics references =
    let ask : SpelledRecord → Option ℕ = λ q. of_kind kind (declared_by q.row) in
    let first = entries-nothing public_records ask (λ n p. let none = public-nothing ask (n + 32) p (λ note. refl) refl in
    λ k. cons_option (no_public (n + 32) k) (none k)) 0 publics in
    let second = entries-nothing reference_records ask (λ n r. let none = reference-nothing ask (n + 11) r (λ note. refl) (λ x. refl) in
    λ k. cons_option (no_reference (n + 11) k) (none k)) 0 references in
    filter_map-append ask (records_from 0 public_records publics) (records_from 0 reference_records references) ∙ (λ k. first k ++ second k)

-- the records of both parts declare the entries of the module, and no debug name
pub prefix-declares : (m : Parts) → DeclareEntries m (records_from 0 section_records m.sections ++ external_records m.names.publics m.names.references)
prefix-declares m =
    let before = records_from 0 section_records m.sections in
    let own = external_records m.names.publics m.names.references in
    record {
      sections = declared-append section before own ∙ (λ k. declared-sections 0 m.sections k
          ++ externals-declare_none section (λ i. refl) (λ i. refl) m.names.publics m.names.references k) ∙ append-nil (counting 1 (length m.sections));
      publics = declared-append public before own ∙ (λ k. sections-declare_none public (λ i. refl) 0 m.sections k
          ++ declared-publics m.names.publics m.names.references k);
      references = declared-append reference before own ∙ (λ k. sections-declare_none reference (λ i. refl) 0 m.sections k
          ++ declared-references m.names.publics m.names.references k);
    }

pub prefix-no_debug_names : (m : Parts) → declared debug_name (records_from 0 section_records m.sections
    ++ external_records m.names.publics m.names.references) ≡ []
prefix-no_debug_names m =
    declared-append debug_name (records_from 0 section_records m.sections) (external_records m.names.publics m.names.references)
    ∙ (λ k. sections-declare_none debug_name (λ i. refl) 0 m.sections k
    ++ externals-declare_none debug_name (λ i. refl) (λ i. refl) m.names.publics m.names.references k)

pub prefix-no_start : (m : Parts) → is_assigned (records_from 0 section_records m.sections
    ++ external_records m.names.publics m.names.references) start_address ≡ false
prefix-no_start m =
    let publics = records_from 0 public_records m.names.publics in
    let references = records_from 0 reference_records m.names.references in
    unstated-append (records_from 0 section_records m.sections) (publics ++ references) start_address
    (sections-unstated start_address m.sections (λ n s. section-unstated n s start_address refl refl (λ b. refl)))
    (unstated-append publics references start_address (entries-unstated public_records start_address (λ n p. public-silent n p start_address refl) 0
    m.names.publics)
    (entries-unstated reference_records start_address (λ n r. reference-unstated n r start_address (λ x. refl)) 0 m.names.references))

-- ---- values

-- a record names no index in an expression that is not declared in the records
abbrev NamesKnown : List SpelledRecord → SpelledRecord → Bool
NamesKnown known p = list_all (is_declared known) (named_in_expression p)

notes-known : (known : List SpelledRecord) (write : Note → SpelledRecord) → ((note : Note) → NamesKnown known (write note) ≡ true)
    → (k : ℕ) (notes : List Note) → list_all (NamesKnown known) (records_from k (λ _ note. write note ∷ []) notes) ≡ true
notes-known known write are k [] = refl
notes-known known write are k (note ∷ notes) =
    let first = are note in
    let rest = notes-known known write are (k + 1) notes in
    λ i. first i && rest i

module _ (m : Parts) (known : List SpelledRecord) (its : DeclareEntries m known) where
  public-known : (n : ℕ) (p : Public) → IsFittingPublic p → names_outside (counts_of m) p.value ≡ false
      → list_all (NamesKnown known) (public_records n p) ≡ true
  public-known n p fits inside =
      let i = n + 32 in
      let a = w.number shortest i in
      let e = w.expression shortest p.value in
      let notes = notes-known known (public_note_record i) (λ note. refl) 0 p.notes in
      let value = expression-known m known its (public_value_record i p) (value_at i e) p.value refl
      (text-last (0xE2 ∷ 0xC9 ∷ (a ++ e)) (0xE2 ∷ 0xC9 ∷ a) e (2 + length a) refl (omega arith)) fits.value inside in
      list_all-append (NamesKnown known) (public_note_records i p.notes) (public_value_record i p ∷ []) ∙ (λ k. notes k && (value k && true))

  publics-known : (n : ℕ) (publics : List Public) → AllByRecursion IsFittingPublic publics
      → list_any (λ p. names_outside (counts_of m) p.value) publics ≡ false → list_all (NamesKnown known) (records_from n public_records publics) ≡ true
  publics-known n [] fit inside = refl
  publics-known n (p ∷ publics) fit inside =
      let insides = or_parts (names_outside (counts_of m) p.value) (list_any (λ p. names_outside (counts_of m) p.value) publics) inside in
      let first = public-known n p fit.0 insides.0 in
      let rest = publics-known (n + 1) publics fit.1 insides.1 in
      list_all-append (NamesKnown known) (public_records n p) (records_from (n + 1) public_records publics) ∙ (λ k. first k && rest k)

weak-known : (known : List SpelledRecord) (i : ℕ) (weak : Option Weak) → list_all (NamesKnown known) (weak_records i weak) ≡ true
weak-known known i None = refl
weak-known known i (Some weak) = refl

references-known : (known : List SpelledRecord) (n : ℕ) (references : List Reference)
    → list_all (NamesKnown known) (records_from n reference_records references) ≡ true
references-known known n [] = refl
references-known known n (r ∷ references) =
    let i = n + 11 in
    let notes = notes-known known (reference_note_record i) (λ note. refl) 0 r.notes in
    let weak = weak-known known i r.weak in
    let first = list_all-append (NamesKnown known) (reference_note_records i r.notes) (weak_records i r.weak) ∙ (λ k. notes k && weak k) in
    let rest = references-known known (n + 1) references in
    list_all-append (NamesKnown known) (reference_records n r) (records_from (n + 1) reference_records references) ∙ (λ k. first k && rest k)

-- the variables of the values of publics are declared in both parts
pub values-known : (m : Parts) → AllByRecursion IsFittingPublic m.names.publics → list_any (λ p. names_outside (counts_of m) p.value) m.names.publics ≡ false
    → let known = records_from 0 section_records m.sections ++ external_records m.names.publics m.names.references in
    list_all (λ p. list_all (is_declared known) (named_in_expression p)) (external_records m.names.publics m.names.references) ≡ true
values-known m fit inside =
    let known = records_from 0 section_records m.sections ++ external_records m.names.publics m.names.references in
    let first = publics-known m known (prefix-declares m) 0 m.names.publics fit inside in
    let second = references-known known 0 m.names.references in
    list_all-append (NamesKnown known) (records_from 0 public_records m.names.publics) (records_from 0 reference_records m.names.references)
    ∙ (λ k. first k && second k)

-- ---- each public has a value

publics-say : (n : ℕ) (publics : List Public) → filter_map (λ q. assigned_by q.row) (records_from n public_records publics)
    ≡ map value_of_public (counting (n + 32) (length publics))
publics-say n [] = refl
publics-say n (p ∷ publics) =
    let next : n + 1 + 32 ≡ n + 32 + 1 = omega arith in
    let first = public-states n p in
    let rest = publics-say (n + 1) publics ∙ ap (λ (i : ℕ). map value_of_public (counting i (length publics))) next in
    filter_map-append (λ q. assigned_by q.row) (public_records n p) (records_from (n + 1) public_records publics) ∙ (λ k. first k ++ rest k)

stated-within : (i first n : ℕ) → first ≤ i → i < first + n → list_any (is_same_statement (value_of_public i)) (map value_of_public (counting first n)) ≡ true
stated-within i first zero above below = absurd (omega (arith, above, below))
stated-within i first (suc n) above below = elim (cases_lt first i) [
  | inl less ↦
      let later = stated-within i (first + 1) n (omega (arith, less)) (omega (arith, below)) in
      ap (λ (b : Bool). (i == first) || b) later ∙ or_true (i == first)
  | inr least ↦
      let same : i ≡ first = omega (arith, above, least) in
      ap (λ (b : Bool). b || list_any (is_same_statement (value_of_public i)) (map value_of_public (counting (first + 1) n))) (eq-eqb i first same)
]

all-counted : (test : ℕ → Bool) (first n : ℕ) → ((i : ℕ) → first ≤ i → i < first + n → test i ≡ true) → list_all test (counting first n) ≡ true
all-counted test first zero each = refl
all-counted test first (suc n) each =
    let own = each first (omega arith) (omega arith) in
    let rest = all-counted test (first + 1) n (λ i above below. each i (omega (arith, above)) (omega (arith, below))) in
    λ k. own k && rest k

value-stated : (publics : List Public) (references : List Reference) (i : ℕ) → 32 ≤ i → i < 32 + length publics
    → is_assigned (external_records publics references) (value_of_public i) ≡ true
value-stated publics references i above below =
    let own = records_from 0 public_records publics in
    let rest = records_from 0 reference_records references in
    let same = is_same_statement (value_of_public i) in
    let others = list_any same (filter_map (λ q. assigned_by q.row) rest) in
    ap (list_any same) (filter_map-append (λ q. assigned_by q.row) own rest)
    ∙ list_any-append same (filter_map (λ q. assigned_by q.row) own) (filter_map (λ q. assigned_by q.row) rest)
    ∙ ap (λ (l : List Once). list_any same l || others) (publics-say 0 publics)
    ∙ ap (λ (b : Bool). b || others) (stated-within i 32 (length publics) above below)

pub values-stated : (publics : List Public) (references : List Reference)
    → list_all (λ i. is_assigned (external_records publics references) (value_of_public i)) (declared public (external_records publics references)) ≡ true
values-stated publics references =
    ap (list_all (λ i. is_assigned (external_records publics references) (value_of_public i))) (declared-publics publics references)
    ∙ all-counted (λ i. is_assigned (external_records publics references) (value_of_public i)) 32 (length publics) (value-stated publics references)
