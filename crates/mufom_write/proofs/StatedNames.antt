-- What the records of the external part of a written form state is what the module has.
use Rattle.std.proofs.Common.{◌≡◌, ℕ, ◌+◌, ◌<◌, ◌≤◌, ◌==◌, Bool, true, false, List, [], ◌∷◌, ◌++◌, length, Option, Some, None, unwrap_or, slice_get}
use Rattle.std.proofs.Common.{refl, sym, ap, ◌∙◌, arith, append_assoc}
use Rattle.std.specs.Prelude.{if◌then◌else◌, filter_map}
use Rattle.std.specs.List.{AllByRecursion, cons_option, list_any}
use Rattle.std.proofs.lemmas.List.{append-nil}
use Rattle.std.proofs.lemmas.List.Elements.{filter_map-append}
use Rattle.std.proofs.lemmas.Bool.{or_parts}
use Rattle.std.proofs.lemmas.Map.Views.{exact_unsigned_eq}
use Rattle.mufom_expr.specs.Tree.{Tree, number}
use Rattle.mufom_names.specs.declared.name.Note.{Note}
use Rattle.mufom_names.specs.declared.name.Weak.{Weak}
use Rattle.mufom_names.specs.declared.name.Public.{Public}
use Rattle.mufom_names.specs.declared.name.Reference.{Reference}
use Rattle.mufom_module.specs.declared.module.Parts.{Parts}
use Rattle.mufom_module.specs.SpelledRecords.{SpelledRecord, public, reference, declared, declared_by, of_kind, text_in, tree_in, positioned}
use Rattle.mufom_module.specs.Gathered.{public_note_for, reference_note_for, weak_for, value_for, public_by, publics_of, reference_by, references_of}
use Rattle.mufom_module.specs.Written.{shortest, public_index, reference_index}
use Rattle.mufom_module.specs.Written as w
use Rattle.mufom_module.specs.Defects.{counts_of, names_outside}
use Rattle.mufom_write.proofs.Rows.{name_at, value_at, default_for}
use Rattle.mufom_write.proofs.Indexed.{counting, written_indexes}
use Rattle.mufom_write.proofs.Laying.{records_from}
use Rattle.mufom_write.proofs.NameRecords.{public_name_record, public_note_record, public_value_record, public_note_records, public_records}
use Rattle.mufom_write.proofs.NameRecords.{reference_name_record, reference_note_record, weak_record, reference_note_records, weak_records}
use Rattle.mufom_write.proofs.NameRecords.{reference_records, external_records, IsFittingPublic}
use Rattle.mufom_write.proofs.StatedSections.{other-index, same-index}
use Rattle.mufom_write.proofs.Texts.{string-last, text-last, tree-back}

-- ---- what is asked of records

-- entries that an asking passes over
passed : {X Y : Type 0} (ask : SpelledRecord → Option Y) (records_of : ℕ → X → List SpelledRecord)
    → ((n : ℕ) (x : X) → filter_map ask (records_of n x) ≡ []) → (n : ℕ) (xs : List X)
    → filter_map ask (records_from n records_of xs) ≡ []
passed ask records_of none n [] = refl
passed ask records_of none n (x ∷ xs) =
    let own = none n x in
    let rest = passed ask records_of none (n + 1) xs in
    filter_map-append ask (records_of n x) (records_from (n + 1) records_of xs) ∙ (λ k. own k ++ rest k)

-- entries that answer an asking for an index below theirs with nothing
none-below : {X Y : Type 0} (ask : SpelledRecord → Option Y) (records_of : ℕ → X → List SpelledRecord) (first i : ℕ)
    → ((n : ℕ) (x : X) → (i ≡ n + first → ⊥) → filter_map ask (records_of n x) ≡ [])
    → (n : ℕ) (xs : List X) → i < n + first → filter_map ask (records_from n records_of xs) ≡ []
none-below ask records_of first i silent n [] low = refl
none-below ask records_of first i silent n (x ∷ xs) low =
    let own = silent n x (λ same. omega (arith, same, low)) in
    let rest = none-below ask records_of first i silent (n + 1) xs (omega (arith, low)) in
    filter_map-append ask (records_of n x) (records_from (n + 1) records_of xs) ∙ (λ k. own k ++ rest k)

-- notes of which each is answered
kept : (ask : SpelledRecord → Option Note) (record_of : Note → SpelledRecord) → ((note : Note) → ask (record_of note) ≡ Some note) → (k : ℕ) (notes : List Note)
    → filter_map ask (records_from k (λ _ note. record_of note ∷ []) notes) ≡ notes
kept ask record_of some k [] = refl
kept ask record_of some k (note ∷ notes) =
    let rest = kept ask record_of some (k + 1) notes in
    λ j. cons_option (some note j) (rest j)

-- notes that an asking passes over
pub public_notes-nothing : {Y : Type 0} (ask : SpelledRecord → Option Y) (k i : ℕ) (notes : List Note)
    → ((note : Note) → ask (public_note_record i note) ≡ None)
    → filter_map ask (records_from k (λ _ note. public_note_record i note ∷ []) notes) ≡ []
public_notes-nothing ask k i notes none = passed ask (λ _ note. public_note_record i note ∷ []) (λ _ note. λ j. cons_option (none note j) []) k notes

pub reference_notes-nothing : {Y : Type 0} (ask : SpelledRecord → Option Y) (k i : ℕ) (notes : List Note)
    → ((note : Note) → ask (reference_note_record i note) ≡ None)
    → filter_map ask (records_from k (λ _ note. reference_note_record i note ∷ []) notes) ≡ []
reference_notes-nothing ask k i notes none = passed ask (λ _ note. reference_note_record i note ∷ []) (λ _ note. λ j. cons_option (none note j) []) k notes

pub public-nothing : {Y : Type 0} (ask : SpelledRecord → Option Y) (i : ℕ) (p : Public) → ((note : Note) → ask (public_note_record i note) ≡ None)
    → ask (public_value_record i p) ≡ None
    → filter_map ask (public_note_records i p.notes ++ public_value_record i p ∷ []) ≡ []
public-nothing {Y = Y} ask i p notes value =
    let first = public_notes-nothing ask 0 i p.notes notes in
    filter_map-append ask (public_note_records i p.notes) (public_value_record i p ∷ []) ∙ (λ j. first j ++ cons_option (value j) [])

pub weak-nothing : {Y : Type 0} (ask : SpelledRecord → Option Y) (i : ℕ) (weak : Option Weak) → ((x : Weak) → ask (weak_record i x) ≡ None)
    → filter_map ask (weak_records i weak) ≡ []
weak-nothing ask i None none = refl
weak-nothing {Y = Y} ask i (Some weak) none = λ j. cons_option (none weak j) []

pub reference-nothing : {Y : Type 0} (ask : SpelledRecord → Option Y) (i : ℕ) (r : Reference)
    → ((note : Note) → ask (reference_note_record i note) ≡ None) → ((x : Weak) → ask (weak_record i x) ≡ None)
    → filter_map ask (reference_note_records i r.notes ++ weak_records i r.weak) ≡ []
reference-nothing ask i r notes weak =
    let first = reference_notes-nothing ask 0 i r.notes notes in
    let second = weak-nothing ask i r.weak weak in
    filter_map-append ask (reference_note_records i r.notes) (weak_records i r.weak) ∙ (λ j. first j ++ second j)

-- ---- the indexes that the external part declares

publics-declare : (n : ℕ) (publics : List Public) → declared public (records_from n public_records publics) ≡ counting (n + 32) (length publics)
publics-declare n [] = refl
publics-declare n (p ∷ publics) =
    let none = public-nothing (λ q. of_kind public (declared_by q.row)) (n + 32) p (λ note. refl) refl in
    let next : n + 1 + 32 ≡ n + 32 + 1 = omega arith in
    let rest = publics-declare (n + 1) publics ∙ ap (λ (first : ℕ). counting first (length publics)) next in
    filter_map-append (λ q. of_kind public (declared_by q.row)) (public_records n p) (records_from (n + 1) public_records publics)
    ∙ (λ k. (n + 32) ∷ (none k ++ rest k))

publics-no_references : (n : ℕ) (publics : List Public) → declared reference (records_from n public_records publics) ≡ []
publics-no_references n publics =
    let ask = λ (q : SpelledRecord). of_kind reference (declared_by q.row) in
    passed ask public_records (λ n p. public-nothing ask (n + 32) p (λ note. refl) refl) n publics

references-declare : (n : ℕ) (references : List Reference) → declared reference (records_from n reference_records references)
    ≡ counting (n + 11) (length references)
references-declare n [] = refl
references-declare n (r ∷ references) =
    let none = reference-nothing (λ q. of_kind reference (declared_by q.row)) (n + 11) r (λ note. refl) (λ x. refl) in
    let next : n + 1 + 11 ≡ n + 11 + 1 = omega arith in
    let rest = references-declare (n + 1) references ∙ ap (λ (first : ℕ). counting first (length references)) next in
    filter_map-append (λ q. of_kind reference (declared_by q.row)) (reference_records n r) (records_from (n + 1) reference_records references)
    ∙ (λ k. (n + 11) ∷ (none k ++ rest k))

references-no_publics : (n : ℕ) (references : List Reference) → declared public (records_from n reference_records references) ≡ []
references-no_publics n references =
    let ask = λ (q : SpelledRecord). of_kind public (declared_by q.row) in
    passed ask reference_records (λ n r. reference-nothing ask (n + 11) r (λ note. refl) (λ x. refl)) n references

pub declared-publics : (publics : List Public) (references : List Reference) → declared public (external_records publics references)
    ≡ counting 32 (length publics)
declared-publics publics references =
    filter_map-append (λ q. of_kind public (declared_by q.row)) (records_from 0 public_records publics) (records_from 0 reference_records references)
    ∙ (λ k. publics-declare 0 publics k ++ references-no_publics 0 references k) ∙ append-nil (counting 32 (length publics))

pub declared-references : (publics : List Public) (references : List Reference) → declared reference (external_records publics references)
    ≡ counting 11 (length references)
declared-references publics references =
    filter_map-append (λ q. of_kind reference (declared_by q.row)) (records_from 0 public_records publics) (records_from 0 reference_records references)
    ∙ (λ k. publics-no_references 0 publics k ++ references-declare 0 references k)

-- the answers of records among others that are silent
middle : {Y : Type 0} (ask : SpelledRecord → Option Y) (before own rest : List SpelledRecord) (ys : List Y) → filter_map ask before ≡ []
    → filter_map ask own ≡ ys → filter_map ask rest ≡ [] → filter_map ask (before ++ (own ++ rest)) ≡ ys
middle ask before own rest ys a b c =
    filter_map-append ask before (own ++ rest) ∙ (λ k. a k ++ (filter_map-append ask own rest ∙ (λ j. b j ++ c j)) k) ∙ append-nil ys

-- ---- publics

-- an asking for an index of a public, which no other public and no reference answers
record IsOfPublic {Y : Type 0} (ask : SpelledRecord → Option Y) (i : ℕ) : Type 0 where
  silent : (n : ℕ) (p : Public) → (i ≡ n + 32 → ⊥) → filter_map ask (public_records n p) ≡ []
  passes : (n : ℕ) (r : Reference) → filter_map ask (reference_records n r) ≡ []

abbrev value_asked : ℕ → SpelledRecord → Option Tree
value_asked i q = value_for i q q.row

abbrev public_note_asked : ℕ → SpelledRecord → Option Note
public_note_asked i q = public_note_for i q.row

value-of_public : (i : ℕ) → IsOfPublic (value_asked i) i
value-of_public i = record {
  silent = λ n p differ. public-nothing (value_asked i) (n + 32) p (λ note. refl)
      (other-index i (n + 32) (tree_in (public_value_record (n + 32) p) (value_at (n + 32) (w.expression shortest p.value))) differ);
  passes = λ n r. reference-nothing (value_asked i) (n + 11) r (λ note. refl) (λ x. refl);
}

note-of_public : (i : ℕ) → IsOfPublic (public_note_asked i) i
note-of_public i = record {
  silent = λ n p differ. public-nothing (public_note_asked i) (n + 32) p (λ note. other-index i (n + 32) note differ) refl;
  passes = λ n r. reference-nothing (public_note_asked i) (n + 11) r (λ note. refl) (λ x. refl);
}

later-publics : {Y : Type 0} (ask : SpelledRecord → Option Y) (i : ℕ) → IsOfPublic ask i → (n : ℕ) (publics : List Public) → i < n + 32
    → filter_map ask (records_from n public_records publics) ≡ []
later-publics ask i of = none-below ask public_records 32 i of.silent

passed-references : {Y : Type 0} (ask : SpelledRecord → Option Y) (i : ℕ) → IsOfPublic ask i → (n : ℕ) (references : List Reference)
    → filter_map ask (records_from n reference_records references) ≡ []
passed-references ask i of = passed ask reference_records of.passes

public-notes : (n : ℕ) (p : Public) → filter_map (public_note_asked (n + 32)) (public_records n p) ≡ p.notes
public-notes n p =
    filter_map-append (public_note_asked (n + 32)) (public_note_records (n + 32) p.notes) (public_value_record (n + 32) p ∷ [])
    ∙ (λ j. kept (public_note_asked (n + 32)) (public_note_record (n + 32)) (same-index (n + 32)) 0 p.notes j ++ []) ∙ append-nil p.notes

public-value : (n : ℕ) (p : Public) → filter_map (value_asked (n + 32)) (public_records n p)
    ≡ tree_in (public_value_record (n + 32) p) (value_at (n + 32) (w.expression shortest p.value)) ∷ []
public-value n p =
    let none = public_notes-nothing (value_asked (n + 32)) 0 (n + 32) p.notes (λ note. refl) in
    let one = same-index (n + 32) (tree_in (public_value_record (n + 32) p) (value_at (n + 32) (w.expression shortest p.value))) in
    filter_map-append (value_asked (n + 32)) (public_note_records (n + 32) p.notes) (public_value_record (n + 32) p ∷ [])
    ∙ (λ j. none j ++ cons_option (one j) [])

-- records that state nothing of publics with indexes from that of position n on
record AreQuietPublics (before : List SpelledRecord) (n : ℕ) : Type 0 where
  value : (i : ℕ) → n + 32 ≤ i → filter_map (value_asked i) before ≡ []
  note : (i : ℕ) → n + 32 ≤ i → filter_map (public_note_asked i) before ≡ []

quiet-more : {Y : Type 0} (ask : SpelledRecord → Option Y) (i : ℕ) → IsOfPublic ask i → (before : List SpelledRecord) (n : ℕ) (p : Public)
    → n + 1 + 32 ≤ i → filter_map ask before ≡ [] → filter_map ask (before ++ public_records n p) ≡ []
quiet-more ask i of before n p high none =
    let own = of.silent n p (λ same. omega (arith, same, high)) in
    filter_map-append ask before (public_records n p) ∙ (λ k. none k ++ own k)

public_name-back : (i : ℕ) (name : List ℕ) → text_in (public_name_record i name) (name_at i name) ≡ name
public_name-back i name = let a = w.number shortest i in string-last (0xE8 ∷ (a ++ w.string shortest name)) (0xE8 ∷ a) name (1 + length a) refl (omega arith)

-- what is after publics: further ones, and references
after-publics : {Y : Type 0} (ask : SpelledRecord → Option Y) (i : ℕ) → IsOfPublic ask i
    → (n : ℕ) (publics : List Public) (references : List Reference) → i < n + 32
    → filter_map ask (records_from n public_records publics ++ records_from 0 reference_records references) ≡ []
after-publics ask i of n publics references low =
    let first = later-publics ask i of n publics low in
    let second = passed-references ask i of 0 references in
    filter_map-append ask (records_from n public_records publics) (records_from 0 reference_records references) ∙ (λ k. first k ++ second k)

module _ (m : Parts) (k : ℕ) where
  public-back : (part before rest : List SpelledRecord) (n : ℕ) (p : Public) → part ≡ before ++ (public_records n p ++ rest) → AreQuietPublics before n
      → filter_map (value_asked (n + 32)) rest ≡ [] → filter_map (public_note_asked (n + 32)) rest ≡ [] → IsFittingPublic p
      → names_outside (counts_of m) p.value ≡ false
      → public_by (written_indexes m k) part (public_name_record (n + 32) p.name) (public_name_record (n + 32) p.name).row ≡ Some p
  public-back part before rest n p is quiet values notes fits inside =
      let i = n + 32 in
      let a = w.number shortest i in
      let e = w.expression shortest p.value in
      let value = ap (filter_map (value_asked i)) is ∙ middle (value_asked i) before (public_records n p) rest
      (tree_in (public_value_record i p) (value_at i e) ∷ []) (quiet.value i (omega arith)) (public-value n p) values in
      let note = ap (filter_map (public_note_asked i)) is ∙ middle (public_note_asked i) before (public_records n p) rest p.notes
      (quiet.note i (omega arith)) (public-notes n p) notes in
      let name_is = public_name-back i p.name in
      let value_is = ap (λ (l : List Tree). positioned (written_indexes m k) (unwrap_or (slice_get l 0) (number 0))) value
      ∙ tree-back m k p.value _ fits.value inside (text-last (0xE2 ∷ 0xC9 ∷ (a ++ e)) (0xE2 ∷ 0xC9 ∷ a) e (2 + length a) refl (omega arith)) in
      λ j. Some (record { name = name_is j; value = value_is j; notes = note j })

  publics-from : (part before : List SpelledRecord) (n : ℕ) (publics : List Public) (references : List Reference)
      → part ≡ before ++ (records_from n public_records publics ++ records_from 0 reference_records references) → AreQuietPublics before n
      → AllByRecursion IsFittingPublic publics → list_any (λ p. names_outside (counts_of m) p.value) publics ≡ false
      → filter_map (λ q. public_by (written_indexes m k) part q q.row) (records_from n public_records publics) ≡ publics
  publics-from part before n [] references is quiet fit inside = refl
  publics-from part before n (p ∷ publics) references is quiet fit inside =
      let i = n + 32 in
      let more = records_from (n + 1) public_records publics in
      let last = records_from 0 reference_records references in
      let ask : SpelledRecord → Option Public = λ q. public_by (written_indexes m k) part q q.row in
      let insides = or_parts (names_outside (counts_of m) p.value) (list_any (λ p. names_outside (counts_of m) p.value) publics) inside in
      let split = is ∙ ap (λ (l : List SpelledRecord). before ++ l) (append_assoc (public_records n p) more last) in
      let own = public-back part before (more ++ last) n p split quiet
      (after-publics (value_asked i) i (value-of_public i) (n + 1) publics references (omega arith))
      (after-publics (public_note_asked i) i (note-of_public i) (n + 1) publics references (omega arith)) fit.0 insides.0 in
      let none = public-nothing ask i p (λ note. refl) refl in
      let later = publics-from part (before ++ public_records n p) (n + 1) publics references (split
      ∙ sym (append_assoc before (public_records n p) (more ++ last))) (record {
        value = λ j high. quiet-more (value_asked j) j (value-of_public j) before n p high (quiet.value j (omega (arith, high)));
        note = λ j high. quiet-more (public_note_asked j) j (note-of_public j) before n p high (quiet.note j (omega (arith, high)));
      }) fit.1 insides.1 in
      filter_map-append ask (public_records n p) more ∙ (λ j. cons_option (own j) (none j) ++ later j)

  no-public : (part : List SpelledRecord) (n : ℕ) (references : List Reference)
      → filter_map (λ q. public_by (written_indexes m k) part q q.row) (records_from n reference_records references) ≡ []
  no-public part n references =
      let ask : SpelledRecord → Option Public = λ q. public_by (written_indexes m k) part q q.row in
      passed ask reference_records (λ n r. reference-nothing ask (n + 11) r (λ note. refl) (λ x. refl)) n references

  pub publics-back : (publics : List Public) (references : List Reference) → AllByRecursion IsFittingPublic publics
      → list_any (λ p. names_outside (counts_of m) p.value) publics ≡ false
      → publics_of (written_indexes m k) (external_records publics references) ≡ publics
  publics-back publics references fit inside =
      let part = external_records publics references in
      let ask : SpelledRecord → Option Public = λ q. public_by (written_indexes m k) part q q.row in
      let first = publics-from part [] 0 publics references refl (record { value = λ i h. refl; note = λ i h. refl }) fit inside in
      let second = no-public part 0 references in
      filter_map-append ask (records_from 0 public_records publics) (records_from 0 reference_records references) ∙ (λ j. first j ++ second j)
      ∙ append-nil publics

-- ---- references

-- an asking for an index of a reference, which no other reference and no public answers
record IsOfReference {Y : Type 0} (ask : SpelledRecord → Option Y) (i : ℕ) : Type 0 where
  silent : (n : ℕ) (r : Reference) → (i ≡ n + 11 → ⊥) → filter_map ask (reference_records n r) ≡ []
  passes : (n : ℕ) (p : Public) → filter_map ask (public_records n p) ≡ []

abbrev weak_asked : ℕ → SpelledRecord → Option Weak
weak_asked i q = weak_for i q.row

abbrev reference_note_asked : ℕ → SpelledRecord → Option Note
reference_note_asked i q = reference_note_for i q.row

weak-of_reference : (i : ℕ) → IsOfReference (weak_asked i) i
weak-of_reference i = record {
  silent = λ n r differ. reference-nothing (weak_asked i) (n + 11) r (λ note. refl)
      (λ x. other-index i (n + 11) (record { size = x.size; default = unwrap_or (default_for x.default) 0 }) differ);
  passes = λ n p. public-nothing (weak_asked i) (n + 32) p (λ note. refl) refl;
}

note-of_reference : (i : ℕ) → IsOfReference (reference_note_asked i) i
note-of_reference i = record {
  silent = λ n r differ. reference-nothing (reference_note_asked i) (n + 11) r (λ note. other-index i (n + 11) note differ) (λ x. refl);
  passes = λ n p. public-nothing (reference_note_asked i) (n + 32) p (λ note. refl) refl;
}

later-references : {Y : Type 0} (ask : SpelledRecord → Option Y) (i : ℕ) → IsOfReference ask i → (n : ℕ) (references : List Reference) → i < n + 11
    → filter_map ask (records_from n reference_records references) ≡ []
later-references ask i of = none-below ask reference_records 11 i of.silent

passed-publics : {Y : Type 0} (ask : SpelledRecord → Option Y) (i : ℕ) → IsOfReference ask i → (n : ℕ) (publics : List Public)
    → filter_map ask (records_from n public_records publics) ≡ []
passed-publics ask i of = passed ask public_records of.passes

reference-notes : (n : ℕ) (r : Reference) → filter_map (reference_note_asked (n + 11)) (reference_records n r) ≡ r.notes
reference-notes n r =
    let none = weak-nothing (reference_note_asked (n + 11)) (n + 11) r.weak (λ x. refl) in
    filter_map-append (reference_note_asked (n + 11)) (reference_note_records (n + 11) r.notes) (weak_records (n + 11) r.weak)
    ∙ (λ j. kept (reference_note_asked (n + 11)) (reference_note_record (n + 11)) (same-index (n + 11)) 0 r.notes j ++ none j) ∙ append-nil r.notes

-- a default that is not stated is 0
default-back : (default : ℕ) → unwrap_or (default_for default) 0 ≡ default
default-back default = by_case (default == 0) refl where
  by_case : (b : Bool) → (default == 0) ≡ b → unwrap_or (if b then None else Some default) 0 ≡ default
  by_case true same = sym (exact_unsigned_eq default 0 same)
  by_case false differ = refl

weak-alone : (i : ℕ) (weak : Option Weak) → slice_get (filter_map (weak_asked i) (weak_records i weak)) 0 ≡ weak
weak-alone i None = refl
weak-alone i (Some weak) =
    let stated = same-index i (record { size = weak.size; default = unwrap_or (default_for weak.default) 0 }) in
    (λ j. slice_get (cons_option (stated j) []) 0) ∙ (λ j. Some (record { size = weak.size; default = default-back weak.default j }))

reference-weak : (n : ℕ) (r : Reference) → filter_map (weak_asked (n + 11)) (reference_records n r)
    ≡ filter_map (weak_asked (n + 11)) (weak_records (n + 11) r.weak)
reference-weak n r =
    let none = reference_notes-nothing (weak_asked (n + 11)) 0 (n + 11) r.notes (λ note. refl) in
    filter_map-append (weak_asked (n + 11)) (reference_note_records (n + 11) r.notes) (weak_records (n + 11) r.weak)
    ∙ (λ j. none j ++ filter_map (weak_asked (n + 11)) (weak_records (n + 11) r.weak))

record AreQuietReferences (before : List SpelledRecord) (n : ℕ) : Type 0 where
  weak : (i : ℕ) → n + 11 ≤ i → filter_map (weak_asked i) before ≡ []
  note : (i : ℕ) → n + 11 ≤ i → filter_map (reference_note_asked i) before ≡ []

quiet-reference : {Y : Type 0} (ask : SpelledRecord → Option Y) (i : ℕ) → IsOfReference ask i → (before : List SpelledRecord) (n : ℕ) (r : Reference)
    → n + 1 + 11 ≤ i → filter_map ask before ≡ [] → filter_map ask (before ++ reference_records n r) ≡ []
quiet-reference ask i of before n r high none =
    let own = of.silent n r (λ same. omega (arith, same, high)) in
    filter_map-append ask before (reference_records n r) ∙ (λ k. none k ++ own k)

reference_name-back : (i : ℕ) (name : List ℕ) → text_in (reference_name_record i name) (name_at i name) ≡ name
reference_name-back i name = let a = w.number shortest i in string-last (0xE9 ∷ (a ++ w.string shortest name)) (0xE9 ∷ a) name (1 + length a) refl (omega arith)

reference-back : (part before rest : List SpelledRecord) (n : ℕ) (r : Reference) → part ≡ before ++ (reference_records n r ++ rest)
    → AreQuietReferences before n
    → filter_map (weak_asked (n + 11)) rest ≡ [] → filter_map (reference_note_asked (n + 11)) rest ≡ []
    → reference_by part (reference_name_record (n + 11) r.name) (reference_name_record (n + 11) r.name).row ≡ Some r
reference-back part before rest n r is quiet weaks notes =
    let i = n + 11 in
    let weak = ap (filter_map (weak_asked i)) is ∙ middle (weak_asked i) before (reference_records n r) rest
    (filter_map (weak_asked i) (weak_records i r.weak)) (quiet.weak i (omega arith)) (reference-weak n r) weaks in
    let note = ap (filter_map (reference_note_asked i)) is ∙ middle (reference_note_asked i) before (reference_records n r) rest r.notes
    (quiet.note i (omega arith)) (reference-notes n r) notes in
    let name_is = reference_name-back i r.name in
    let weak_is = ap (λ (l : List Weak). slice_get l 0) weak ∙ weak-alone i r.weak in
    λ j. Some (record { name = name_is j; weak = weak_is j; notes = note j })

references-from : (part before : List SpelledRecord) (n : ℕ) (references : List Reference) → part ≡ before
    ++ records_from n reference_records references → AreQuietReferences before n
    → filter_map (λ q. reference_by part q q.row) (records_from n reference_records references) ≡ references
references-from part before n [] is quiet = refl
references-from part before n (r ∷ references) is quiet =
    let i = n + 11 in
    let more = records_from (n + 1) reference_records references in
    let ask : SpelledRecord → Option Reference = λ q. reference_by part q q.row in
    let own = reference-back part before more n r is quiet (later-references (weak_asked i) i (weak-of_reference i) (n + 1) references (omega arith))
    (later-references (reference_note_asked i) i (note-of_reference i) (n + 1) references (omega arith)) in
    let none = reference-nothing ask i r (λ note. refl) (λ x. refl) in
    let later = references-from part (before ++ reference_records n r) (n + 1) references (is
    ∙ sym (append_assoc before (reference_records n r) more)) (record {
      weak = λ j high. quiet-reference (weak_asked j) j (weak-of_reference j) before n r high (quiet.weak j (omega (arith, high)));
      note = λ j high. quiet-reference (reference_note_asked j) j (note-of_reference j) before n r high (quiet.note j (omega (arith, high)));
    }) in
    filter_map-append ask (reference_records n r) more ∙ (λ j. cons_option (own j) (none j) ++ later j)

no-reference : (part : List SpelledRecord) (n : ℕ) (publics : List Public)
    → filter_map (λ q. reference_by part q q.row) (records_from n public_records publics) ≡ []
no-reference part n publics =
    let ask : SpelledRecord → Option Reference = λ q. reference_by part q q.row in
    passed ask public_records (λ n p. public-nothing ask (n + 32) p (λ note. refl) refl) n publics

pub references-back : (publics : List Public) (references : List Reference) → references_of (external_records publics references) ≡ references
references-back publics references =
    let part = external_records publics references in
    let ask : SpelledRecord → Option Reference = λ q. reference_by part q q.row in
    let first = no-reference part 0 publics in
    let second = references-from part (records_from 0 public_records publics) 0 references refl (record {
      weak = λ i h. passed-publics (weak_asked i) i (weak-of_reference i) 0 publics;
      note = λ i h. passed-publics (reference_note_asked i) i (note-of_reference i) 0 publics;
    }) in
    filter_map-append ask (records_from 0 public_records publics) (records_from 0 reference_records references) ∙ (λ j. first j ++ second j)
