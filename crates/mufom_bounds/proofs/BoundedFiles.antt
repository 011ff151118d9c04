-- The module of a file that consists of bytes is within the bounds of the types of a module.
use Rattle.std.proofs.Common.{◌≡◌, ℕ, ◌<◌, Bool, true, false, cond, ◌==◌, List, [], ◌∷◌, ◌++◌, map, slice_get, Option, Some, None}
use Rattle.std.proofs.Common.{unwrap_or, refl, sym, subst, arith}
use Rattle.std.specs.Prelude.{IfSome, filter_map}
use Rattle.std.specs.List.{AllByRecursion, cons_option}
use Rattle.std.proofs.lemmas.List.Elements.{All-from_recursion}
use Rattle.mufom_numbers.specs.Spelling.{AreBytes}
use Rattle.mufom_expr.specs.Spelled.{Indexes}
use Rattle.mufom_expr.specs.Tree.{Tree, number}
use Rattle.mufom_records.specs.declared.options.ReadOptions.{ReadOptions}
use Rattle.mufom_records.specs.declared.record.BlockTail.{BlockTail}
use Rattle.mufom_records.specs.declared.record.BlockTail.TheVariants as tail
use Rattle.mufom_records.specs.declared.record.Record.{Record}
use Rattle.mufom_records.specs.declared.record.Record.TheVariants as r
use Rattle.mufom_loads.specs.declared.load.Item.{Item}
use Rattle.mufom_loads.specs.declared.load.Load.TheVariants.{One}
use Rattle.mufom_debug.specs.declared.item.BlockHead.TheVariants as head
use Rattle.mufom_module.specs.declared.module.Parts.{Parts}
use Rattle.mufom_module.specs.Gathered.{alignment_for, answers, base_for, head_by, item_by, items_at_prefix, loads_by, loads_of, mark_by, marks, note_of}
use Rattle.mufom_module.specs.Gathered.{public_by, public_note_for, publics_of, reference_by, reference_note_for, references_of, section_by, sections_of}
use Rattle.mufom_module.specs.Gathered.{size_for, start_by, starts_of, value_for, weak_for}
use Rattle.mufom_module.specs.Grammar.{AreWhole, FileParts, IsPart, NamesModule, after_header, debug_bytes, from_debug, from_externals, from_loads}
use Rattle.mufom_module.specs.Grammar.{from_sections, from_trailer, header_of, indexes_of, module_end}
use Rattle.mufom_module.specs.Made.{IsMadeNote, IsMadeReference, IsMadeSection, IsMadeWeak, IsNumber}
use Rattle.mufom_module.specs.RecordParts.{Part, opens_items}
use Rattle.mufom_module.specs.SpelledRecords.{SpelledRecord, bytes_of, positioned, positioned_variable, tree_in}
use Rattle.mufom_judging.specs.Judging.{IsModule}
use Rattle.mufom_bounds.specs.Bounded.{IsBounded, IsBoundedHead, IsBoundedItem, IsBoundedLoad, IsBoundedMark, IsBoundedPublic, IsBoundedTree}
use Rattle.mufom_bounds.proofs.Bounded.{all-append, all-first, all-last, renamed-tree}
use Rattle.mufom_bounds.proofs.BoundedRecords.{IsBoundedRow, row-bounded, text-bytes}

-- ---- records

-- the record consists of bytes, and what it states is within its bounds
record IsBoundedRecord (p : SpelledRecord) : Type 0 where
  pub bytes : AreBytes p.bytes
  pub row : IsBoundedRow p p.row

records-bounded : (options : ReadOptions) (items : Bool) (records : List SpelledRecord) (after : List ℕ) → AreWhole options items records after
    → AreBytes (bytes_of records) → AllByRecursion IsBoundedRecord records
records-bounded options items [] after whole are = tt
records-bounded options items (p ∷ records) after whole are =
    let own = all-first (λ b. b < 256) p.bytes (bytes_of records) are in
    let others = all-last (λ b. b < 256) p.bytes (bytes_of records) are in (
      record { bytes = own; row = row-bounded options p items _ whole.0 },
      records-bounded options (opens_items p.row) records after whole.1 others,
    )

-- ---- what is gathered from records

gathered : {X : Type 0} (Is : X → Type 0) (ask : SpelledRecord → Option X) → ((p : SpelledRecord) → IsBoundedRecord p → IfSome (ask p) Is)
    → (part : List SpelledRecord) → AllByRecursion IsBoundedRecord part → AllByRecursion Is (filter_map ask part)
gathered Is ask each [] are = tt
gathered {X} Is ask each (p ∷ part) are = by (ask p) (each p are.0) (gathered Is ask each part are.1) where
  by : (o : Option X) → IfSome o Is → AllByRecursion Is (filter_map ask part) → AllByRecursion Is (cons_option o (filter_map ask part))
  by None is rest = rest
  by (Some x) is rest = (is, rest)

at-index : {X : Type 0} (Is : X → Type 0) (b : Bool) (x : X) → Is x → IfSome (cond b (Some x) None) Is
at-index Is true x is = is
at-index Is false x is = tt

first-is : {X : Type 0} (Is : X → Type 0) (xs : List X) → AllByRecursion Is xs → IfSome (slice_get xs 0) Is
first-is Is [] are = tt
first-is Is (x ∷ xs) are = are.0

or-otherwise : {X : Type 0} (Is : X → Type 0) (o : Option X) (otherwise : X) → IfSome o Is → Is otherwise → Is (unwrap_or o otherwise)
or-otherwise Is None otherwise is default = default
or-otherwise Is (Some x) otherwise is default = is

-- ---- sections

size-number : (i : ℕ) (p : SpelledRecord) (row : Record) → IsBoundedRow p row → IfSome (size_for i row) IsNumber
size-number i p (r.SectionSize j n) is = at-index IsNumber (i == j) n is
size-number i p row is = tt

alignment-number : (i : ℕ) (p : SpelledRecord) (row : Record) → IsBoundedRow p row → IfSome (alignment_for i row) IsNumber
alignment-number i p (r.Alignment j n other) is = at-index IsNumber (i == j) n is
alignment-number i p row is = tt

base-number : (i : ℕ) (p : SpelledRecord) (row : Record) → IsBoundedRow p row → IfSome (base_for i row) IsNumber
base-number i p (r.SectionBase j n) is = at-index IsNumber (i == j) n is
base-number i p row is = tt

-- the first answer of the records is a number
first-number : (ask : Record → Option ℕ) → ((p : SpelledRecord) (row : Record) → IsBoundedRow p row → IfSome (ask row) IsNumber)
    → (part : List SpelledRecord) → AllByRecursion IsBoundedRecord part → IfSome (slice_get (answers ask part) 0) IsNumber
first-number ask each part are =
    first-is IsNumber (answers ask part) (gathered IsNumber (λ p. ask p.row) (λ p is. each p p.row is.row) part are)

section-made : (part : List SpelledRecord) → AllByRecursion IsBoundedRecord part → (p : SpelledRecord) → AreBytes p.bytes → (row : Record)
    → IfSome (section_by part p row) IsMadeSection
section-made part are p bytes (r.SectionType i absolute letter name a b c) = record {
  name = text-bytes p name bytes;
  size = or-otherwise IsNumber (slice_get (answers (size_for i) part) 0) 0 (first-number (size_for i) (size-number i) part are) (omega arith);
  align = or-otherwise IsNumber (slice_get (answers (alignment_for i) part) 0) 1 (first-number (alignment_for i) (alignment-number i) part are)
      (omega arith);
  base = first-number (base_for i) (base-number i) part are;
}
section-made part are p bytes row = tt

sections-made : (part : List SpelledRecord) → AllByRecursion IsBoundedRecord part → AllByRecursion IsMadeSection (sections_of part)
sections-made part are = gathered IsMadeSection (λ p. section_by part p p.row) (λ p is. section-made part are p is.bytes p.row) part are

-- ---- publics and references

placed : (ix : Indexes) (tree : Tree) → IsBoundedTree tree → IsBoundedTree (positioned ix tree)
placed ix tree is = renamed-tree (positioned_variable ix) tree is

public-note : (i : ℕ) (p : SpelledRecord) (row : Record) → IsBoundedRow p row → IfSome (public_note_for i row) IsMadeNote
public-note i p (r.PublicNote j type_index attribute ns) is = at-index IsMadeNote (i == j) (note_of type_index attribute ns) is
public-note i p row is = tt

public-value : (i : ℕ) (p : SpelledRecord) (row : Record) → IsBoundedRow p row → IfSome (value_for i p row) IsBoundedTree
public-value i p (r.PublicValue j value) is = at-index IsBoundedTree (i == j) (tree_in p value) is
public-value i p row is = tt

public-bounded : (ix : Indexes) (part : List SpelledRecord) → AllByRecursion IsBoundedRecord part → (p : SpelledRecord) → AreBytes p.bytes
    → (row : Record) → IfSome (public_by ix part p row) IsBoundedPublic
public-bounded ix part are p bytes (r.PublicName i name) =
    let values = filter_map (λ (q : SpelledRecord). value_for i q q.row) part in
    let given = gathered IsBoundedTree (λ q. value_for i q q.row) (λ q is. public-value i q q.row is.row) part are in
    let value = unwrap_or (slice_get values 0) (number 0) in
    record {
      name = text-bytes p name bytes;
      value = placed ix value
          (or-otherwise IsBoundedTree (slice_get values 0) (number 0) (first-is IsBoundedTree values given) (omega arith, (omega arith, tt)));
      notes = All-from_recursion IsMadeNote (answers (public_note_for i) part)
          (gathered IsMadeNote (λ q. public_note_for i q.row) (λ q is. public-note i q q.row is.row) part are);
    }
public-bounded ix part are p bytes row = tt

publics-bounded : (ix : Indexes) (part : List SpelledRecord) → AllByRecursion IsBoundedRecord part
    → AllByRecursion IsBoundedPublic (publics_of ix part)
publics-bounded ix part are =
    gathered IsBoundedPublic (λ p. public_by ix part p p.row) (λ p is. public-bounded ix part are p is.bytes p.row) part are

reference-note : (i : ℕ) (p : SpelledRecord) (row : Record) → IsBoundedRow p row → IfSome (reference_note_for i row) IsMadeNote
reference-note i p (r.ReferenceNote j type_index attribute ns) is = at-index IsMadeNote (i == j) (note_of type_index attribute ns) is
reference-note i p row is = tt

weak-made : (i : ℕ) (p : SpelledRecord) (row : Record) → IsBoundedRow p row → IfSome (weak_for i row) IsMadeWeak
weak-made i p (r.WeakReference j n default) is =
    at-index IsMadeWeak (i == j) (record { size = n; default = unwrap_or default 0 }) (is.0, or-otherwise IsNumber default 0 is.1 (omega arith))
weak-made i p row is = tt

reference-made : (part : List SpelledRecord) → AllByRecursion IsBoundedRecord part → (p : SpelledRecord) → AreBytes p.bytes → (row : Record)
    → IfSome (reference_by part p row) IsMadeReference
reference-made part are p bytes (r.ReferenceName i name) = record {
  name = text-bytes p name bytes;
  weak = first-is IsMadeWeak (answers (weak_for i) part) (gathered IsMadeWeak (λ q. weak_for i q.row) (λ q is. weak-made i q q.row is.row) part are);
  notes = All-from_recursion IsMadeNote (answers (reference_note_for i) part)
      (gathered IsMadeNote (λ q. reference_note_for i q.row) (λ q is. reference-note i q q.row is.row) part are);
}
reference-made part are p bytes row = tt

references-made : (part : List SpelledRecord) → AllByRecursion IsBoundedRecord part → AllByRecursion IsMadeReference (references_of part)
references-made part are = gathered IsMadeReference (λ p. reference_by part p p.row) (λ p is. reference-made part are p is.bytes p.row) part are

-- ---- debug marks

scope-bounded : (b : Bool) (stack type_index : ℕ) (value : Tree) → IsNumber stack → IsNumber type_index → IsBoundedTree value
    → IsBoundedHead (cond b (head.Global stack type_index value) (head.Local stack type_index value))
scope-bounded true stack type_index value x y z = (x, y, z)
scope-bounded false stack type_index value x y z = (x, y, z)

head-bounded : (ix : Indexes) (p : SpelledRecord) (kind : ℕ) (block : BlockTail) → IsBoundedRow p (r.BlockBegin kind 0 (record { start = 0; len = 0 }) block)
    → IsBoundedHead (head_by ix p kind block)
head-bounded ix p kind tail.Module is = tt
head-bounded ix p kind (tail.Scope stack type_index offset) is =
    scope-bounded (kind == 4) stack type_index (positioned ix (tree_in p offset)) is.0 is.1 (placed ix (tree_in p offset) is.2)
head-bounded ix p kind (tail.Source ns) is = is
head-bounded ix p kind (tail.Section section_type section offset) is = (is.0, placed ix (tree_in p offset) is.1)

mark-bounded : (ix : Indexes) (p : SpelledRecord) → AreBytes p.bytes → (row : Record) → IsBoundedRow p row → IfSome (mark_by ix p row) IsBoundedMark
mark-bounded ix p bytes (r.BlockBegin kind n name block) is = (head-bounded ix p kind block is, text-bytes p name bytes)
mark-bounded ix p bytes (r.BlockEnd None) is = tt
mark-bounded ix p bytes (r.BlockEnd (Some value)) is = placed ix (tree_in p value) is
mark-bounded ix p bytes (r.DebugName i name) is = text-bytes p name bytes
mark-bounded ix p bytes (r.DebugValue i value) is = placed ix (tree_in p value) is
mark-bounded ix p bytes (r.DebugNote i type_index attribute ns) is = is
mark-bounded ix p bytes row is = tt

marks-bounded : (ix : Indexes) (part : List SpelledRecord) → AllByRecursion IsBoundedRecord part → AllByRecursion IsBoundedMark (marks ix part)
marks-bounded ix part are = gathered IsBoundedMark (λ p. mark_by ix p p.row) (λ p is. mark-bounded ix p is.bytes p.row is.row) part are

-- ---- the start

start-bounded : (ix : Indexes) (p : SpelledRecord) (row : Record) → IsBoundedRow p row → IfSome (start_by ix p row) IsBoundedTree
start-bounded ix p (r.Start value) is = placed ix (tree_in p value) is
start-bounded ix p row is = tt

starts-bounded : (ix : Indexes) (part : List SpelledRecord) → AllByRecursion IsBoundedRecord part → AllByRecursion IsBoundedTree (starts_of ix part)
starts-bounded ix part are = gathered IsBoundedTree (λ p. start_by ix p p.row) (λ p is. start-bounded ix p p.row is.row) part are

-- ---- loads

item-bounded : (ix : Indexes) (maus : ℕ) (p : SpelledRecord) → AreBytes p.bytes → (row : Record) → IsBoundedRow p row
    → IfSome (item_by ix maus p row) IsBoundedItem
item-bounded ix maus p bytes (r.ConstantItem run) is = text-bytes p run bytes
item-bounded ix maus p bytes (r.FieldItem kind value n) is = placed ix (tree_in p value) is
item-bounded ix maus p bytes row is = tt

prefix-none : (ix : Indexes) (maus : ℕ) (p : SpelledRecord) (records : List SpelledRecord) → item_by ix maus p p.row ≡ None
    → items_at_prefix ix maus (p ∷ records) ≡ []
prefix-none ix maus p records e = rw e refl

prefix-some : (ix : Indexes) (maus : ℕ) (p : SpelledRecord) (records : List SpelledRecord) (item : Item) → item_by ix maus p p.row ≡ Some item
    → items_at_prefix ix maus (p ∷ records) ≡ item ∷ items_at_prefix ix maus records
prefix-some ix maus p records item e = rw e refl

items-bounded : (ix : Indexes) (maus : ℕ) (records : List SpelledRecord) → AllByRecursion IsBoundedRecord records
    → AllByRecursion IsBoundedItem (items_at_prefix ix maus records)
items-bounded ix maus [] are = tt
items-bounded ix maus (p ∷ records) are =
    by (item_by ix maus p p.row) refl (item-bounded ix maus p are.0.bytes p.row are.0.row) (items-bounded ix maus records are.1) where
      by : (o : Option Item) → item_by ix maus p p.row ≡ o → IfSome o IsBoundedItem → AllByRecursion IsBoundedItem (items_at_prefix ix maus records)
          → AllByRecursion IsBoundedItem (items_at_prefix ix maus (p ∷ records))
      by None e is rest = subst (AllByRecursion IsBoundedItem) (sym (prefix-none ix maus p records e)) tt
      by (Some item) e is rest = subst (AllByRecursion IsBoundedItem) (sym (prefix-some ix maus p records item e)) (is, rest)

ones-bounded : (items : List Item) → AllByRecursion IsBoundedItem items → AllByRecursion IsBoundedLoad (map One items)
ones-bounded [] are = tt
ones-bounded (item ∷ items) are = (are.0, ones-bounded items are.1)

row-loads : (ix : Indexes) (p : SpelledRecord) → AreBytes p.bytes → (items : List Item) → AllByRecursion IsBoundedItem items → (row : Record)
    → IsBoundedRow p row → AllByRecursion IsBoundedLoad (loads_by ix p items row)
row-loads ix p bytes items are (r.SetSection i) is = (tt, tt)
row-loads ix p bytes items are (r.SetPc i value) is = (placed ix (tree_in p value) is, tt)
row-loads ix p bytes items are (r.Constant run) is = (text-bytes p run bytes, tt)
row-loads ix p bytes items are r.Relocate is = ones-bounded items are
row-loads ix p bytes items are (r.RepeatConstant times run) is = ((is, (text-bytes p run bytes, tt)), tt)
row-loads ix p bytes items are (r.RepeatRelocate times) is = ((is, are), tt)
row-loads ix p bytes items are row is = tt

loads-bounded : (ix : Indexes) (maus : ℕ) (records : List SpelledRecord) → AllByRecursion IsBoundedRecord records
    → AllByRecursion IsBoundedLoad (loads_of ix maus records)
loads-bounded ix maus [] are = tt
loads-bounded ix maus (p ∷ records) are =
    let items = items_at_prefix ix maus records in
    all-append IsBoundedLoad (loads_by ix p items p.row) (loads_of ix maus records)
    (row-loads ix p are.0.bytes items (items-bounded ix maus records are.1) p.row are.0.row) (loads-bounded ix maus records are.1)

-- ---- a file

-- the parts of a file consist of bytes
record HasBytes (f : FileParts) : Type 0 where
  begin : AreBytes f.begin.bytes
  extension : AreBytes f.extension
  environment : AreBytes f.environment
  sections : AreBytes (bytes_of f.sections)
  externals : AreBytes (bytes_of f.externals)
  debug : AreBytes (bytes_of f.debug)
  loads : AreBytes (bytes_of f.loads)
  trailer : AreBytes (bytes_of f.trailer)

abbrev IsByte : ℕ → Type 0
IsByte b = b < 256

has-bytes : (f : FileParts) → AreBytes (bytes_of (header_of f) ++ after_header f) → HasBytes f
has-bytes f are =
    let header = all-first IsByte (bytes_of (header_of f)) (after_header f) are in
    let a = all-last IsByte (bytes_of (header_of f)) (after_header f) are in
    let b = all-last IsByte f.extension (f.environment ++ from_sections f) a in
    let c = all-last IsByte f.environment (from_sections f) b in
    let d = all-last IsByte (bytes_of f.sections) (from_externals f) c in
    let e = all-last IsByte (bytes_of f.externals) (from_debug f) d in
    let g = all-last IsByte (debug_bytes f) (from_loads f) e in
    let h = all-last IsByte (bytes_of f.loads) (from_trailer f) g in
    record {
      begin = all-first IsByte f.begin.bytes (bytes_of (f.descriptor ∷ f.offsets)) header;
      extension = all-first IsByte f.extension (f.environment ++ from_sections f) a;
      environment = all-first IsByte f.environment (from_sections f) b;
      sections = all-first IsByte (bytes_of f.sections) (from_externals f) c;
      externals = all-first IsByte (bytes_of f.externals) (from_debug f) d;
      debug = all-first IsByte (bytes_of f.debug) f.skipped (all-first IsByte (debug_bytes f) (from_loads f) e);
      loads = all-first IsByte (bytes_of f.loads) (from_trailer f) g;
      trailer = all-first IsByte (bytes_of f.trailer) module_end h;
    }

names-bounded : (m : Parts) (p : SpelledRecord) (row : Record) → AreBytes p.bytes → NamesModule m p row → AreBytes m.processor × AreBytes m.name
names-bounded m p (r.ModuleBegin processor name) are names =
    (subst AreBytes names.0 (text-bytes p processor are), subst AreBytes names.1 (text-bytes p name are))
names-bounded m p row are names = absurd names

part-bounded : (options : ReadOptions) (part : Part) (records : List SpelledRecord) (after : List ℕ) → IsPart options part records after
    → AreBytes (bytes_of records) → AllByRecursion IsBoundedRecord records
part-bounded options part records after is are = records-bounded options false records after is.are_whole are

-- the module of a file
pub file-bounded : (options : ReadOptions) (bytes : List ℕ) (m : Parts) → AreBytes bytes → IsModule options bytes m → IsBounded m
file-bounded options bytes m are (f, cut, names, states, valid) =
    let ix = indexes_of f in
    let has = has-bytes f (subst AreBytes cut.all are) in
    let (processor, name) = names-bounded m f.begin f.begin.row has.begin states.begin in
    let externals = part-bounded options _ f.externals _ cut.externals has.externals in
    record {
      processor = processor;
      name = name;
      ext = subst AreBytes (sym states.extension) has.extension;
      env = subst AreBytes (sym states.environment) has.environment;
      sections = subst (AllByRecursion IsMadeSection) (sym states.sections)
          (sections-made f.sections (part-bounded options _ f.sections _ cut.sections has.sections));
      publics = subst (AllByRecursion IsBoundedPublic) (sym states.publics) (publics-bounded ix f.externals externals);
      references = subst (AllByRecursion IsMadeReference) (sym states.references) (references-made f.externals externals);
      debug = subst (AllByRecursion IsBoundedMark) (sym states.debug)
          (marks-bounded ix f.debug (part-bounded options _ f.debug _ cut.debug has.debug));
      loads = subst (AllByRecursion IsBoundedLoad) (sym states.loads)
          (loads-bounded ix m.maus f.loads (part-bounded options _ f.loads _ cut.loads has.loads));
      start = subst (AllByRecursion IsBoundedTree) (sym states.start)
          (starts-bounded ix f.trailer (part-bounded options _ f.trailer _ cut.trailer has.trailer));
    }
