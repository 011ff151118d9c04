-- What is gathered from all records of a file is what is gathered from those of one part.
use Rattle.std.proofs.Common.{◌≡◌, ℕ, Bool, true, false, not, ◌==◌, ◌&&◌, List, [], ◌∷◌, ◌++◌, slice_get, Option, Some, None, is_none, option_map}
use Rattle.std.proofs.Common.{unwrap_or, refl, sym, ap, ◌∙◌, append-nil, filter_map, eqb-true}
use Rattle.std.specs.List.{list_all, cons_option}
use Rattle.std.proofs.lemmas.Bool.{and_parts}
use Rattle.std.proofs.lemmas.List.Elements.{filter_map-append}
use Rattle.mufom_expr.specs.Tree.{number}
use Rattle.mufom_expr.specs.Spelled.{Indexes}
use Rattle.mufom_records.specs.declared.record.Record.{Record}
use Rattle.mufom_records.specs.declared.record.Record.TheVariants as r
use Rattle.mufom_loads.specs.declared.load.Item.{Item}
use Rattle.mufom_module.specs.SpelledRecords.{SpelledRecord, section, public, reference, debug_name, text_in, positioned, declared_by, of_kind, declared}
use Rattle.mufom_module.specs.RecordParts.{Part, section_part, external_part, debug_part, data_part, trailer_part, end_part, number_of, part_of}
use Rattle.mufom_module.specs.RecordParts.{is_this_part, stands_in}
use Rattle.mufom_module.specs.Gathered.{answers, size_for, alignment_for, base_for, purpose_of, section_by, sections_of, public_note_for}
use Rattle.mufom_module.specs.Gathered.{reference_note_for, weak_for, value_for, public_by, publics_of, reference_by, references_of, mark_by, marks}
use Rattle.mufom_module.specs.Gathered.{item_by, items_at_prefix, loads_by, loads_of, start_by, starts_of}
use Rattle.mufom_judging.specs.Stated.{indexes_in}
use Rattle.mufom_judging.proofs.ended.Names.{IsSilent}

-- ---- records of other parts

pub other_part : (part other : Part) (o : Option Part) → (number_of part == number_of other) ≡ false → is_this_part other o ≡ true → is_this_part part o ≡ false
other_part part other None differ h = refl
other_part part other (Some it) differ h = ap (λ n. number_of part == n) (sym (eqb-true (number_of other) (number_of it) h)) ∙ differ

pub unplaced : (part : Part) (o : Option Part) → is_none o ≡ true → is_this_part part o ≡ false
unplaced part None h = refl
unplaced part (Some it) h = cc

-- a function that finds something only in records of this part
abbrev pub IsAskedOf : {X : Type 0} → Part → (SpelledRecord → Option X) → Type 0
IsAskedOf part ask = (p : SpelledRecord) → stands_in part p.row ≡ false → ask p ≡ None

pub not_asked : {X : Type 0} (part other : Part) (ask : SpelledRecord → Option X) → IsAskedOf part ask → (number_of part == number_of other) ≡ false
    → (records : List SpelledRecord)
    → list_all (λ p. stands_in other p.row) records ≡ true → filter_map ask records ≡ []
not_asked part other ask only differ [] h = refl
not_asked part other ask only differ (p ∷ records) h =
    let both = and_parts (stands_in other p.row) _ h in
    (λ i. cons_option (only p (other_part part other (part_of p.row) differ both.0) i) (not_asked part other ask only differ records both.1 i))

pub not_silent : {X : Type 0} (part : Part) (ask : SpelledRecord → Option X) → IsAskedOf part ask → (records : List SpelledRecord) → IsSilent records
    → filter_map ask records ≡ []
not_silent part ask only [] h = refl
not_silent part ask only (p ∷ records) h =
    let both = and_parts (is_none (part_of p.row)) _ h in
    (λ i. cons_option (only p (unplaced part (part_of p.row) both.0) i) (not_silent part ask only records both.1 i))

-- ---- all records of a file

-- records of the header, and of the parts that are read
pub record AreSorted (h s e d l t : List SpelledRecord) (end : SpelledRecord) : Type 0 where
  pub header : IsSilent h
  pub sections : list_all (λ p. stands_in section_part p.row) s ≡ true
  pub externals : list_all (λ p. stands_in external_part p.row) e ≡ true
  pub debug : list_all (λ p. stands_in debug_part p.row) d ≡ true
  pub loads : list_all (λ p. stands_in data_part p.row) l ≡ true
  pub trailer : list_all (λ p. stands_in trailer_part p.row) t ≡ true
  pub end_ : stands_in end_part end.row ≡ true

-- all of them
abbrev pub all_records : List SpelledRecord → List SpelledRecord → List SpelledRecord → List SpelledRecord → List SpelledRecord → List SpelledRecord
    → SpelledRecord → List SpelledRecord
all_records h s e d l t end = (((((h ++ s) ++ e) ++ d) ++ l) ++ t) ++ end ∷ []

gathered : {X : Type 0} (ask : SpelledRecord → Option X) (h s e d l t : List SpelledRecord) (end : SpelledRecord) → filter_map ask (all_records h s e d l t end)
    ≡ (((((filter_map ask h ++ filter_map ask s) ++ filter_map ask e) ++ filter_map ask d) ++ filter_map ask l) ++ filter_map ask t)
    ++ filter_map ask (end ∷ [])
gathered ask h s e d l t end =
    filter_map-append ask (((((h ++ s) ++ e) ++ d) ++ l) ++ t) (end ∷ [])
    ∙ ap (λ k. k ++ filter_map ask (end ∷ [])) (filter_map-append ask ((((h ++ s) ++ e) ++ d) ++ l) t
    ∙ ap (λ k. k ++ filter_map ask t) (filter_map-append ask (((h ++ s) ++ e) ++ d) l
    ∙ ap (λ k. k ++ filter_map ask l) (filter_map-append ask ((h ++ s) ++ e) d
    ∙ ap (λ k. k ++ filter_map ask d) (filter_map-append ask (h ++ s) e
    ∙ ap (λ k. k ++ filter_map ask e) (filter_map-append ask h s)))))

pub end_alone : (end : SpelledRecord) → stands_in end_part end.row ≡ true → list_all (λ p. stands_in end_part p.row) (end ∷ []) ≡ true
end_alone end h = ap (λ b. b && true) h

pub only_sections : {X : Type 0} (ask : SpelledRecord → Option X) → IsAskedOf section_part ask
    → (h s e d l t : List SpelledRecord) (end : SpelledRecord) → AreSorted h s e d l t end → filter_map ask (all_records h s e d l t end) ≡ filter_map ask s
only_sections ask only h s e d l t end are =
    let none_h = not_silent section_part ask only h are.header in
    let none_e = not_asked section_part external_part ask only refl e are.externals in
    let none_d = not_asked section_part debug_part ask only refl d are.debug in
    let none_l = not_asked section_part data_part ask only refl l are.loads in
    let none_t = not_asked section_part trailer_part ask only refl t are.trailer in
    let none_end = not_asked section_part end_part ask only refl (end ∷ []) (end_alone end are.end_) in
    gathered ask h s e d l t end ∙ (λ i. (((((none_h i ++ filter_map ask s) ++ none_e i) ++ none_d i) ++ none_l i) ++ none_t i) ++ none_end i)
    ∙ simp append-nil refl

pub only_externals : {X : Type 0} (ask : SpelledRecord → Option X) → IsAskedOf external_part ask
    → (h s e d l t : List SpelledRecord) (end : SpelledRecord) → AreSorted h s e d l t end → filter_map ask (all_records h s e d l t end) ≡ filter_map ask e
only_externals ask only h s e d l t end are =
    let none_h = not_silent external_part ask only h are.header in
    let none_s = not_asked external_part section_part ask only refl s are.sections in
    let none_d = not_asked external_part debug_part ask only refl d are.debug in
    let none_l = not_asked external_part data_part ask only refl l are.loads in
    let none_t = not_asked external_part trailer_part ask only refl t are.trailer in
    let none_end = not_asked external_part end_part ask only refl (end ∷ []) (end_alone end are.end_) in
    gathered ask h s e d l t end ∙ (λ i. (((((none_h i ++ none_s i) ++ filter_map ask e) ++ none_d i) ++ none_l i) ++ none_t i) ++ none_end i)
    ∙ simp append-nil refl

pub only_trailer : {X : Type 0} (ask : SpelledRecord → Option X) → IsAskedOf trailer_part ask
    → (h s e d l t : List SpelledRecord) (end : SpelledRecord) → AreSorted h s e d l t end → filter_map ask (all_records h s e d l t end) ≡ filter_map ask t
only_trailer ask only h s e d l t end are =
    let none_h = not_silent trailer_part ask only h are.header in
    let none_s = not_asked trailer_part section_part ask only refl s are.sections in
    let none_e = not_asked trailer_part external_part ask only refl e are.externals in
    let none_d = not_asked trailer_part debug_part ask only refl d are.debug in
    let none_l = not_asked trailer_part data_part ask only refl l are.loads in
    let none_end = not_asked trailer_part end_part ask only refl (end ∷ []) (end_alone end are.end_) in
    gathered ask h s e d l t end ∙ (λ i. (((((none_h i ++ none_s i) ++ none_e i) ++ none_d i) ++ none_l i) ++ filter_map ask t) ++ none_end i)
    ∙ simp append-nil refl

pub only_debug : {X : Type 0} (ask : SpelledRecord → Option X) → IsAskedOf debug_part ask → (h s e d l t : List SpelledRecord) (end : SpelledRecord)
    → AreSorted h s e d l t end → filter_map ask (all_records h s e d l t end) ≡ filter_map ask d
only_debug ask only h s e d l t end are =
    let none_h = not_silent debug_part ask only h are.header in
    let none_s = not_asked debug_part section_part ask only refl s are.sections in
    let none_e = not_asked debug_part external_part ask only refl e are.externals in
    let none_l = not_asked debug_part data_part ask only refl l are.loads in
    let none_t = not_asked debug_part trailer_part ask only refl t are.trailer in
    let none_end = not_asked debug_part end_part ask only refl (end ∷ []) (end_alone end are.end_) in
    gathered ask h s e d l t end ∙ (λ i. (((((none_h i ++ none_s i) ++ none_e i) ++ filter_map ask d) ++ none_l i) ++ none_t i) ++ none_end i)
    ∙ simp append-nil refl

-- ---- sections

size_asked : (i : ℕ) (row : Record) → stands_in section_part row ≡ false → size_for i row ≡ None
size_asked i (r.SectionSize j n) h = cc
size_asked i row h = refl

alignment_asked : (i : ℕ) (row : Record) → stands_in section_part row ≡ false → alignment_for i row ≡ None
alignment_asked i (r.Alignment j n other) h = cc
alignment_asked i row h = refl

base_asked : (i : ℕ) (row : Record) → stands_in section_part row ≡ false → base_for i row ≡ None
base_asked i (r.SectionBase j n) h = cc
base_asked i row h = refl

section_asked : (part : List SpelledRecord) (p : SpelledRecord) (row : Record) → stands_in section_part row ≡ false → section_by part p row ≡ None
section_asked part p (r.SectionType i absolute letter name a b c) h = cc
section_asked part p row h = refl

section_same : (all s : List SpelledRecord) → ((i : ℕ) → answers (size_for i) all ≡ answers (size_for i) s)
    → ((i : ℕ) → answers (alignment_for i) all ≡ answers (alignment_for i) s)
    → ((i : ℕ) → answers (base_for i) all ≡ answers (base_for i) s) → (p : SpelledRecord) (row : Record) → section_by all p row ≡ section_by s p row
section_same all s sizes alignments bases p (r.SectionType i absolute letter name a b c) = (λ k. Some (record {
  name = text_in p name;
  absolute = absolute;
  purpose = option_map purpose_of letter;
  size = unwrap_or (slice_get (sizes i k) 0) 0;
  align = unwrap_or (slice_get (alignments i k) 0) 1;
  base = slice_get (bases i k) 0;
}))
section_same all s sizes alignments bases p row = refl

pub same_sections : (h s e d l t : List SpelledRecord) (end : SpelledRecord) → AreSorted h s e d l t end → sections_of (all_records h s e d l t end)
    ≡ sections_of s
same_sections h s e d l t end are =
    let all = all_records h s e d l t end in
    let same = section_same all s (λ i. only_sections (λ p. size_for i p.row) (λ p x. size_asked i p.row x) h s e d l t end are)
    (λ i. only_sections (λ p. alignment_for i p.row) (λ p x. alignment_asked i p.row x) h s e d l t end are)
    (λ i. only_sections (λ p. base_for i p.row) (λ p x. base_asked i p.row x) h s e d l t end are) in
    only_sections (λ p. section_by all p p.row) (λ p x. section_asked all p p.row x) h s e d l t end are ∙ (λ k. filter_map (λ p. same p p.row k) s)

-- ---- indexes

pub section_declared : (row : Record) → stands_in section_part row ≡ false → of_kind section (declared_by row) ≡ None
section_declared (r.SectionType i absolute letter name a b c) h = cc
section_declared row h = refl

pub public_declared : (row : Record) → stands_in external_part row ≡ false → of_kind public (declared_by row) ≡ None
public_declared (r.PublicName i name) h = cc
public_declared row h = refl

pub reference_declared : (row : Record) → stands_in external_part row ≡ false → of_kind reference (declared_by row) ≡ None
reference_declared (r.ReferenceName i name) h = cc
reference_declared row h = refl

pub debug_declared : (row : Record) → stands_in debug_part row ≡ false → of_kind debug_name (declared_by row) ≡ None
debug_declared (r.DebugName i name) h = cc
debug_declared row h = refl

pub same_indexes : (h s e d l t : List SpelledRecord) (end : SpelledRecord) → AreSorted h s e d l t end
    → indexes_in (all_records h s e d l t end) ≡ record {
      sections = declared section s;
      publics = declared public e;
      references =
          declared reference e;
      debug_names = declared debug_name d;
    }
same_indexes h s e d l t end are =
    let a = only_sections (λ p. of_kind section (declared_by p.row)) (λ p x. section_declared p.row x) h s e d l t end are in
    let b = only_externals (λ p. of_kind public (declared_by p.row)) (λ p x. public_declared p.row x) h s e d l t end are in
    let c = only_externals (λ p. of_kind reference (declared_by p.row)) (λ p x. reference_declared p.row x) h s e d l t end are in
    let names = only_debug (λ p. of_kind debug_name (declared_by p.row)) (λ p x. debug_declared p.row x) h s e d l t end are in
    (λ k. record { sections = a k; publics = b k; references = c k; debug_names = names k })

-- ---- names

public_note_asked : (i : ℕ) (row : Record) → stands_in external_part row ≡ false → public_note_for i row ≡ None
public_note_asked i (r.PublicNote j type_index attribute ns) h = cc
public_note_asked i row h = refl

reference_note_asked : (i : ℕ) (row : Record) → stands_in external_part row ≡ false → reference_note_for i row ≡ None
reference_note_asked i (r.ReferenceNote j type_index attribute ns) h = cc
reference_note_asked i row h = refl

weak_asked : (i : ℕ) (row : Record) → stands_in external_part row ≡ false → weak_for i row ≡ None
weak_asked i (r.WeakReference j n default) h = cc
weak_asked i row h = refl

value_asked : (i : ℕ) (p : SpelledRecord) (row : Record) → stands_in external_part row ≡ false → value_for i p row ≡ None
value_asked i p (r.PublicValue j value) h = cc
value_asked i p row h = refl

public_asked : (ix : Indexes) (part : List SpelledRecord) (p : SpelledRecord) (row : Record) → stands_in external_part row ≡ false
    → public_by ix part p row ≡ None
public_asked ix part p (r.PublicName i name) h = cc
public_asked ix part p row h = refl

reference_asked : (part : List SpelledRecord) (p : SpelledRecord) (row : Record) → stands_in external_part row ≡ false → reference_by part p row ≡ None
reference_asked part p (r.ReferenceName i name) h = cc
reference_asked part p row h = refl

public_same : (ix : Indexes) (all e : List SpelledRecord) → ((i : ℕ) → filter_map (λ q. value_for i q q.row) all
    ≡ filter_map (λ q. value_for i q q.row) e) → ((i : ℕ) → answers (public_note_for i) all ≡ answers (public_note_for i) e)
    → (p : SpelledRecord) (row : Record) → public_by ix all p row ≡ public_by ix e p row
public_same ix all e values notes p (r.PublicName i name) = (λ k. Some
    (record { name = text_in p name; value = positioned ix (unwrap_or (slice_get (values i k) 0) (number 0)); notes = notes i k }))
public_same ix all e values notes p row = refl

reference_same : (all e : List SpelledRecord) → ((i : ℕ) → answers (weak_for i) all ≡ answers (weak_for i) e)
    → ((i : ℕ) → answers (reference_note_for i) all ≡ answers (reference_note_for i) e)
    → (p : SpelledRecord) (row : Record) → reference_by all p row ≡ reference_by e p row
reference_same all e weaks notes p (r.ReferenceName i name) = (λ k. Some (record { name = text_in p name; weak = slice_get (weaks i k) 0; notes = notes i k }))
reference_same all e weaks notes p row = refl

pub same_publics : (ix : Indexes) (h s e d l t : List SpelledRecord) (end : SpelledRecord) → AreSorted h s e d l t end
    → publics_of ix (all_records h s e d l t end) ≡ publics_of ix e
same_publics ix h s e d l t end are =
    let all = all_records h s e d l t end in
    let same = public_same ix all e (λ i. only_externals (λ p. value_for i p p.row) (λ p x. value_asked i p p.row x) h s e d l t end are)
    (λ i. only_externals (λ p. public_note_for i p.row) (λ p x. public_note_asked i p.row x) h s e d l t end are) in
    only_externals (λ p. public_by ix all p p.row) (λ p x. public_asked ix all p p.row x) h s e d l t end are ∙ (λ k. filter_map (λ p. same p p.row k) e)

pub same_references : (h s e d l t : List SpelledRecord) (end : SpelledRecord) → AreSorted h s e d l t end
    → references_of (all_records h s e d l t end) ≡ references_of e
same_references h s e d l t end are =
    let all = all_records h s e d l t end in
    let same = reference_same all e (λ i. only_externals (λ p. weak_for i p.row) (λ p x. weak_asked i p.row x) h s e d l t end are)
    (λ i. only_externals (λ p. reference_note_for i p.row) (λ p x. reference_note_asked i p.row x) h s e d l t end are) in
    only_externals (λ p. reference_by all p p.row) (λ p x. reference_asked all p p.row x) h s e d l t end are ∙ (λ k. filter_map (λ p. same p p.row k) e)

-- ---- debug items and the start

mark_asked : (ix : Indexes) (p : SpelledRecord) (row : Record) → stands_in debug_part row ≡ false → mark_by ix p row ≡ None
mark_asked ix p (r.BlockBegin kind n name block) h = cc
mark_asked ix p (r.BlockEnd value) h = cc
mark_asked ix p (r.DebugName i name) h = cc
mark_asked ix p (r.DebugValue i value) h = cc
mark_asked ix p (r.DebugNote i type_index attribute ns) h = cc
mark_asked ix p row h = refl

start_asked : (ix : Indexes) (p : SpelledRecord) (row : Record) → stands_in trailer_part row ≡ false → start_by ix p row ≡ None
start_asked ix p (r.Start value) h = cc
start_asked ix p row h = refl

pub same_marks : (ix : Indexes) (h s e d l t : List SpelledRecord) (end : SpelledRecord) → AreSorted h s e d l t end
    → marks ix (all_records h s e d l t end) ≡ marks ix d
same_marks ix h s e d l t end are = only_debug (λ p. mark_by ix p p.row) (λ p x. mark_asked ix p p.row x) h s e d l t end are

pub same_starts : (ix : Indexes) (h s e d l t : List SpelledRecord) (end : SpelledRecord) → AreSorted h s e d l t end
    → starts_of ix (all_records h s e d l t end) ≡ starts_of ix t
same_starts ix h s e d l t end are = only_trailer (λ p. start_by ix p p.row) (λ p x. start_asked ix p p.row x) h s e d l t end are

-- ---- loads

load_asked : (ix : Indexes) (p : SpelledRecord) (items : List Item) (row : Record) → stands_in data_part row ≡ false → loads_by ix p items row ≡ []
load_asked ix p items (r.SetSection i) h = cc
load_asked ix p items (r.SetPc i value) h = cc
load_asked ix p items (r.Constant run) h = cc
load_asked ix p items r.Relocate h = cc
load_asked ix p items (r.RepeatConstant times run) h = cc
load_asked ix p items (r.RepeatRelocate times) h = cc
load_asked ix p items row h = refl

item_asked : (ix : Indexes) (maus : ℕ) (p : SpelledRecord) (row : Record) → stands_in data_part row ≡ false → item_by ix maus p row ≡ None
item_asked ix maus p (r.ConstantItem run) h = cc
item_asked ix maus p (r.FieldItem kind value n) h = cc
item_asked ix maus p row h = refl

-- no record is one of the data part
abbrev NoLoads : List SpelledRecord → Type 0
NoLoads records = list_all (λ p. not (stands_in data_part p.row)) records ≡ true

not-true : (b : Bool) → not b ≡ true → b ≡ false
not-true true h = cc
not-true false h = refl

no_items : (ix : Indexes) (maus : ℕ) (records : List SpelledRecord) → NoLoads records → items_at_prefix ix maus records ≡ []
no_items ix maus [] h = refl
no_items ix maus (p ∷ records) h =
    let both = and_parts (not (stands_in data_part p.row)) _ h in
    rw (item_asked ix maus p p.row (not-true (stands_in data_part p.row) both.0)) refl

no_loads : (ix : Indexes) (maus : ℕ) (records : List SpelledRecord) → NoLoads records → loads_of ix maus records ≡ []
no_loads ix maus [] h = refl
no_loads ix maus (p ∷ records) h =
    let both = and_parts (not (stands_in data_part p.row)) _ h in
    (λ i. load_asked ix p (items_at_prefix ix maus records) p.row (not-true (stands_in data_part p.row) both.0) i ++ no_loads ix maus records both.1 i)

before_loads : (ix : Indexes) (maus : ℕ) (a b : List SpelledRecord) → NoLoads a → loads_of ix maus (a ++ b) ≡ loads_of ix maus b
before_loads ix maus [] b h = refl
before_loads ix maus (p ∷ a) b h =
    let both = and_parts (not (stands_in data_part p.row)) _ h in
    (λ i. load_asked ix p (items_at_prefix ix maus (a ++ b)) p.row (not-true (stands_in data_part p.row) both.0) i ++ before_loads ix maus a b both.1 i)

items_before : (ix : Indexes) (maus : ℕ) (a b : List SpelledRecord) → NoLoads b → items_at_prefix ix maus (a ++ b) ≡ items_at_prefix ix maus a
items_before ix maus [] b h = no_items ix maus b h
items_before ix maus (p ∷ a) b h = rw (items_before ix maus a b h) refl

loads_before : (ix : Indexes) (maus : ℕ) (a b : List SpelledRecord) → NoLoads b → loads_of ix maus (a ++ b) ≡ loads_of ix maus a
loads_before ix maus [] b h = no_loads ix maus b h
loads_before ix maus (p ∷ a) b h = (λ i. loads_by ix p (items_before ix maus a b h i) p.row ++ loads_before ix maus a b h i)

none_of : (other : Part) → (5 == number_of other) ≡ false → (records : List SpelledRecord) → list_all (λ p. stands_in other p.row) records ≡ true
    → NoLoads records
none_of other differ [] h = refl
none_of other differ (p ∷ records) h =
    let both = and_parts (stands_in other p.row) _ h in
    (λ i. not (other_part data_part other (part_of p.row) differ both.0 i) && none_of other differ records both.1 i)

none_silent : (records : List SpelledRecord) → IsSilent records → NoLoads records
none_silent [] h = refl
none_silent (p ∷ records) h = let both = and_parts (is_none (part_of p.row)) _ h in
    (λ i. not (unplaced data_part (part_of p.row) both.0 i) && none_silent records both.1 i)

no_loads-append : (a b : List SpelledRecord) → NoLoads a → NoLoads b → NoLoads (a ++ b)
no_loads-append [] b x y = y
no_loads-append (p ∷ a) b x y = let both = and_parts (not (stands_in data_part p.row)) _ x in (λ i. both.0 i && no_loads-append a b both.1 y i)

pub same_loads : (ix : Indexes) (maus : ℕ) (h s e d l t : List SpelledRecord) (end : SpelledRecord) → AreSorted h s e d l t end
    → loads_of ix maus (all_records h s e d l t end) ≡ loads_of ix maus l
same_loads ix maus h s e d l t end are =
    let named = no_loads-append (h ++ s) e (no_loads-append h s (none_silent h are.header) (none_of section_part refl s are.sections))
    (none_of external_part refl e are.externals) in
    let prefix = no_loads-append ((h ++ s) ++ e) d named (none_of debug_part refl d are.debug) in
    let back = none_of trailer_part refl t are.trailer in
    let last = none_of end_part refl (end ∷ []) (end_alone end are.end_) in
    loads_before ix maus (((((h ++ s) ++ e) ++ d) ++ l) ++ t) (end ∷ []) last ∙ loads_before ix maus ((((h ++ s) ++ e) ++ d) ++ l) t back
    ∙ before_loads ix maus (((h ++ s) ++ e) ++ d) l prefix
