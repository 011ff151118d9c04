-- The entries of a valid module are within the bounds of the written form.
use Rattle.std.proofs.Common.{◌≡◌, ℕ, ◌+◌, ◌^◌, ◌<◌, ◌≤◌, Bool, true, false, ◌||◌, not, cond, nat_lt, List, [], ◌∷◌, length, sum_by, Option, Some}
use Rattle.std.proofs.Common.{None, refl, arith}
use Rattle.std.specs.Prelude.{All, IfSome, is_none, option_and_then}
use Rattle.std.specs.List.{AllByRecursion, find, list_any}
use Rattle.std.proofs.lemmas.Bool.{or_parts, leb-false, ltb-true}
use Rattle.std.proofs.lemmas.List.Elements.{recursion_from_All}
use Rattle.std.proofs.lemmas.List.Sums.{sum_by-cons}
use Rattle.mufom_expr.specs.Tree.{Tree}
use Rattle.mufom_records.specs.Fields.{is_one_of}
use Rattle.mufom_records.specs.Layouts.{debug_attributes}
use Rattle.mufom_sections.specs.declared.section.Section.{Section}
use Rattle.mufom_names.specs.declared.name.Note.{Note}
use Rattle.mufom_names.specs.declared.name.Weak.{Weak}
use Rattle.mufom_names.specs.declared.name.Public.{Public}
use Rattle.mufom_names.specs.declared.name.Reference.{Reference}
use Rattle.mufom_loads.specs.declared.load.Item.{Item}
use Rattle.mufom_loads.specs.declared.load.Item.TheVariants.{Literal, Field}
use Rattle.mufom_loads.specs.declared.load.Load.{Load}
use Rattle.mufom_loads.specs.declared.load.Load.TheVariants.{SetSection, SetPc, One, Repeat}
use Rattle.mufom_debug.specs.declared.item.BlockHead.{BlockHead}
use Rattle.mufom_debug.specs.declared.item.BlockHead.TheVariants as heads
use Rattle.mufom_debug.specs.Marks.{DebugMark, block_begin, block_end, name_mark, note_mark, value_mark, marks_of, offset_of}
use Rattle.mufom_module.specs.declared.module.Parts.{Parts}
use Rattle.mufom_module.specs.declared.module.Defect.TheVariants as d
use Rattle.mufom_module.specs.Contents.{any_of, any_item, item_any, placed_loads}
use Rattle.mufom_module.specs.Weights.{section_weight, public_weight, reference_weight, mark_weight}
use Rattle.mufom_module.specs.Written.{weight, shortest}
use Rattle.mufom_module.specs.Written as w
use Rattle.mufom_module.specs.Made.{IsNumber, IsMadeTree, IsMadeSection, IsMadeNote, IsMadeWeak, IsMadePublic, IsMadeReference, IsMadeItem}
use Rattle.mufom_module.specs.Made.{IsMadeLoad, IsMadeHead, IsMadeMark, IsMade}
use Rattle.mufom_module.specs.Defects.{is_long, has_long_name, counts_of, names_outside, has_bad_place, loads_nowhere, names_no_section}
use Rattle.mufom_module.specs.Defects.{names_bad_section, has_bad_mark, declared_after, has_unknown_attribute, is_long_literal, has_bad_size}
use Rattle.mufom_module.specs.Defects.{has_defect, defects, IsValid}
use Rattle.mufom_module.proofs.WeightLaws.{weight-sum}
use Rattle.mufom_module.proofs.Valid.{weighs_less}
use Rattle.mufom_write.proofs.Shorter.{eight-offsets}
use Rattle.mufom_write.proofs.Placing.{places-fit, offsets-fit}
use Rattle.mufom_write.proofs.CutFile.{IsFittingModule}
use Rattle.mufom_write.proofs.Rows.{IsSpelledNote}
use Rattle.mufom_write.proofs.Indexed.{AreFew, IsFittingTree, fitting}
use Rattle.mufom_write.proofs.SectionRecords.{IsFittingSection}
use Rattle.mufom_write.proofs.NameRecords.{IsFittingPublic, IsFittingReference}
use Rattle.mufom_write.proofs.DebugRecords.{IsFittingHead, IsFittingEnd, AreFittingMarks}
use Rattle.mufom_write.proofs.LoadRecords.{IsFittingItem, IsFittingLoad, IsFittingStart}

-- ---- lists

missed-first : {X : Type 0} (b : Bool) (x : X) (rest : Option X) → cond b (Some x) rest ≡ None → (b ≡ false) × (rest ≡ None)
missed-first true x rest h = cc
missed-first false x rest h = (refl, h)

missed : {X : Type 0} (test : X → Bool) (xs : List X) → find test xs ≡ None → AllByRecursion (λ x. test x ≡ false) xs
missed test [] h = tt
missed test (x ∷ xs) h = let first = missed-first (test x) x (find test xs) h in (first.0, missed test xs first.1)

none-of : {X : Type 0} (test : X → Bool) (xs : List X) → list_any test xs ≡ false → AllByRecursion (λ x. test x ≡ false) xs
none-of test [] h = tt
none-of test (x ∷ xs) h = let parts = or_parts (test x) (list_any test xs) h in (parts.0, none-of test xs parts.1)

zipped : {X : Type 0} (P Q R : X → Type 0) (xs : List X) → ((x : X) → P x → Q x → R x) → AllByRecursion P xs → AllByRecursion Q xs → AllByRecursion R xs
zipped P Q R [] both ps qs = tt
zipped P Q R (x ∷ xs) both ps qs = (both x ps.0 qs.0, zipped P Q R xs both ps.1 qs.1)

mapped : {X : Type 0} (P R : X → Type 0) (xs : List X) → ((x : X) → P x → R x) → AllByRecursion P xs → AllByRecursion R xs
mapped P R [] each ps = tt
mapped P R (x ∷ xs) each ps = (each x ps.0, mapped P R xs each ps.1)

by_recursion : {X : Type 0} (P : X → Type 0) (xs : List X) → All P xs → AllByRecursion P xs
by_recursion P xs all = recursion_from_All P xs all

none-of-option : {X : Type 0} (test : X → Bool) (x : X) → any_of test (Some x) ≡ false → test x ≡ false
none-of-option test x h = h

-- ---- how many entries there are

section-weighs : (s : Section) → 1 ≤ section_weight s
section-weighs s = omega arith

public-weighs : (p : Public) → 1 ≤ public_weight p
public-weighs p = omega arith

reference-weighs : (r : Reference) → 1 ≤ reference_weight r
reference-weighs r = omega arith

mark-weighs : (mark : DebugMark) → 1 ≤ mark_weight mark
mark-weighs (block_begin head name) = omega arith
mark-weighs (block_end end) = omega arith
mark-weighs (name_mark name) = omega arith
mark-weighs (note_mark name note) = omega arith
mark-weighs (value_mark name value) = omega arith

all-weigh : {X : Type 0} (weigh : X → ℕ) (xs : List X) → ((x : X) → 1 ≤ weigh x) → length xs ≤ sum_by weigh xs
all-weigh weigh [] each = omega arith
all-weigh weigh (x ∷ xs) each =
    let own = each x in
    let rest = all-weigh weigh xs each in
    let sum = sum_by-cons weigh x xs in
    omega (arith, own, rest, sum)

pub few-entries : (m : Parts) → IsValid m → AreFew m
few-entries m valid =
    let sum = weight-sum m in
    let less = weighs_less m valid in
    let s = all-weigh section_weight m.sections section-weighs in
    let p = all-weigh public_weight m.names.publics public-weighs in
    let r = all-weigh reference_weight m.names.references reference-weighs in
    record { sections = omega (arith, sum, less, s); publics = omega (arith, sum, less, p); references = omega (arith, sum, less, r) }

pub few-marks : (m : Parts) → IsValid m → length (marks_of m.debug) + 32 ≤ 2 ^ 32
few-marks m valid =
    let sum = weight-sum m in
    let less = weighs_less m valid in
    let d = all-weigh mark_weight (marks_of m.debug) mark-weighs in
    omega (arith, sum, less, d)

-- ---- entries

tree-fits : (m : Parts) (tree : Tree) → AreFew m → IsMadeTree tree → names_outside (counts_of m) tree ≡ false → IsFittingTree tree
tree-fits m tree few made inside = fitting m tree few made.0 made.1 inside

section-fits : (s : Section) → IsMadeSection s → is_long s.name ≡ false → IsFittingSection s
section-fits s made short = record { short = short; name = made.name; size = made.size; align = made.align; base = made.base }

note-fits : (n : Note) → IsMadeNote n → IsSpelledNote n
note-fits n made = record {
  type_index = made.type_index;
  attribute = made.attribute;
  few = made.few;
  numbers =
      by_recursion IsNumber n.numbers.items made.numbers;
}

notes-fit : (notes : List Note) → All IsMadeNote notes → AllByRecursion IsSpelledNote notes
notes-fit notes made = mapped IsMadeNote IsSpelledNote notes note-fits (by_recursion IsMadeNote notes made)

public-fits : (m : Parts) (p : Public) → AreFew m → IsMadePublic p → is_long p.name ≡ false → names_outside (counts_of m) p.value ≡ false → IsFittingPublic p
public-fits m p few made short inside = record {
  short = short;
  name = made.name;
  value = tree-fits m p.value few made.value inside;
  notes =
      notes-fit p.notes made.notes;
}

weak-fits : (weak : Option Weak) → IfSome weak IsMadeWeak → IfSome weak (λ weak. (weak.size < 2 ^ 64) × (weak.default < 2 ^ 64))
weak-fits None made = tt
weak-fits (Some weak) made = made

reference-fits : (r : Reference) → IsMadeReference r → is_long r.name ≡ false → IsFittingReference r
reference-fits r made short = record { short = short; name = made.name; weak = weak-fits r.weak made.weak; notes = notes-fit r.notes made.notes }

-- ---- debug marks

head-fits : (m : Parts) (head : BlockHead) → AreFew m → IsMadeHead head → names_bad_section (counts_of m) head ≡ false
    → any_of (names_outside (counts_of m)) (offset_of head) ≡ false → IsFittingHead head
head-fits m heads.Module few made known inside = tt
head-fits m (heads.Global stack type_index offset) few made known inside = (made.0, made.1, tree-fits m offset few made.2 inside)
head-fits m (heads.Source numbers) few made known inside = (made.0, by_recursion IsNumber numbers.items made.1)
head-fits m (heads.Local stack type_index offset) few made known inside = (made.0, made.1, tree-fits m offset few made.2 inside)
head-fits m (heads.Section section_type section offset) few made known inside =
    let within = leb-false (length m.sections) section known in
    (made.0, omega (arith, within, few.sections), tree-fits m offset few made.2 inside)

end-fits : (m : Parts) (value : Option Tree) → AreFew m → IfSome value IsMadeTree → any_of (names_outside (counts_of m)) value ≡ false → IsFittingEnd value
end-fits m None few made inside = tt
end-fits m (Some value) few made inside = tree-fits m value few made inside

known-attribute : (attribute : ℕ) → not (is_one_of debug_attributes attribute) ≡ false → is_one_of debug_attributes attribute ≡ true
known-attribute attribute h = unless (is_one_of debug_attributes attribute) h where
  unless : (b : Bool) → not b ≡ false → b ≡ true
  unless true h = refl
  unless false h = cc

-- how many names are declared after a mark that is sound, and after those after it
pub first-declared : (b : Bool) (n : ℕ) (rest : ℕ → Option ℕ) → is_none (option_and_then rest (cond b (Some n) None)) ≡ false → (b ≡ true)
    × (is_none (rest n) ≡ false)
first-declared true n rest h = (refl, h)
first-declared false n rest h = cc

-- a mark breaks none of the rules on its name, its places and its attribute
record IsSound (m : Parts) (mark : DebugMark) : Type 0 where
  made : IsMadeMark mark
  short : has_long_name mark ≡ false
  inside : has_bad_mark (counts_of m) mark ≡ false
  known : has_unknown_attribute mark ≡ false

marks-fit : (m : Parts) (n : ℕ) (marks : List DebugMark) → AreFew m → n + length marks + 32 ≤ 2 ^ 32 → AllByRecursion (IsSound m) marks
    → is_none (declared_after n marks) ≡ false → AreFittingMarks n marks
marks-fit m n [] few count sound declared = tt
marks-fit m n (block_begin head name ∷ marks) few count sound declared =
    let parts = or_parts (names_bad_section (counts_of m) head) (any_of (names_outside (counts_of m)) (offset_of head)) sound.0.inside in
    ((sound.0.short, sound.0.made.1, head-fits m head few sound.0.made.0 parts.0 parts.1), marks-fit m n marks few (omega (arith, count)) sound.1 declared)
marks-fit m n (block_end value ∷ marks) few count sound declared =
    (end-fits m value few sound.0.made sound.0.inside, marks-fit m n marks few (omega (arith, count)) sound.1 declared)
marks-fit m n (name_mark name ∷ marks) few count sound declared =
    ((sound.0.short, sound.0.made, omega (arith, count)), marks-fit m (n + 1) marks few (omega (arith, count)) sound.1 declared)
marks-fit m n (note_mark name its ∷ marks) few count sound declared =
    let step = first-declared (nat_lt name n) n (λ k. declared_after k marks) declared in
    let within = ltb-true name n step.0 in (
      (omega (arith, within, count), note-fits its sound.0.made.1, known-attribute its.attribute sound.0.known),
      marks-fit m n marks few (omega (arith, count)) sound.1 step.1,
    )
marks-fit m n (value_mark name value ∷ marks) few count sound declared =
    let step = first-declared (nat_lt name n) n (λ k. declared_after k marks) declared in
    let within = ltb-true name n step.0 in
    ((omega (arith, within, count), tree-fits m value few sound.0.made.1 sound.0.inside), marks-fit m n marks few (omega (arith, count)) sound.1 step.1)

-- ---- loads

record IsSoundItem (m : Parts) (item : Item) : Type 0 where
  made : IsMadeItem item
  short : is_long_literal item ≡ false
  sized : has_bad_size item ≡ false
  inside : item_any (names_outside (counts_of m)) item ≡ false

item-fits : (m : Parts) (item : Item) → AreFew m → IsSoundItem m item → IsFittingItem item
item-fits m (Literal bytes) few sound = (sound.short, sound.made)
item-fits m (Field kind size value) few sound = let below = sound.made.1 in (tree-fits m value few sound.made.0 sound.inside, omega (arith, below), sound.sized)

items-sound : (m : Parts) (items : List Item) → AllByRecursion IsMadeItem items → list_any is_long_literal items ≡ false → list_any has_bad_size items ≡ false
    → list_any (item_any (names_outside (counts_of m))) items ≡ false → AllByRecursion (IsSoundItem m) items
items-sound m [] made short sized inside = tt
items-sound m (item ∷ items) made short sized inside =
    let shorts = or_parts (is_long_literal item) (list_any is_long_literal items) short in
    let sizes = or_parts (has_bad_size item) (list_any has_bad_size items) sized in
    let insides = or_parts (item_any (names_outside (counts_of m)) item) (list_any (item_any (names_outside (counts_of m))) items) inside in
    (record { made = made.0; short = shorts.0; sized = sizes.0; inside = insides.0 }, items-sound m items made.1 shorts.1 sizes.1 insides.1)

load-fits : (m : Parts) (load : Load) → AreFew m → IsMadeLoad load → has_bad_place (counts_of m) load ≡ false → any_item is_long_literal load ≡ false
    → any_item has_bad_size load ≡ false → IsFittingLoad load
load-fits m (SetSection section) few made inside short sized =
    let within = leb-false (length m.sections) section (or_parts (names_no_section (counts_of m) (SetSection section)) false inside).0 in
    omega (arith, within, few.sections)
load-fits m (SetPc section value) few made inside short sized =
    let parts = or_parts (names_no_section (counts_of m) (SetPc section value)) (names_outside (counts_of m) value) inside in
    let within = leb-false (length m.sections) section parts.0 in
    (omega (arith, within, few.sections), tree-fits m value few made.1 parts.1)
load-fits m (One item) few made inside short sized = item-fits m item few (record { made = made; short = short; sized = sized; inside = inside })
load-fits m (Repeat count items) few made inside short sized = (
  made.0,
  mapped (IsSoundItem m) IsFittingItem items (λ item. item-fits m item few)
      (items-sound m items (by_recursion IsMadeItem items made.1) short sized inside),
)

loads-fit : (m : Parts) (loads : List Load) → AreFew m → AllByRecursion IsMadeLoad loads → list_any (has_bad_place (counts_of m)) loads ≡ false
    → list_any (any_item is_long_literal) loads ≡ false
    → list_any (any_item has_bad_size) loads ≡ false → AllByRecursion IsFittingLoad loads
loads-fit m [] few made inside short sized = tt
loads-fit m (load ∷ loads) few made inside short sized =
    let insides = or_parts (has_bad_place (counts_of m) load) (list_any (has_bad_place (counts_of m)) loads) inside in
    let shorts = or_parts (any_item is_long_literal load) (list_any (any_item is_long_literal) loads) short in
    let sizes = or_parts (any_item has_bad_size load) (list_any (any_item has_bad_size) loads) sized in
    (load-fits m load few made.0 insides.0 shorts.0 sizes.0, loads-fit m loads few made.1 insides.1 shorts.1 sizes.1)

start-fits : (m : Parts) (start : Option Tree) → AreFew m → IfSome start IsMadeTree → any_of (names_outside (counts_of m)) start ≡ false → IsFittingStart start
start-fits m None few made inside = tt
start-fits m (Some value) few made inside = tree-fits m value few made inside

-- ---- a module

sounds : (m : Parts) (marks : List DebugMark) → AllByRecursion IsMadeMark marks → list_any has_long_name marks ≡ false
    → list_any (has_bad_mark (counts_of m)) marks ≡ false
    → list_any has_unknown_attribute marks ≡ false → AllByRecursion (IsSound m) marks
sounds m [] made short inside known = tt
sounds m (mark ∷ marks) made short inside known =
    let shorts = or_parts (has_long_name mark) (list_any has_long_name marks) short in
    let insides = or_parts (has_bad_mark (counts_of m) mark) (list_any (has_bad_mark (counts_of m)) marks) inside in
    let knowns = or_parts (has_unknown_attribute mark) (list_any has_unknown_attribute marks) known in
    (record { made = made.0; short = shorts.0; inside = insides.0; known = knowns.0 }, sounds m marks made.1 shorts.1 insides.1 knowns.1)

-- no string of the module is long, and nothing in it names an entry outside its list
pub record IsInside (m : Parts) : Type 0 where
  pub processor : is_long m.processor ≡ false
  pub name : is_long m.name ≡ false
  pub sections : list_any (λ s. is_long s.name) m.sections ≡ false
  pub publics : list_any (λ p. is_long p.name) m.names.publics ≡ false
  pub references : list_any (λ r. is_long r.name) m.names.references ≡ false
  pub debug : list_any has_long_name (marks_of m.debug) ≡ false
  pub values : list_any (λ p. names_outside (counts_of m) p.value) m.names.publics ≡ false
  pub places : list_any (has_bad_place (counts_of m)) m.loads ≡ false
  pub marks : list_any (has_bad_mark (counts_of m)) (marks_of m.debug) ≡ false
  pub start : any_of (names_outside (counts_of m)) m.start ≡ false
  pub declared : is_none (declared_after 0 (marks_of m.debug)) ≡ false

inside : (m : Parts) → has_defect m d.LongId ≡ false → has_defect m d.Position ≡ false → IsInside m
inside m long position =
    let n = counts_of m in
    let a = or_parts (is_long m.processor) (is_long m.name || (list_any (λ s. is_long s.name) m.sections
    || (list_any (λ p. is_long p.name) m.names.publics || (list_any (λ r. is_long r.name) m.names.references
    || list_any has_long_name (marks_of m.debug))))) long in
    let b = or_parts (is_long m.name) (list_any (λ s. is_long s.name) m.sections
    || (list_any (λ p. is_long p.name) m.names.publics || (list_any (λ r. is_long r.name) m.names.references
    || list_any has_long_name (marks_of m.debug)))) a.1 in
    let c = or_parts (list_any (λ s. is_long s.name) m.sections) (list_any (λ p. is_long p.name) m.names.publics
    || (list_any (λ r. is_long r.name) m.names.references || list_any has_long_name (marks_of m.debug))) b.1 in
    let e = or_parts (list_any (λ p. is_long p.name) m.names.publics) (list_any (λ r. is_long r.name) m.names.references
    || list_any has_long_name (marks_of m.debug)) c.1 in
    let f = or_parts (list_any (λ r. is_long r.name) m.names.references) (list_any has_long_name (marks_of m.debug)) e.1 in
    let g = or_parts (list_any (λ p. names_outside n p.value) m.names.publics) (list_any (has_bad_place n) m.loads
    || (list_any (has_bad_mark n) (marks_of m.debug) || (any_of (names_outside n) m.start || is_none (declared_after 0 (marks_of m.debug))))) position in
    let h = or_parts (list_any (has_bad_place n) m.loads) (list_any (has_bad_mark n) (marks_of m.debug)
    || (any_of (names_outside n) m.start || is_none (declared_after 0 (marks_of m.debug)))) g.1 in
    let k = or_parts (list_any (has_bad_mark n) (marks_of m.debug)) (any_of (names_outside n) m.start || is_none (declared_after 0 (marks_of m.debug))) h.1 in
    let l = or_parts (any_of (names_outside n) m.start) (is_none (declared_after 0 (marks_of m.debug))) k.1 in
    record {
      processor = a.0;
      name = b.0;
      sections = c.0;
      publics = e.0;
      references = f.0;
      debug = f.1;
      values = g.0;
      places = h.0;
      marks = k.0;
      start = l.0;
      declared = l.1;
    }

pub inside_module : (m : Parts) → IsValid m → IsInside m
inside_module m valid = let none = missed (has_defect m) defects valid in inside m none.1.0 none.1.1.1.1.1.0

-- nothing is loaded before a section is set
pub loads-placed : (m : Parts) → IsValid m → list_any loads_nowhere (placed_loads m) ≡ false
loads-placed m valid = let none = missed (has_defect m) defects valid in none.1.1.1.1.1.1.1.0

publics-fit : (m : Parts) (publics : List Public) → AreFew m → AllByRecursion IsMadePublic publics → list_any (λ p. is_long p.name) publics ≡ false
    → list_any (λ p. names_outside (counts_of m) p.value) publics ≡ false → AllByRecursion IsFittingPublic publics
publics-fit m [] few made short inside = tt
publics-fit m (p ∷ publics) few made short inside =
    let shorts = or_parts (is_long p.name) (list_any (λ p. is_long p.name) publics) short in
    let insides = or_parts (names_outside (counts_of m) p.value) (list_any (λ p. names_outside (counts_of m) p.value) publics) inside in
    (public-fits m p few made.0 shorts.0 insides.0, publics-fit m publics few made.1 shorts.1 insides.1)

-- a valid module of what the types hold is within the bounds of the form
pub module-fits : (m : Parts) → IsValid m → IsMade m → IsFittingModule m
module-fits m valid made =
    let none = missed (has_defect m) defects valid in
    let its = inside_module m valid in
    let few = few-entries m valid in
    let count = few-marks m valid in
    let whole = places-fit m valid in
    let one_byte = made.maus in
    record {
      short_processor = its.processor;
      processor = made.processor;
      short_name = its.name;
      name = made.name;
      maus = omega (arith, one_byte);
      few_sections = omega (arith, few.sections);
      sections = zipped IsMadeSection (λ s. is_long s.name ≡ false) IsFittingSection m.sections section-fits
          (by_recursion IsMadeSection m.sections made.sections) (none-of (λ s. is_long s.name) m.sections its.sections);
      few_publics = few.publics;
      few_references = few.references;
      publics = publics-fit m m.names.publics few (by_recursion IsMadePublic m.names.publics made.publics) its.publics its.values;
      references = zipped IsMadeReference (λ r. is_long r.name ≡ false) IsFittingReference m.names.references reference-fits
          (by_recursion IsMadeReference m.names.references made.references) (none-of (λ r. is_long r.name) m.names.references its.references);
      debug = marks-fit m 0 (marks_of m.debug) few (omega (arith, count))
          (sounds m (marks_of m.debug) (by_recursion IsMadeMark (marks_of m.debug) made.debug) its.debug its.marks none.1.1.1.1.1.1.1.1.1.1.0) its.declared;
      loads = loads-fit m m.loads few (by_recursion IsMadeLoad m.loads made.loads) its.places none.1.1.1.1.1.1.1.1.0 none.1.1.1.1.1.1.1.1.1.0;
      start = start-fits m m.start few made.start its.start;
      offsets = by_recursion (λ offset. offset < 2 ^ 32) (w.offsets shortest m)
          (offsets-fit (w.header_length shortest m) (w.parts shortest m) (omega (arith, whole)));
      eight = eight-offsets m;
    }
