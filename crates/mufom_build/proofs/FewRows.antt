-- Parts with few numbers have rows with few numbers, and the other way round.
use Rattle.std.proofs.Common.{ℕ, List, [], ◌∷◌, ◌++◌, map, flat_map, Option, Some, None}
use Rattle.std.specs.List.{All, AllByRecursion}
use Rattle.std.proofs.lemmas.List.Elements.{All-nil, All-cons, All-head, All-tail}
use Rattle.mufom_expr.specs.Tree.{Tree}
use Rattle.mufom_sections.specs.declared.section.Section.{Section}
use Rattle.mufom_names.specs.declared.name.Note.{Note}
use Rattle.mufom_loads.specs.declared.load.Item.{Item}
use Rattle.mufom_loads.specs.declared.load.Item.TheVariants.{Literal, Field}
use Rattle.mufom_loads.specs.declared.load.Load.{Load}
use Rattle.mufom_loads.specs.declared.load.Load.TheVariants.{SetSection, SetPc, One, Repeat}
use Rattle.mufom_debug.specs.Marks.{DebugMark, block_begin, block_end, name_mark, note_mark, value_mark, marks_of}
use Rattle.mufom_module.specs.declared.module.Parts.{Parts}
use Rattle.mufom_build.specs.Lines.{HasFewNumbers, HasFewMarkNumbers, AreFew}
use Rattle.mufom_build.specs.Order.{State, IsFew, AreInOrder, next}
use Rattle.mufom_build.specs.Rows.{on_end, Row, extension_rows, environment_rows, section_row, note_row, named_rows, public_row, reference_row}
use Rattle.mufom_build.specs.Rows.{public_rows, reference_rows, mark_row, item_row, load_rows, start_rows, from_loads, from_marks, from_references}
use Rattle.mufom_build.specs.Rows.{from_publics, from_sections, from_environment, rows_of}
use Rattle.mufom_build.proofs.Ordering.{Ordered}

abbrev pub AreFewRows : List Row → Type 0
AreFewRows rows = AllByRecursion IsFew rows

pub few_append : (xs ys : List Row) → AreFewRows xs → AreFewRows ys → AreFewRows (xs ++ ys)
few_append [] ys few more = more
few_append (x ∷ xs) ys (here, few) more = (here, few_append xs ys few more)

few_front : (xs ys : List Row) → AreFewRows (xs ++ ys) → AreFewRows xs
few_front [] ys few = tt
few_front (x ∷ xs) ys (here, few) = (here, few_front xs ys few)

few_back : (xs ys : List Row) → AreFewRows (xs ++ ys) → AreFewRows ys
few_back [] ys few = few
few_back (x ∷ xs) ys (here, few) = few_back xs ys few

few_map : {X : Type 0} (row : X → Row) (Few : X → Type 0) → ((x : X) → Few x → IsFew (row x)) → (xs : List X) → All Few xs → AreFewRows (map row xs)
few_map row Few one [] few = tt
few_map row Few one (x ∷ xs) few = (one x (All-head Few x xs few), few_map row Few one xs (All-tail Few x xs few))

map_few : {X : Type 0} (row : X → Row) (Few : X → Type 0) → ((x : X) → IsFew (row x) → Few x) → (xs : List X) → AreFewRows (map row xs) → All Few xs
map_few row Few one [] few = All-nil Few
map_few row Few one (x ∷ xs) (here, few) = All-cons Few x xs (one x here) (map_few row Few one xs few)

-- rows of which none has numbers that are counted
all_few : {X : Type 0} (rows : X → List Row) → ((x : X) → AreFewRows (rows x)) → (xs : List X) → AreFewRows (flat_map rows xs)
all_few rows one [] = tt
all_few rows one (x ∷ xs) = few_append (rows x) (flat_map rows xs) (one x) (all_few rows one xs)

-- ---- names with notes

few_named : {X : Type 0} (row : X → Row) (notes : X → List Note) → ((x : X) → IsFew (row x)) → (xs : List X) → All (λ x. All HasFewNumbers (notes x)) xs
    → AreFewRows (flat_map (named_rows row notes) xs)
few_named row notes one [] few = tt
few_named row notes one (x ∷ xs) few = (
  one x,
  few_append (map note_row (notes x)) (flat_map (named_rows row notes) xs)
      (few_map note_row HasFewNumbers (λ note h. h) (notes x) (All-head (λ y. All HasFewNumbers (notes y)) x xs few))
      (few_named row notes one xs (All-tail (λ y. All HasFewNumbers (notes y)) x xs few)),
)

named_few : {X : Type 0} (row : X → Row) (notes : X → List Note) (xs : List X) → AreFewRows (flat_map (named_rows row notes) xs)
    → All (λ x. All HasFewNumbers (notes x)) xs
named_few row notes [] few = All-nil (λ x. All HasFewNumbers (notes x))
named_few row notes (x ∷ xs) (here, few) = All-cons (λ y. All HasFewNumbers (notes y)) x xs
    (map_few note_row HasFewNumbers (λ note h. h) (notes x) (few_front (map note_row (notes x)) (flat_map (named_rows row notes) xs) few))
    (named_few row notes xs (few_back (map note_row (notes x)) (flat_map (named_rows row notes) xs) few))

-- ---- debug items and loads

few_mark : (mark : DebugMark) → HasFewMarkNumbers mark → IsFew (mark_row mark)
few_mark (block_begin head title) few = few
few_mark (block_end end) few = tt
few_mark (name_mark title) few = tt
few_mark (note_mark place note) few = few
few_mark (value_mark place value) few = tt

mark_few : (mark : DebugMark) → IsFew (mark_row mark) → HasFewMarkNumbers mark
mark_few (block_begin head title) few = few
mark_few (block_end end) few = tt
mark_few (name_mark title) few = tt
mark_few (note_mark place note) few = few
mark_few (value_mark place value) few = tt

few_item : (item : Item) → IsFew (item_row item)
few_item (Literal bytes) = tt
few_item (Field kind size value) = tt

few_items : (items : List Item) → AreFewRows (map item_row items)
few_items [] = tt
few_items (item ∷ items) = (few_item item, few_items items)

few_load : (load : Load) → AreFewRows (load_rows load)
few_load (SetSection place) = (tt, tt)
few_load (SetPc place value) = (tt, tt)
few_load (One item) = (few_item item, tt)
few_load (Repeat times items) = (tt, few_append (map item_row items) ((on_end, None) ∷ []) (few_items items) (tt, tt))

few_start : (value : Option Tree) → AreFewRows (start_rows value)
few_start None = tt
few_start (Some value) = (tt, tt)

few_extension : (bytes : List ℕ) → AreFewRows (extension_rows bytes)
few_extension [] = tt
few_extension (b ∷ bytes) = (tt, tt)

few_environment : (bytes : List ℕ) → AreFewRows (environment_rows bytes)
few_environment [] = tt
few_environment (b ∷ bytes) = (tt, tt)

few_sections : (sections : List Section) → AreFewRows (map section_row sections)
few_sections [] = tt
few_sections (s ∷ sections) = (tt, few_sections sections)

-- ---- the module

pub rows_few : (m : Parts) → AreFew m → AreFewRows (rows_of m)
rows_few m few = (
  tt,
  few_append (extension_rows m.ext) (from_environment m) (few_extension m.ext)
      (few_append (environment_rows m.env) (from_sections m) (few_environment m.env)
      (few_append (map section_row m.sections) (from_publics m) (few_sections m.sections)
      (few_append (flat_map public_rows m.names.publics) (from_references m)
      (few_named public_row (λ p. p.notes) (λ p. tt) m.names.publics few.publics)
      (few_append (flat_map reference_rows m.names.references) (from_marks m)
      (few_named reference_row (λ r. r.notes) (λ r. tt) m.names.references few.references)
      (few_append (map mark_row (marks_of m.debug)) (from_loads m) (few_map mark_row HasFewMarkNumbers few_mark (marks_of m.debug) few.debug)
      (few_append (flat_map load_rows m.loads) (start_rows m.start) (all_few load_rows few_load m.loads) (few_start m.start))))))),
)

pub parts_few : (m : Parts) → AreFewRows (rows_of m) → AreFew m
parts_few m few =
    let publics = few_back (map section_row m.sections) (from_publics m) (few_back (environment_rows m.env) (from_sections m)
    (few_back (extension_rows m.ext) (from_environment m) few.1)) in
    let references = few_back (flat_map public_rows m.names.publics) (from_references m) publics in
    let marks = few_back (flat_map reference_rows m.names.references) (from_marks m) references in
    record {
      publics = named_few public_row (λ p. p.notes) m.names.publics (few_front (flat_map public_rows m.names.publics) (from_references m) publics);
      references = named_few reference_row (λ r. r.notes) m.names.references
          (few_front (flat_map reference_rows m.names.references) (from_marks m) references);
      debug = map_few mark_row HasFewMarkNumbers mark_few (marks_of m.debug) (few_front (map mark_row (marks_of m.debug)) (from_loads m) marks);
    }

-- ---- rows that run

pub run_few : (s : State) (rows : List Row) → AreInOrder s rows → AreFewRows rows
run_few s [] run = tt
run_few s (r ∷ rows) (may, few, run) = (few, run_few (next s r) rows run)

pub few_run : (s : State) (rows : List Row) → Ordered s rows → AreFewRows rows → AreInOrder s rows
few_run s [] ordered few = tt
few_run s (r ∷ rows) (may, ordered) (here, few) = (may, here, few_run (next s r) rows ordered few)
