-- A list of modules has no more entries than it weighs.
use Rattle.std.proofs.Common.{◌≡◌, ℕ, ◌<◌, ◌≤◌, ◌^◌, List, [], ◌∷◌, length, map, flat_map, refl, length-append, sum_by, arith}
use Rattle.std.specs.List.{AllByRecursion}
use Rattle.std.proofs.lemmas.List.{length-map}
use Rattle.std.proofs.lemmas.List.Elements.{recursion_from_All}
use Rattle.std.proofs.lemmas.List.Sums.{sum_by-cons}
use Rattle.mufom_names.specs.declared.name.Note.{Note}
use Rattle.mufom_names.specs.declared.name.Public.{Public}
use Rattle.mufom_names.specs.declared.name.Reference.{Reference}
use Rattle.mufom_names.specs.Keys.{IsShort, IsShortNote, IsShortReference}
use Rattle.mufom_debug.specs.Marks.{DebugMark, block_begin, block_end, name_mark, note_mark, value_mark, marks_of}
use Rattle.mufom_module.specs.declared.module.Parts.{Parts}
use Rattle.mufom_module.specs.declared.module.Defect.TheVariants as kinds
use Rattle.mufom_module.specs.Defects.{IsValid}
use Rattle.mufom_module.specs.Made.{IsMadeNote, IsMadeReference, IsMade}
use Rattle.mufom_module.specs.Written.{weight}
use Rattle.mufom_module.specs.Weights.{reference_weight, note_weight, mark_weight}
use Rattle.mufom_module.proofs.WeightLaws.{weight-sum}
use Rattle.mufom_module.proofs.EntryCounts.{counted, sections-count, publics-count, references-count}
use Rattle.mufom_meaning.specs.Flat.{name_count, flat_sections, flat_references, public_names}
use Rattle.mufom_meaning.specs.StagingLaws.{total_weight}
use Rattle.mufom_numbers.proofs.Choices.{of_not_le}
use Rattle.mufom_meaning.proofs.NoDefects.{no_defect}

-- ---- entries of one module

marks-count : (marks : List DebugMark) → name_count marks ≤ sum_by mark_weight marks
marks-count [] = omega arith
marks-count (block_begin head name ∷ marks) = let a = sum_by-cons mark_weight (block_begin head name) marks in let rest = marks-count marks in
    omega (arith, a, rest)
marks-count (block_end end ∷ marks) = let a = sum_by-cons mark_weight (block_end end) marks in let rest = marks-count marks in omega (arith, a, rest)
marks-count (name_mark name ∷ marks) = let a = sum_by-cons mark_weight (name_mark name) marks in let rest = marks-count marks in omega (arith, a, rest)
marks-count (note_mark name note ∷ marks) = let a = sum_by-cons mark_weight (note_mark name note) marks in let rest = marks-count marks in
    omega (arith, a, rest)
marks-count (value_mark name t ∷ marks) = let a = sum_by-cons mark_weight (value_mark name t) marks in let rest = marks-count marks in omega (arith, a, rest)

names-count : (m : Parts) → name_count (marks_of m.debug) ≤ weight m
names-count m = let a = weight-sum m in let b = marks-count (marks_of m.debug) in omega (arith, a, b)

-- ---- entries of all modules

flat-count : {X : Type 0} (own : Parts → List X) → ((m : Parts) → length (own m) ≤ weight m) → (ms : List Parts) → length (flat_map own ms) ≤ total_weight ms
flat-count own few [] = omega arith
flat-count own few (m ∷ ms) =
    let a = length-append (own m) (flat_map own ms) in
    let b = few m in
    let c = sum_by-cons weight m ms in
    let rest = flat-count own few ms in
    omega (arith, a, b, c, rest)

pub all-sections : (ms : List Parts) → length (flat_sections ms) ≤ total_weight ms
all-sections ms = flat-count (λ m. m.sections) sections-count ms

pub all-publics : (ms : List Parts) → length (flat_map (λ m. m.names.publics) ms) ≤ total_weight ms
all-publics ms = flat-count (λ m. m.names.publics) publics-count ms

pub all-references : (ms : List Parts) → length (flat_references ms) ≤ total_weight ms
all-references ms = flat-count (λ m. m.names.references) references-count ms

pub all-names : (ms : List Parts) → sum_by (λ m. name_count (marks_of m.debug)) ms ≤ total_weight ms
all-names [] = omega arith
all-names (m ∷ ms) =
    let a = sum_by-cons (λ (q : Parts). name_count (marks_of q.debug)) m ms in
    let b = names-count m in
    let c = sum_by-cons weight m ms in
    let rest = all-names ms in
    omega (arith, a, b, c, rest)

public-names-length : (ms : List Parts) → length (public_names ms) ≡ length (flat_map (λ m. m.names.publics) ms)
public-names-length [] = refl
public-names-length (m ∷ ms) =
    let a = length-append (map (λ (p : Public). p.name) m.names.publics) (public_names ms) in
    let b = length-map m.names.publics (λ (p : Public). p.name) in
    let c = length-append m.names.publics (flat_map (λ (q : Parts). q.names.publics) ms) in
    let rest = public-names-length ms in
    omega (arith, a, b, c, rest)

pub all-public-names : (ms : List Parts) → length (public_names ms) ≤ total_weight ms
all-public-names ms = let a = public-names-length ms in let b = all-publics ms in omega (arith, a, b)

-- ---- references of a module are short enough for their keys

-- each element weighs no more than all
each-lighter : {X : Type 0} (w : X → ℕ) (xs : List X) → AllByRecursion (λ x. w x ≤ sum_by w xs) xs
each-lighter w [] = tt
each-lighter {X} w (x ∷ xs) = (here, lift xs (each-lighter w xs)) where
  here : w x ≤ sum_by w (x ∷ xs)
  here = let a = sum_by-cons w x xs in omega (arith, a)

  lift : (ys : List X) → AllByRecursion (λ y. w y ≤ sum_by w xs) ys → AllByRecursion (λ y. w y ≤ sum_by w (x ∷ xs)) ys
  lift [] h = tt
  lift (y ∷ ys) h = (let a = sum_by-cons w x xs in let b = h.0 in omega (arith, a, b), lift ys h.1)

made-notes : (notes : List Note) → AllByRecursion IsMadeNote notes → AllByRecursion IsShortNote notes
made-notes [] made = tt
made-notes (note ∷ notes) made =
    let few = made.0.few in (
      record {
        type_index = made.0.type_index;
        attribute = made.0.attribute;
        count = omega (arith, few);
        numbers =
            recursion_from_All IsShort note.numbers.items made.0.numbers;
      },
      made-notes notes made.1,
    )

short-one : (r : Reference) → reference_weight r < 2 ^ 32 → IsMadeReference r → IsShortReference r
short-one r light made =
    let notes = counted note_weight (λ note. omega arith) r.notes in
    record {
      name = omega (arith, light);
      weak = made.weak;
      count = omega (arith, light, notes);
      notes = made-notes r.notes (recursion_from_All IsMadeNote r.notes made.notes);
    }

short-all : (n : ℕ) (rs : List Reference) → n < 2 ^ 32 → AllByRecursion (λ r. reference_weight r ≤ n) rs → AllByRecursion IsMadeReference rs
    → AllByRecursion IsShortReference rs
short-all n [] bound light made = tt
short-all n (r ∷ rs) bound light made = (short-one r (let a = light.0 in omega (arith, a, bound)) made.0, short-all n rs bound light.1 made.1)

pub short-references : (m : Parts) → IsValid m → IsMade m → AllByRecursion IsShortReference m.names.references
short-references m valid made =
    let whole = weight-sum m in
    let bound : weight m < 2 ^ 32 = of_not_le (2 ^ 32) (weight m) (no_defect m valid kinds.Weight) in
    short-all (sum_by reference_weight m.names.references) m.names.references (omega (arith, whole, bound))
    (each-lighter reference_weight m.names.references) (recursion_from_All IsMadeReference m.names.references made.references)
