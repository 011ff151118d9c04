-- The absolute module of a location is within the bounds of its parts, and weighs less than 2^32.
use Rattle.std.proofs.Common.{◌≡◌, ℕ, ◌+◌, ◌*◌, ◌^◌, ◌<◌, ◌≤◌, List, [], ◌∷◌, ◌++◌, length, sum_by, None, refl, ap, subst, inl, arith, length-append}
use Rattle.std.specs.Prelude.{filter}
use Rattle.std.specs.List.{AllByRecursion}
use Rattle.std.proofs.lemmas.List.Elements.{filter-append}
use Rattle.std.proofs.lemmas.List.Sums.{sum_by-cons}
use Rattle.mufom_numbers.specs.declared.limits.TheConstants.{MOST_IMAGE_BYTES}
use Rattle.mufom_numbers.specs.Spelling.{AreBytes}
use Rattle.mufom_numbers.proofs.Choices.{some_same}
use Rattle.mufom_sections.specs.declared.section.Section.{Section}
use Rattle.mufom_names.specs.declared.name.Reference.{Reference}
use Rattle.mufom_module.specs.declared.module.Parts.{Parts}
use Rattle.mufom_module.specs.Weights.{section_weight}
use Rattle.mufom_module.specs.Written.{weight}
use Rattle.mufom_module.proofs.WeightLaws.{weight-sum}
use Rattle.mufom_plan.specs.declared.plan.Plan.{Plan}
use Rattle.mufom_meaning.specs.declared.located.LocatedParts.{LocatedParts}
use Rattle.mufom_meaning.specs.Absolute.{absolute_of}
use Rattle.mufom_meaning.specs.AddressMap.{Cell, run_cells}
use Rattle.mufom_meaning.specs.Counts.{loaded_total}
use Rattle.mufom_meaning.specs.Facts.{image_limit}
use Rattle.mufom_meaning.specs.Flat.{flat_references, flat_sections, is_common}
use Rattle.mufom_meaning.specs.LocateAnswer.{locate_answer}
use Rattle.mufom_meaning.specs.Location.{Header, IsLocation}
use Rattle.mufom_meaning.specs.LocationLaws.{asking_count}
use Rattle.mufom_meaning.specs.Staging.{AreValid}
use Rattle.mufom_meaning.specs.StagingLaws.{total_weight}
use Rattle.mufom_meaning.proofs.Members.{In}
use Rattle.mufom_meaning.proofs.absolute.Entries.{asked-lighter, asked_weight, lettered, lighter-all}
use Rattle.mufom_meaning.proofs.absolute.Rows.{sound}
use Rattle.mufom_meaning.proofs.absolute.Sound.{IsSoundLocation}
use Rattle.mufom_meaning.proofs.absolute.Weight.{absolute_weighs}
use Rattle.mufom_meaning.proofs.facts.AllAnswers.{answers_are_facts}
use Rattle.mufom_bounds.specs.Bounded.{IsBounded}
use Rattle.mufom_bounds.proofs.LocatedLoads.{IsByteCell, located-loads, plain-bytes}
use Rattle.mufom_bounds.proofs.LocatedSections.{IsMadeButBase, plain-made, sections-made}
use Rattle.mufom_bounds.proofs.LocatedValues.{marks-bounded, publics-bounded, start-bounded}

-- ---- its parts

-- what a location needs besides its values: sections within the bounds, and bytes in its runs
pub record HasBoundedContents (r : LocatedParts) : Type 0 where
  pub sections : (section : Section) → In section r.sections → IsMadeButBase section
  pub bytes : (cell : Cell) → In cell (run_cells r.runs) → IsByteCell cell

pub sound-bounded : (m : Parts) (more : List Parts) (plan : Plan) (r : LocatedParts) → AreValid (m ∷ more) → AllByRecursion IsBounded (m ∷ more)
    → IsSoundLocation (m ∷ more) plan r → HasBoundedContents r → IsBounded (absolute_of r)
sound-bounded m more plan r v are h contents =
    let header : ◌≡◌ {A = Header} (m.processor, m.name, m.maus, m.order) (r.processor, r.name, r.maus, r.order) = some_same _ _ h.first in
    let first = are.0 in
    record {
      processor = subst AreBytes (ap (λ (x : Header). x.0) header) first.processor;
      name = subst AreBytes (ap (λ (x : Header). x.1) header) first.name;
      ext = tt;
      env = tt;
      sections = sections-made m more plan v are r h contents.sections;
      publics = publics-bounded m more plan v are r h;
      references = tt;
      debug = marks-bounded m more plan v are r h;
      loads = located-loads m more plan v are r h contents.bytes;
      start = start-bounded m more plan v are r h;
    }

-- of a location without copies
pub absolute-bounded : (ms : List Parts) (plan : Plan) (r : LocatedParts) → AreValid ms → AllByRecursion IsBounded ms → IsLocation ms plan r
    → IsBounded (absolute_of r)
absolute-bounded [] plan r v are h = let none = h.first in absurd cc
absolute-bounded (m ∷ more) plan r v are h =
    sound-bounded m more plan r v are (sound m more plan r v h)
    (record { sections = plain-made (m ∷ more) plan are r h; bytes = plain-bytes (m ∷ more) plan are r h })

-- ---- its weight

times : {X : Type 0} (n : ℕ) (xs : List X) → sum_by (λ (x : X). n) xs ≡ n * length xs
times n [] = omega arith
times {X} n (x ∷ xs) = let rest = times n xs in let own = sum_by-cons (λ (x : X). n) x xs in omega (arith, rest, own)

-- what the sections of a module, and its weak references of a size above 0, weigh at least
module-heavy : (m : Parts) → 14 * length m.sections + 32 * length (filter is_common m.names.references) ≤ weight m
module-heavy m =
    let all = weight-sum m in
    let a = lighter-all (λ (s : Section). 14) section_weight (λ s. let letters = lettered s.absolute in omega (arith, letters)) m.sections in
    let b = times 14 m.sections in
    let c = lighter-all (λ (r : Reference). 32) asked_weight (λ r. omega arith) (filter is_common m.names.references) in
    let d = times 32 (filter is_common m.names.references) in
    let e = asked-lighter m.names.references in
    omega (arith, all, a, b, c, d, e)

-- what the sections of a list, and its weak references of a size above 0, weigh at least
pub list-heavy : (ms : List Parts) → 14 * length (flat_sections ms) + 32 * asking_count ms ≤ total_weight ms
list-heavy [] = omega arith
list-heavy (m ∷ ms) =
    let own = module-heavy m in
    let rest = list-heavy ms in
    let sections = length-append m.sections (flat_sections ms) in
    let asked : length (filter is_common (m.names.references ++ flat_references ms))
    ≡ length (filter is_common m.names.references ++ filter is_common (flat_references ms))
    = ap (λ (l : List Reference). length l) (filter-append is_common m.names.references (flat_references ms)) in
    let both = length-append (filter is_common m.names.references) (filter is_common (flat_references ms)) in
    let sum = sum_by-cons weight m ms in
    omega (arith, own, rest, sections, asked, both, sum)

-- no more bytes are loaded than an image has
few-loaded : (ms : List Parts) (plan : Plan) → locate_answer ms plan ≡ None → loaded_total ms ≤ MOST_IMAGE_BYTES
few-loaded ms plan none =
    let within : ¬ (MOST_IMAGE_BYTES < loaded_total ms) =
    λ past. (answers_are_facts ms plan).locate_complete none (image_limit (loaded_total ms)) (inl (refl, past)) in
    omega (arith, within)

-- the limit is what the modules of a run can weigh, with the name of a module and the symbols of a plan
pub absolute-light : (ms : List Parts) (plan : Plan) (r : LocatedParts) → AreValid ms → total_weight ms ≤ 673317020 → IsLocation ms plan r
    → weight (absolute_of r) < 2 ^ 32
absolute-light ms plan r v light h =
    let most = absolute_weighs ms plan r v h in
    let heavy = list-heavy ms in
    let few = few-loaded ms plan h.locates in
    omega (arith, most, heavy, few, light)
