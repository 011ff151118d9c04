-- What the module of located parts needs to be located as these parts, and to have no defect.
use Rattle.std.proofs.Common.{◌≡◌, ℕ, ◌≤◌, ◌⊎◌, inl, inr, List, [], map, length, Some, None, Bool, true, false, ◌||◌}
use Rattle.std.proofs.Common.{◌∙◌, ap}
use Rattle.std.specs.Prelude.{option_to_list, nat_lt, ◌==◌}
use Rattle.std.specs.List.{enumerate_from, list_any}
use Rattle.mufom_numbers.specs.declared.limits.TheConstants.{MOST_ALIGNMENT}
use Rattle.mufom_sections.specs.declared.section.Section.{Section}
use Rattle.mufom_names.specs.declared.name.Reference.{Reference}
use Rattle.mufom_debug.specs.Marks.{marks_of}
use Rattle.mufom_module.specs.declared.module.Defect.TheVariants as d
use Rattle.mufom_module.specs.declared.module.Parts.{Parts}
use Rattle.mufom_module.specs.Contents.{debug_marks}
use Rattle.mufom_module.specs.Defects.{IsValid, is_long, has_long_name, has_bad_alignment}
use Rattle.mufom_plan.specs.declared.plan.Plan.{Plan}
use Rattle.mufom_place.specs.Facts.{place_refusal}
use Rattle.mufom_meaning.specs.declared.located.LocatedParts.{LocatedParts}
use Rattle.mufom_meaning.specs.Flat.{flat_sections, flat_references, width}
use Rattle.mufom_meaning.specs.Counts.{loaded_total}
use Rattle.mufom_meaning.specs.Placed.{placed_commons, extended_sections, planned_bases}
use Rattle.mufom_meaning.specs.Readings.{readings}
use Rattle.mufom_meaning.specs.AddressMap.{Cell, run_cells, AreApart}
use Rattle.mufom_meaning.specs.Location.{first_header, located_public, located_mark}
use Rattle.mufom_meaning.specs.LinkAnswer.{link_answer}
use Rattle.mufom_meaning.specs.LocateAnswer.{locate_answer}
use Rattle.mufom_meaning.specs.Staging.{AreValid}
use Rattle.mufom_meaning.specs.Absolute.{no_regions}
use Rattle.mufom_meaning.proofs.Tests.{either_false}
use Rattle.mufom_meaning.proofs.Members.{In, In-append, flat_map-In, fails-In}
use Rattle.mufom_meaning.proofs.NoDefects.{no_defect}
use Rattle.mufom_meaning.proofs.Placed.{common_reference}
use Rattle.mufom_meaning.proofs.values.Named.{valid_module}
use Rattle.mufom_meaning.proofs.absolute.Cells.{absolute_cells}

-- the name of a section is a string, and its alignment is that of a section
pub record IsPlainSection (section : Section) : Type 0 where
  pub short : is_long section.name ≡ false
  pub aligned : has_bad_alignment section ≡ false

-- a section is absolute at a base
pub record IsAbsoluteSection (section : Section) : Type 0 where
  pub base : ℕ
  pub based : section.base ≡ Some base
  pub absolute : section.absolute ≡ true

-- Located parts have the header and the values of a list at the bases that the plan gives. Their sections, of which there are at least
-- those of the list, are absolute, fit where they are, and have all loaded bytes, which are no more than the list loads.
pub record IsSoundLocation (ms : List Parts) (plan : Plan) (r : LocatedParts) : Type 0 where
  pub links : link_answer ms ≡ None
  pub locates : locate_answer ms plan ≡ None
  pub first : first_header ms ≡ Some (r.processor, r.name, r.maus, r.order)
  pub publics : map located_public r.publics ≡ (readings ms (planned_bases ms plan)).publics
  pub start : map (λ v. Some v) (option_to_list r.start) ≡ (readings ms (planned_bases ms plan)).starts
  pub debug : map (λ mark. Some mark) (marks_of r.debug) ≡ map located_mark (readings ms (planned_bases ms plan)).debug
  pub enough : length (flat_sections ms) ≤ length r.sections
  pub absolute : (section : Section) → In section r.sections → IsAbsoluteSection section
  pub fits : place_refusal (width ms) no_regions r.sections [] ≡ None
  pub apart : AreApart 0 r.runs
  pub inside : (cell : Cell) → In cell (run_cells r.runs) → In cell (absolute_cells r.runs (enumerate_from 0 r.sections))
  pub few : length (run_cells r.runs) ≤ loaded_total ms

-- ---- sections and commons of modules without a defect are plain

-- the strings of a module after its processor and its name
abbrev pub strings_after_name : Parts → Bool
strings_after_name parts = list_any (λ s. is_long s.name) parts.sections
    || (list_any (λ p. is_long p.name) parts.names.publics
    || (list_any (λ r. is_long r.name) parts.names.references
    || list_any has_long_name (debug_marks parts)))

pub after_processor : (parts : Parts) → IsValid parts → (is_long parts.name || strings_after_name parts) ≡ false
after_processor parts valid = (either_false (is_long parts.processor) (is_long parts.name || strings_after_name parts) (no_defect parts valid d.LongId)).1

pub after_name : (parts : Parts) → IsValid parts → strings_after_name parts ≡ false
after_name parts valid = (either_false (is_long parts.name) (strings_after_name parts) (after_processor parts valid)).1

module _ (ms : List Parts) (v : AreValid ms) where
  short_reference : (ref : Reference) → In ref (flat_references ms) → is_long ref.name ≡ false
  short_reference ref k =
      let there = flat_map-In (λ m. m.names.references) ref ms k in
      let parts = there.0 in
      let after_sections = (either_false (list_any (λ s. is_long s.name) parts.sections) (list_any (λ p. is_long p.name) parts.names.publics
      || (list_any (λ r. is_long r.name) parts.names.references || list_any has_long_name (debug_marks parts)))
      (after_name parts (valid_module ms v parts there.1))).1 in
      let after_publics = (either_false (list_any (λ p. is_long p.name) parts.names.publics) (list_any (λ r. is_long r.name) parts.names.references
      || list_any has_long_name (debug_marks parts)) after_sections).1 in
      fails-In (λ r. is_long r.name) parts.names.references (either_false (list_any (λ r. is_long r.name) parts.names.references)
      (list_any has_long_name (debug_marks parts)) after_publics).0 ref there.2

  own_plain : (section : Section) → In section (flat_sections ms) → IsPlainSection section
  own_plain section k =
      let there = flat_map-In (λ m. m.sections) section ms k in
      let valid = valid_module ms v there.0 there.1 in
      let strings = (either_false (list_any (λ s. is_long s.name) there.0.sections) _ (after_name there.0 valid)).0 in
      record {
        short = fails-In (λ s. is_long s.name) there.0.sections strings section there.2;
        aligned = fails-In has_bad_alignment there.0.sections (no_defect there.0 valid d.BadAlign) section there.2;
      }

  common_plain : (plan : Plan) (section : Section) → In section (placed_commons ms plan) → IsPlainSection section
  common_plain plan section k =
      let common = common_reference ms plan section k in
      record {
        short = ap (λ (x : Section). is_long x.name) common.2 ∙ short_reference common.0 common.1;
        aligned = ap (λ (x : Section). (x.align == 0) || nat_lt MOST_ALIGNMENT x.align) common.2;
      }

  pub sections_plain : (plan : Plan) (section : Section) → In section (extended_sections ms plan) → IsPlainSection section
  sections_plain plan section k = by_case (In-append section (flat_sections ms) (placed_commons ms plan) k) where
    by_case : In section (flat_sections ms) ⊎ In section (placed_commons ms plan) → IsPlainSection section
    by_case (inl k) = own_plain section k
    by_case (inr k) = common_plain plan section k
